-- Preparing: a table of refusals, and what a fresh register holds.
use Rattle.std.specs.Prelude.{◌*◌, [], ◌∷◌, Ok, Err}
use Rattle.choice.specs.Choice.{pick}
use Rattle.choice.specs.Table.{first_of}
use Rattle.words.specs.declared.Lengths.{Lengths}
use Rattle.words.specs.Words.{Tables, tables, lengths, Left, left, STANDING, TAKEN, put, store}
use Rattle.scans.specs.Scans.{cleared}
use Rattle.names.specs.declared.Answer.{Answer}
use Rattle.names.specs.declared.Answer.TheVariants.{Going, Limit, Short}
use Rattle.names.specs.Verdicts.{Verdict, refused_if}
use Rattle.header.specs.declared.Header.{Header}
use Rattle.header.specs.Header.{fresh, nodes_of, limit_broken, is_short}
use Rattle.acts.specs.declared.Called.{Called}
use Rattle.acts.specs.Acts.{answered}
use Rattle.prepare.specs.declared.Limits.{Limits}

-- size 2, count 0, nobody busy
abbrev pub fresh_header : Limits → Header
fresh_header l = fresh l.m l.k l.w l.l

-- 10, then 11
unfoldable pub prepare_verdict : Limits → Lengths → Verdict
prepare_verdict l lengths =
    first_of
    (refused_if Limit (limit_broken (fresh_header l))
    ∷ refused_if Short (is_short (fresh_header l) lengths)
    ∷ [])
    (Ok tt)

-- fewer records than W: 10, then 11
unfoldable pub too_few_for : Limits → Answer
too_few_for l = pick (limit_broken (fresh_header l)) Limit Short

-- all node words 0 but node 1, which is taken; bucket 0 holds 1, the others 0; the words past these as they were
abbrev pub fresh_tables : Header → Tables → Tables
fresh_tables h ts = tables (put (cleared (nodes_of h * 3) ts.nodes) 1 STANDING TAKEN) (store (cleared h.m ts.buckets) 0 1)

abbrev pub prepared_by : Limits → Header → Tables → Verdict → Left Called
prepared_by l h ts (Err a) = left (answered a h) ts
prepared_by l h ts (Ok _) = left (answered Going (fresh_header l)) (fresh_tables (fresh_header l) ts)

unfoldable pub prepared : Limits → Header → Tables → Left Called
prepared l h ts = prepared_by l h ts (prepare_verdict l (lengths ts))
