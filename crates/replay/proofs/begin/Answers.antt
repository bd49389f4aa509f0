-- Each turn of the loop leads on, and where it ends, what stops the run and the last line are all that is left.
use Rattle.std.proofs.Common.{◌≡◌, sym, ap, ◌∙◌}
use Rattle.std.specs.Prelude.{Some, Ok}
use Rattle.words.specs.Words.{tables, left}
use Rattle.crew.specs.Crew.{crew}
use Rattle.text.specs.Text.{written}
use Rattle.text.proofs.Laying.{written_on}
use Rattle.script.specs.Script.{entry_at}
use Rattle.script.specs.declared.Record.{Record}
use Rattle.replay.specs.Replay.{later_record}
use Rattle.replay.proofs.Laws.{nearer, rest_stop, leads_on, begun_on}
use Rattle.replay.proofs.begin.Goals as goal
use Rattle.replay.proofs.begin.Goals.{in_default, in_default-2}

pub loop-record-smaller : goal.loop-record-smaller
loop-record-smaller c = nearer c.args.schedule.now c.loop-record.offset c.in-Ok-Some.record (sym (rw c.in-Ok-Some.field-0-is at c.in-Ok-Some.ensures))

pub loop-record-preserved : goal.loop-record-preserved
loop-record-preserved c =
    let m = c.play-bank in
    let l = c.loop-record in
    let is = sym (rw c.in-Ok-Some.field-0-is at c.in-Ok-Some.ensures) in
    leads_on c.args.schedule.now l.offset (left (crew l.bank.called l.bank.workers) (tables l.nodes l.buckets)) l.page {r = c.in-Ok-Some.record} {m = left (crew m.result.called m.result.workers) (tables m.new.nodes m.new.buckets)} l.invariant is
    c.body_of-body.ensures c.byte_at-w.ensures c.number_in-number.ensures c.operation_of-operation.ensures m.ensures c.put_call.ensures

pub returns : goal.returns
returns c =
    let a = c.args in
    let r = c.ready-bank in
    let l = c.loop-record in
    let t = c.goes_on in
    let first = left (crew r.result.called r.result.workers) (tables r.new.nodes r.new.buckets) in
    let none : (r : Record) → later_record (entry_at a.schedule.now l.offset) ≡ Ok (Some r) → ⊥ = elim c.match-later_at.branch [ in_default w ↦ λ _ e. cc | in_default-2 w ↦ λ _ e. cc ] in
    let stop = rest_stop a.schedule.now l.offset (left (crew l.bank.called l.bank.workers) (tables l.nodes l.buckets)) none in
    rw (c.put_last.ensures, c.put_stop.ensures, written_on, ← stop, l.invariant, c.put_first.ensures, written_on)
    (ap (written a.page.now) (begun_on a.schedule.now a.next first _ _ r.ensures c.body_of.ensures (sym t.ensures ∙ c.if-not-goes_on.false)))
