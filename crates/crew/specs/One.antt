-- The parts by value in which the code serves a worker: with its record in hand, and past the table.
use Rattle.std.specs.Prelude.{ℕ, zero, suc, Bool, false, ltb, eqb}
use Rattle.choice.specs.Choice.{pick}
use Rattle.words.specs.declared.Lengths.{Lengths}
use Rattle.words.specs.Words.{Tables, Left, left}
use Rattle.names.specs.Names.{goes_on}
use Rattle.names.specs.declared.Answer.TheVariants.{Going}
use Rattle.header.specs.declared.Header.{Header}
use Rattle.header.specs.Header.{missing}
use Rattle.record.specs.declared.Worker.{Worker}
use Rattle.acts.specs.declared.Called.{Called}
use Rattle.acts.specs.declared.Outcome.{Outcome}
use Rattle.acts.specs.Acts.{answered, handed_back}
use Rattle.register.specs.declared.Call.{Call}
use Rattle.register.specs.declared.Call.TheVariants.{Start, Step}
use Rattle.register.specs.declared.Turn.{Turn}
use Rattle.crew.specs.Crew.{one_call}

abbrev pub turn : Header → ℕ → Worker → Turn
turn h w x = record { number = w; header = h; worker = x }

-- no step is no call
abbrev pub no_call : Call → ℕ → Bool
no_call (Start kind key) most = false
no_call Step most = eqb most 0

-- a worker past the table, where there are so many records
unfoldable pub past_of : Header → Call → ℕ → ℕ → Lengths → Called
past_of h c most records lengths = pick (no_call c most) (answered Going h) (answered (missing h (ltb records h.w) lengths) h)

-- up to so many steps of worker w with its record in hand, ending after the first whose answer isn't 0
unfoldable pub most_of : ℕ → Bool → ℕ → Left Outcome → Left Outcome
most_of w few zero l = l
most_of w few (suc most) l =
    pick (goes_on l.out.called.answer) (most_of w few most (one_call (turn l.out.called.header w l.out.worker) few Step l.tables)) l

-- the call with the record in hand, where there are so many records
abbrev pub serve_one : Turn → ℕ → Call → ℕ → Tables → Left Outcome
serve_one t records (Start kind key) most ts = one_call t (ltb records t.header.w) (Start kind key) ts
serve_one t records Step most ts = most_of t.number (ltb records t.header.w) most (left (handed_back Going t.header t.worker) ts)
