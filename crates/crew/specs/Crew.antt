-- The calls over the lent table of records: the register's own call on record w, and the record stored back.
use Rattle.std.specs.Prelude.{ℕ, zero, suc, Bool, List, ltb, length, get_or, set}
use Rattle.choice.specs.Choice.{pick}
use Rattle.words.specs.Words.{Tables, lengths, Left, left}
use Rattle.names.specs.Names.{goes_on}
use Rattle.names.specs.declared.Answer.TheVariants.{Going}
use Rattle.header.specs.declared.Header.{Header}
use Rattle.header.specs.Header.{missing}
use Rattle.record.specs.declared.Worker.{Worker}
use Rattle.record.specs.Worker.{idle}
use Rattle.acts.specs.declared.Called.{Called}
use Rattle.acts.specs.declared.Outcome.{Outcome}
use Rattle.acts.specs.Acts.{answered}
use Rattle.prepare.specs.declared.Limits.{Limits}
use Rattle.prepare.specs.Prepare.{too_few_for, prepared}
use Rattle.register.specs.declared.Call.{Call}
use Rattle.register.specs.declared.Call.TheVariants.{Start, Step}
use Rattle.register.specs.declared.Turn.{Turn}
use Rattle.register.specs.Step.{refused_with}
use Rattle.register.specs.Calls.{asked_of}

-- what a call hands back, and the records that it leaves
pub record Crew : Type 0 where
  pub called : Called
  pub workers : List Worker

abbrev pub crew : Called → List Worker → Crew
crew c ws = record { called = c; workers = ws }

-- ---- one worker's call
-- worker w with its record; past the table it is idle, and there w is W or above
abbrev pub turn_at : Header → List Worker → ℕ → Turn
turn_at h ws w = record { number = w; header = h; worker = get_or ws w idle }

-- the register's own call, with the record in hand; fewer records than W: 12, then 11
unfoldable pub one_call : Turn → Bool → Call → Tables → Left Outcome
one_call t few c ts = pick few (left (refused_with (missing t.header few (lengths ts)) t) ts) (asked_of t c ts)

-- record w is stored back; past the table there is nothing to store
abbrev pub stored : List Worker → ℕ → Left Outcome → Left Crew
stored ws w l = left (crew l.out.called (set ws w l.out.worker)) l.tables

-- a start or one step of worker w
abbrev pub call_at : Header → List Worker → ℕ → Call → Tables → Left Crew
call_at h ws w c ts = stored ws w (one_call (turn_at h ws w) (ltb (length ws) h.w) c ts)

-- ---- several steps of one worker: up to so many, ending after the first whose answer isn't 0
unfoldable pub most_at : ℕ → ℕ → Left Crew → Left Crew
most_at w zero l = l
most_at w (suc most) l =
    pick (goes_on l.out.called.answer) (most_at w most (call_at l.out.called.header l.out.workers w Step l.tables)) l

-- ---- a call of worker w, a step up to so many times; none is no call: going on, and all as it was
abbrev pub serve_at : Header → List Worker → ℕ → Call → ℕ → Tables → Left Crew
serve_at h ws w (Start kind key) most ts = call_at h ws w (Start kind key) ts
serve_at h ws w Step most ts = most_at w most (left (crew (answered Going h) ws) ts)

-- ---- preparing
-- the records once the first n are x
unfoldable pub filled : ℕ → Worker → List Worker → List Worker
filled zero x ws = ws
filled (suc n) x ws = set (filled n x ws) n x

-- what preparing hands back, and the records that it wants: the first `count` as `worker`
pub record Ready : Type 0 where
  pub called : Called
  pub count : ℕ
  pub worker : Worker

-- a prepared register wants W idle records, a refused one none
abbrev pub wants : ℕ → Called → Ready
wants w c = record { called = c; count = pick (goes_on c.answer) w 0; worker = idle }

-- preparing where there are so many records
unfoldable pub prepare_one : Limits → ℕ → Header → Tables → Left Ready
prepare_one l records h ts =
    let p = prepared l h ts in
    pick (ltb records l.w) (left (wants l.w (answered (too_few_for l) h)) ts) (left (wants l.w p.out) p.tables)

-- the records that are wanted are filled
abbrev pub made : List Worker → Left Ready → Left Crew
made ws p = left (crew p.out.called (filled p.out.count p.out.worker ws)) p.tables

-- a register is prepared: its W records are idle, and those past W stay
abbrev pub prepare_at : Limits → Header → List Worker → Tables → Left Crew
prepare_at l h ws ts = made ws (prepare_one l (length ws) h ts)
