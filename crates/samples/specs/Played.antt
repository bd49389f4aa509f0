-- A schedule played to its end over tables of zeros, by our register or by a wrong one, and the lines that it prints.
use Rattle.std.specs.Prelude.{ℕ, zero, suc, ◌+◌, ◌*◌, List, [], ◌∷◌, ◌≡◌, ltb, length, get_or}
use Rattle.choice.specs.Choice.{pick}
use Rattle.names.specs.Names.{ends}
use Rattle.names.specs.declared.Answer.{Answer}
use Rattle.names.specs.declared.Answer.TheVariants.{Going}
use Rattle.record.specs.Worker.{idle}
use Rattle.prepare.specs.declared.Limits.{Limits}
use Rattle.register.specs.Events.{Event}
use Rattle.words.specs.Words.{tables, Left}
use Rattle.header.specs.Header.{fresh}
use Rattle.crew.specs.Crew.{Crew, turn_at, stored}
use Rattle.promises.specs.Wrong.{Step}
use Rattle.story.specs.Shared.{worker_of, Call, start, step}
use Rattle.story.specs.Run.{State, state_of, leaves, prepares, event, Run, shared}

-- ---- what is lent: tables of zeros, just long enough
abbrev pub times : {A : Type 0} → ℕ → A → List A → List A
times zero x xs = xs
times (suc n) x xs = x ∷ times n x xs

abbrev pub zeroed : Limits → State
zeroed l = record {
  header = fresh 0 0 0 0;
  workers = times l.w idle [];
  tables = tables (times ((l.m + l.w + l.k) * 3) 0 []) (times l.m 0 []);
}

-- ---- a schedule: starts, and some steps of a worker
pub data Record : Type 0 where
  starts : (worker kind key : ℕ) → Record
  steps : (worker n : ℕ) → Record

abbrev pub calls_of : List Record → List Call
calls_of [] = []
calls_of (starts w kind key ∷ rs) = start w kind key ∷ calls_of rs
calls_of (steps w n ∷ rs) = times n (step w) (calls_of rs)

-- a register of these limits, prepared over them
abbrev pub Prepared : Limits → Type 0
Prepared l = (prepares l (zeroed l)).out.called.answer ≡ Going

abbrev pub begins : Limits → State
begins l = state_of (prepares l (zeroed l))

-- its run; after its calls worker 16 is asked, and there is none
abbrev pub run_of : (l : Limits) → Prepared l → List Record → Run
run_of l p rs = record { limits = l; lent = zeroed l; fresh = p; call = λ i. get_or (calls_of rs) i (step 16) }

-- ---- another register: our starts, and steps of its own
abbrev pub leaves_by : Step → State → Call → Left Crew
leaves_by other s (start w kind key) = leaves s (start w kind key)
leaves_by other s (step w) =
    pick (ltb (length s.workers) s.header.w) (leaves s (step w))
    (stored s.workers w (other (turn_at s.header s.workers w) s.tables))

-- its states, and what takes effect in them: such a register writes other words, and decides as ours does
abbrev pub state_by : Step → Run → ℕ → State
state_by other r zero = state_of (prepares r.limits r.lent)
state_by other r (suc i) = state_of (leaves_by other (state_by other r i) (r.call i))

abbrev pub event_by : Step → Run → ℕ → Event
event_by other r i = event (state_by other r i) (r.call i)

-- ---- what is printed_lines: "for each ended operation worker kind key answer steps"
pub record Line : Type 0 where
  pub worker : ℕ
  pub kind : ℕ
  pub key : ℕ
  pub answer : Answer
  pub steps : ℕ

abbrev pub line_of : (worker kind key : ℕ) → Answer → (steps : ℕ) → Line
line_of w kind key a n = record { worker = w; kind = kind; key = key; answer = a; steps = n }

abbrev pub printed_lines : State → Call → Left Crew → List Line → List Line
printed_lines s (start w kind key) l rest = rest
printed_lines s (step w) l rest =
    let x = worker_of (shared s) w in
    let c = l.out.called in
    pick (ends c.answer) (line_of w x.kind x.key c.answer c.steps ∷ rest) rest

-- the lines of these calls from a state on, by a register that leaves so much of a call
abbrev pub lines_of : (State → Call → Left Crew) → State → List Call → List Line
lines_of by s [] = []
lines_of by s (c ∷ cs) = let rest = lines_of by (state_of (by s c)) cs in printed_lines s c (by s c) rest

-- a schedule prints these lines
abbrev pub Prints : (State → Call → Left Crew) → Limits → List Record → List Line → Type 0
Prints by l rs lines = lines_of by (begins l) (calls_of rs) ≡ lines
