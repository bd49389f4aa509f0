-- A run: a freshly prepared register, then any calls, refused ones among them, each on what the last left.
use Rattle.std.specs.Prelude.{ℕ, zero, suc, ◌*◌, ◌≤◌, List, ◌≡◌, ltb, length, get_or}
use Rattle.choice.specs.Choice.{pick}
use Rattle.words.specs.Words.{Tables, Left, bucket}
use Rattle.names.specs.declared.Answer.{Answer}
use Rattle.names.specs.declared.Answer.TheVariants.{Going}
use Rattle.header.specs.declared.Header.{Header}
use Rattle.header.specs.Header.{nodes_of}
use Rattle.record.specs.declared.Worker.{Worker}
use Rattle.record.specs.Worker.{idle}
use Rattle.prepare.specs.declared.Limits.{Limits}
use Rattle.register.specs.declared.Call.TheVariants.{Start, Step}
use Rattle.register.specs.Events.{Event, nothing, event_of}
use Rattle.crew.specs.Crew.{Crew, turn_at, call_at, prepare_at}
use Rattle.story.specs.Shared.{Shared, Call, start, step, Told}

-- the register between two calls: all that the caller keeps
pub record State : Type 0 where
  pub header : Header
  pub workers : List Worker
  pub tables : Tables

abbrev pub state_of : Left Crew → State
state_of l = record { header = l.out.called.header; workers = l.out.workers; tables = l.tables }

-- what a call leaves, and what preparing leaves of what is lent to it
abbrev pub leaves : State → Call → Left Crew
leaves s (start w kind key) = call_at s.header s.workers w (Start kind key) s.tables
leaves s (step w) = call_at s.header s.workers w Step s.tables

abbrev pub prepares : Limits → State → Left Crew
prepares l s = prepare_at l s.header s.workers s.tables

-- what a call answers, and what takes effect in it
abbrev pub answer : State → Call → Answer
answer s c = (leaves s c).out.called.answer

abbrev pub event : State → Call → Event
event s (start w kind key) = nothing
event s (step w) = pick (ltb (length s.workers) s.header.w) nothing (event_of (turn_at s.header s.workers w) s.tables)

-- "From a freshly prepared register", over whatever header, records and words were lent, "under any sequence of starts and steps"
pub record Run : Type 0 where
  pub limits : Limits
  pub lent : State
  pub fresh : (prepares limits lent).out.called.answer ≡ Going
  pub call : ℕ → Call

-- call i takes state i to state i + 1; a list of calls is how such a sequence begins
abbrev pub state : Run → ℕ → State
state r zero = state_of (prepares r.limits r.lent)
state r (suc i) = state_of (leaves (state r i) (r.call i))

-- what any call is answered at state i
abbrev pub would : Run → ℕ → Call → Answer
would r i c = answer (state r i) c

-- ---- what the story sees of it: a bucket's value is its word
abbrev pub shared : State → Shared
shared s = record { header = s.header; workers = s.workers; nodes = s.tables.nodes; value = bucket s.tables.buckets }

abbrev pub shown : Run → Told
shown r = record { states = λ i. shared (state r i); call = r.call; answers = λ i. would r i (r.call i); events = λ i. event (state r i) (r.call i) }

-- "Words beyond these are never touched", nor are records past W
abbrev pub PastKept : Type 0
PastKept =
    (r : Run) (i n : ℕ)
    → (nodes_of (state r i).header * 3 ≤ n → get_or (state r i).tables.nodes n 0 ≡ get_or r.lent.tables.nodes n 0)
    × ((state r i).header.m ≤ n → get_or (state r i).tables.buckets n 0 ≡ get_or r.lent.tables.buckets n 0)
    × ((state r i).header.w ≤ n → get_or (state r i).workers n idle ≡ get_or r.lent.workers n idle)
