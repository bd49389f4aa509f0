-- A trace: what the story knows of a register between two calls, whatever its buckets lie in. Of a bucket it knows the value alone, by three laws:
-- a step reads the value of the bucket that its place asks for; a store sets the one bucket's value; every other call leaves the values as they are.
use Rattle.std.specs.Prelude.{ℕ, suc, ◌*◌, ◌≤◌, ◌<◌, List, ◌≢◌, ◌≡◌, length, set, Ok, Err}
use Rattle.words.specs.declared.Lengths.{Lengths}
use Rattle.words.specs.Words.{STANDING, TAKEN, word}
use Rattle.names.specs.Names.{IDLE}
use Rattle.names.specs.declared.Answer.{Answer}
use Rattle.names.specs.declared.Answer.TheVariants.{Going as GoingOn}
use Rattle.names.specs.Verdicts.{Verdict}
use Rattle.header.specs.declared.Header.{Header}
use Rattle.header.specs.Header.{nodes_of}
use Rattle.header.specs.Rows as rows
use Rattle.record.specs.declared.Worker.{Worker}
use Rattle.record.specs.Worker.{idle, ticked}
use Rattle.prepare.specs.declared.Limits.{Limits}
use Rattle.prepare.specs.Prepare.{fresh_header}
use Rattle.acts.specs.declared.Move.{Move}
use Rattle.moves.specs.declared.Seen.{Seen}
use Rattle.moves.specs.Moves.{decided}
use Rattle.acts.specs.declared.Outcome.{Outcome}
use Rattle.writes.specs.Writes.{Stores, none, into}
use Rattle.writes.specs.Carry.{store_of}
use Rattle.register.specs.declared.Turn.{Turn}
use Rattle.register.specs.Step.{refused_with, asked_bucket, seen_with, hands_back, leaves_nodes}
use Rattle.register.specs.Calls.{start_verdict, started_by, step_verdict}
use Rattle.register.specs.Events.{Event, nothing, taking}
use Rattle.crew.specs.Crew.{turn_at}
use Rattle.story.specs.Shared.{Shared, worker_of, Call, start, step, Told}

-- ---- the laws of the values below M: the quiet law, and the law of a store
abbrev pub Quiet : (M : ℕ) (β β' : ℕ → ℕ) → Type 0
Quiet M β β' = (i : ℕ) → i < M → β' i ≡ β i

abbrev pub Keeps : (M : ℕ) → Stores → (β β' : ℕ → ℕ) → Type 0
Keeps M none β β' = Quiet M β β'
Keeps M (into b n) β β' = (b < M → β' b ≡ n) × ((i : ℕ) → i < M → i ≢ b → β' i ≡ β i)

-- ---- a call
abbrev pub turn_of : Shared → ℕ → Turn
turn_of s w = turn_at s.header s.workers w

-- the read law: what the step of worker w sees
abbrev pub seen_at : Shared → ℕ → Seen
seen_at s w = seen_with (turn_of s w) s.nodes (s.value (asked_bucket (turn_of s w)))

-- what a call leaves, but for the buckets, and what it stores in them
pub record Done : Type 0 where
  pub answer : Answer
  pub event : Event
  pub header : Header
  pub workers : List Worker
  pub nodes : List ℕ
  pub stores : Stores

abbrev pub done_by : Shared → ℕ → Outcome → List ℕ → Stores → Event → Done
done_by s w o ns st ev = record { answer = o.called.answer; event = ev; header = o.called.header; workers = set s.workers w o.worker; nodes = ns; stores = st }

abbrev pub start_done : Shared → (w kind key : ℕ) → Verdict → Done
start_done s w kind key v = done_by s w (started_by (turn_of s w) kind key v) s.nodes none nothing

abbrev pub move_done : Shared → ℕ → Move → Done
move_done s w m = done_by s w (hands_back (turn_of s w) m) (leaves_nodes (turn_of s w) m s.nodes) (store_of m) (taking (worker_of s w) m)

abbrev pub step_done : Shared → ℕ → Verdict → Done
step_done s w (Err a) = done_by s w (refused_with a (turn_of s w)) s.nodes none nothing
step_done s w (Ok _) = move_done s w (decided (seen_at s w))

-- the lengths where the buckets are all there, so that of the tables the nodes alone may be short
abbrev pub all_there : Shared → Lengths
all_there s = record { nodes = length s.nodes; buckets = s.header.m }

abbrev pub done : Shared → Call → Done
done s (start w kind key) = start_done s w kind key (start_verdict (turn_of s w) kind key (all_there s))
done s (step w) = step_done s w (step_verdict (turn_of s w) (all_there s))

abbrev pub answer : Shared → Call → Answer
answer s c = (done s c).answer

-- ---- what preparing leaves
pub record First (l : Limits) (s : Shared) : Type 0 where
  pub limits : rows.Limits (fresh_header l)
  pub header : s.header ≡ fresh_header l
  pub long : nodes_of (fresh_header l) * 3 ≤ length s.nodes
  pub first_taken : word s.nodes 1 STANDING ≡ TAKEN
  pub node_words : (n j : ℕ) → j < 3 → n ≤ nodes_of (fresh_header l) → ((n ≡ 1) × (j ≡ STANDING) → ⊥) → word s.nodes n j ≡ 0
  pub first_bucket : s.value 0 ≡ 1
  pub bucket_words : (b : ℕ) → b < l.m → (b ≡ 0 → ⊥) → s.value b ≡ 0
  pub enough : l.w ≤ length s.workers
  pub rest : (v : ℕ) → v < l.w → worker_of s v ≡ idle

-- ---- what a call leaves
pub record Called (s : Shared) (c : Call) (a : Answer) (ev : Event) (s' : Shared) : Type 0 where
  pub answer : a ≡ (done s c).answer
  pub event : ev ≡ (done s c).event
  pub header : s'.header ≡ (done s c).header
  pub workers : s'.workers ≡ (done s c).workers
  pub nodes : s'.nodes ≡ (done s c).nodes
  pub values : Keeps s.header.m (done s c).stores s.value s'.value

-- a pause: a step of a busy worker that is counted in its record, and does nothing else that the story sees
pub record Paused (s : Shared) (c : Call) (a : Answer) (ev : Event) (s' : Shared) : Type 0 where
  pub who : ℕ
  pub call : c ≡ step who
  pub real : who < s.header.w
  pub busy : (worker_of s who).place ≢ IDLE
  pub answer : a ≡ GoingOn
  pub event : ev ≡ nothing
  pub header : s'.header ≡ s.header
  pub workers : s'.workers ≡ set s.workers who (ticked (worker_of s who))
  pub nodes : s'.nodes ≡ s.nodes
  pub values : Quiet s.header.m s.value s'.value

pub data Next (s : Shared) (c : Call) (a : Answer) (ev : Event) (s' : Shared) : Type 0 where
  calls : Called s c a ev s' → Next s c a ev s'
  pause : Paused s c a ev s' → Next s c a ev s'

pub record Trace : Type 0 where
  pub limits : Limits
  pub states : ℕ → Shared
  pub call : ℕ → Call
  pub answers : ℕ → Answer
  pub events : ℕ → Event
  pub first : First limits (states 0)
  pub next : (i : ℕ) → Next (states i) (call i) (answers i) (events i) (states (suc i))

-- no step of it pauses
abbrev pub Unpaused : Trace → Type 0
Unpaused r = (i : ℕ) → (k : Called (r.states i) (r.call i) (r.answers i) (r.events i) (r.states (suc i))) × (r.next i ≡ calls k)

abbrev pub state : Trace → ℕ → Shared
state r i = r.states i

abbrev pub answer_at : Trace → ℕ → Answer
answer_at r i = r.answers i

abbrev pub event_at : Trace → ℕ → Event
event_at r i = r.events i

-- what it shows
abbrev pub told : Trace → Told
told r = record { states = r.states; call = r.call; answers = r.answers; events = r.events }
