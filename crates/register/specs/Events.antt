-- What takes effect in a step, named by the step's own write, what an answer says, and what is in effect and not yet counted.
use Rattle.std.specs.Prelude.{ℕ, zero, suc, ◌+◌, ◌≤◌, ◌<◌, Bool, true, ◌||◌, List, ◌⊎◌, ◌≢◌, ◌≡◌, eqb, get_or, Ok, Err}
use Rattle.choice.specs.Choice.{pick}
use Rattle.words.specs.Words.{Tables, lengths}
use Rattle.names.specs.Names.{KEY, EXTRA, INSERT, FIND, DELETE}
use Rattle.names.specs.Places.{insert_in, delete_in, in_effect}
use Rattle.names.specs.declared.Answer.{Answer}
use Rattle.names.specs.declared.Answer.TheVariants.{Yes, No}
use Rattle.record.specs.declared.Worker.{Worker}
use Rattle.record.specs.Worker.{idle, searches_for}
use Rattle.acts.specs.declared.Effect.{Effect}
use Rattle.acts.specs.declared.Effect.TheVariants.{Nothing, TakeKey, TakeDummy, Free, Aim, Place, Mark, Unlink, Store, Count, Size}
use Rattle.acts.specs.declared.Move.{Move}
use Rattle.acts.specs.declared.Move.TheVariants.{Damaged, Going, Ended}
use Rattle.moves.specs.Moves.{decided}
use Rattle.register.specs.declared.Turn.{Turn}
use Rattle.names.specs.Verdicts.{Verdict}
use Rattle.register.specs.Step.{seen_by}
use Rattle.register.specs.Calls.{step_verdict}

pub data Event : Type 0 where
  nothing : Event
  added removed : (key : ℕ) → Event

-- L2: "an insert takes effect here", on the errand of its key. D4a: "A delete takes effect here", at its mark
abbrev pub written : Worker → Effect → Event
written x Nothing = nothing
written x (TakeKey n split) = nothing
written x (TakeDummy n split) = nothing
written x (Free n) = nothing
written x (Aim n next) = nothing
written x (Place n next prev) = pick (eqb x.errand KEY) (added x.key) nothing
written x (Mark n next) = removed x.key
written x (Unlink prev next n busy) = nothing
written x (Store b n) = nothing
written x (Count v) = nothing
written x (Size v) = nothing

abbrev pub taking : Worker → Move → Event
taking x Damaged = nothing
taking x (Going y e) = written x e
taking x (Ended a e) = written x e

abbrev pub stepping : Turn → Verdict → Move → Event
stepping t (Err a) m = nothing
stepping t (Ok _) m = taking t.worker m

-- what takes effect in one step; nothing in a refused one
abbrev pub event_of : Turn → Tables → Event
event_of t ts = stepping t (step_verdict t (lengths ts)) (decided (seen_by t ts))

-- ---- what an event does to a set of keys
-- a key is added where it is absent, and removed where it is present
abbrev pub Allowed : Event → (ℕ → Type 0) → Type 0
Allowed nothing set = Unit {0}
Allowed (added k) set = set k → ⊥
Allowed (removed k) set = set k

-- the set afterwards
abbrev pub Then : Event → (ℕ → Type 0) → ℕ → Type 0
Then nothing set j = set j
Then (added k) set j = (j ≡ k) ⊎ set j
Then (removed k) set j = (j ≢ k) × set j

-- "A no to an insert, and a yes to a find, says the key was registered; a no to a find or a delete says it wasn't;
-- a yes to an insert or delete says its effect changed the set"
pub data Says (k : ℕ) (registered : Type 0) : (kind : ℕ) → Answer → Event → Type 0 where
  yes_insert : Says k registered INSERT Yes (added k)
  yes_delete : Says k registered DELETE Yes (removed k)
  yes_find : registered → Says k registered FIND Yes nothing
  no_insert : registered → Says k registered INSERT No nothing
  no_find : (registered → ⊥) → Says k registered FIND No nothing
  no_delete : (registered → ⊥) → Says k registered DELETE No nothing

-- ---- counting
-- 1 where an insert, or a delete, of one of these keys takes effect
abbrev pub adds : (ℕ → Bool) → Event → ℕ
adds these nothing = 0
adds these (added k) = pick (these k) 1 0
adds these (removed k) = 0

abbrev pub removes : (ℕ → Bool) → Event → ℕ
removes these nothing = 0
removes these (added k) = 0
removes these (removed k) = pick (these k) 1 0

-- every key
abbrev pub all : ℕ → Bool
all k = true

-- the worker's operation has taken effect; a delete's one search more comes after its effect
abbrev pub took_effect : Worker → Bool
took_effect x = in_effect x.place || searches_for EXTRA x

-- 1 where the worker's insert is in effect and not yet counted, up to I9
abbrev pub uncounted_in : Worker → ℕ
uncounted_in x = pick (insert_in x.place) 1 0

-- 1 where its delete is, up to D6; the extra search is between D4b and D6
abbrev pub uncounted_out : Worker → ℕ
uncounted_out x = pick (delete_in x.place || searches_for EXTRA x) 1 0

-- the sum over the records of workers 0 to n - 1
abbrev pub sum_of : (Worker → ℕ) → List Worker → ℕ → ℕ
sum_of f ws zero = 0
sum_of f ws (suc w) = f (get_or ws w idle) + sum_of f ws w

-- the count, "with the top bit set it is read as negative", plus x is y
abbrev pub Signed : ℕ → ℕ → ℕ → Type 0
Signed count x y = ((count < 2147483648) × (count + x ≡ y)) ⊎ ((2147483648 ≤ count) × (count + x ≡ y + 4294967296))
