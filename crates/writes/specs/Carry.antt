-- A decision carried out: the write, and at an ended answer the operation closed.
use Rattle.std.specs.Prelude.{ℕ, List}
use Rattle.words.specs.Words.{Tables, tables, Left, left, STANDING, FREE, put}
use Rattle.scans.specs.Scans.{sweep}
use Rattle.names.specs.declared.Answer.{Answer}
use Rattle.names.specs.declared.Answer.TheVariants.{Going as GoingOn, Damaged as IsDamaged}
use Rattle.header.specs.declared.Header.{Header}
use Rattle.header.specs.Header.{busy_without}
use Rattle.record.specs.declared.Worker.{Worker}
use Rattle.record.specs.Worker.{idle, ticked, held_key, held_dummy}
use Rattle.acts.specs.declared.Outcome.{Outcome}
use Rattle.acts.specs.Acts.{handed_back}
use Rattle.acts.specs.declared.Effect.{Effect}
use Rattle.acts.specs.declared.Move.{Move}
use Rattle.acts.specs.declared.Move.TheVariants.{Damaged, Going, Ended}
use Rattle.writes.specs.Writes.{Stores, none, nodes_after, header_after, stored_by, stored_in}

-- the operation goes on: the step is counted in the record
abbrev pub onward : Worker → Effect → Header → Outcome
onward x e h = handed_back GoingOn (header_after e h) (ticked x)

-- the end: the nodes still held are free, the worker's bit leaves each standing that is a set, up to the last node
unfoldable pub closed_by : ℕ → ℕ → Worker → List ℕ → List ℕ
closed_by last w x ns = sweep w last (put (put ns (held_key x) STANDING FREE) (held_dummy x) STANDING FREE)

-- the record is idle with zeros, the busy bit is cleared, and the ending step is counted in
abbrev pub ending : ℕ → Header → Worker → Answer → Effect → Outcome
ending w h x a e = record { called = record { answer = a; steps = (ticked x).steps; header = busy_without w (header_after e h) }; worker = idle }

-- ---- a decision carried out for worker w, with its header and record: what it hands back
abbrev pub outcome_of : ℕ → Header → Worker → Move → Outcome
outcome_of w h x Damaged = handed_back IsDamaged h x
outcome_of w h x (Going y e) = onward y e h
outcome_of w h x (Ended a e) = ending w h x a e

-- what it leaves in the nodes, where the last node is `last`
abbrev pub nodes_left : ℕ → ℕ → Worker → Move → List ℕ → List ℕ
nodes_left last w x Damaged ns = ns
nodes_left last w x (Going y e) ns = nodes_after e ns
nodes_left last w x (Ended a e) ns = closed_by last w x (nodes_after e ns)

-- what is to be stored in the buckets
abbrev pub store_of : Move → Stores
store_of Damaged = none
store_of (Going y e) = stored_by e
store_of (Ended a e) = stored_by e

-- and over a table of bucket words all that it leaves
abbrev pub carried_by : ℕ → ℕ → Header → Worker → Move → Tables → Left Outcome
carried_by last w h x d ts = left (outcome_of w h x d) (tables (nodes_left last w x d ts.nodes) (stored_in (store_of d) ts.buckets))
