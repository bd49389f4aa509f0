-- The last start of a worker before a call, and the events of its steps since then: what a run computes where the statements speak of an operation.
-- Assumes nothing.
use Prim.Native.Nat.{ℕ, zero, suc, ◌+◌}
use mathlib.Core.Bool.{Bool, false, ◌&&◌}
use lib.Dec.{eqb}
use Rattle.choice.specs.Choice.{pick}
use Rattle.names.specs.Names.{goes_on}
use Rattle.names.specs.declared.Answer.{Answer}
use Rattle.register.specs.Events.{Event, nothing, added, removed}
use Rattle.story.specs.Shared.{Call, start, step}
use Rattle.story.specs.Trace.{Trace, answer_at, event_at}

-- the call starts an operation of worker w
abbrev pub starts_of : ℕ → Call → Answer → Bool
starts_of w (start v kind key) a = eqb v w && goes_on a
starts_of w (step v) a = false

-- the last call before call i that started an operation of worker w
abbrev pub began : Trace → ℕ → ℕ → ℕ
began r w zero = 0
began r w (suc i) = pick (starts_of w (r.call i) (answer_at r i)) i (began r w i)

-- 1 where an event is that of a step of worker w
abbrev pub owns : ℕ → Call → Event → ℕ
owns w (start v kind key) ev = 0
owns w (step v) nothing = 0
owns w (step v) (added k) = pick (eqb v w) 1 0
owns w (step v) (removed k) = pick (eqb v w) 1 0

-- how many events the last operation of worker w had before call i
abbrev pub effects : Trace → ℕ → ℕ → ℕ
effects r w zero = 0
effects r w (suc i) = pick (starts_of w (r.call i) (answer_at r i)) 0 (owns w (r.call i) (event_at r i) + effects r w i)
