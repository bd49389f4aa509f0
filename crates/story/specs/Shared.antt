-- The register between two calls as the story sees it, whatever its buckets lie in, and what a sequence of calls shows.
use Rattle.std.specs.Prelude.{ℕ, List, get_or}
use Rattle.names.specs.declared.Answer.{Answer}
use Rattle.header.specs.declared.Header.{Header}
use Rattle.record.specs.declared.Worker.{Worker}
use Rattle.record.specs.Worker.{idle}
use Rattle.register.specs.Events.{Event}

-- of a bucket the story knows the value alone
pub record Shared : Type 0 where
  pub header : Header
  pub workers : List Worker
  pub nodes : List ℕ
  pub value : ℕ → ℕ

abbrev pub worker_of : Shared → ℕ → Worker
worker_of s w = get_or s.workers w idle

-- a call: any worker number, any kind and key
pub data Call : Type 0 where
  start : (worker kind key : ℕ) → Call
  step : (worker : ℕ) → Call

-- call i takes state i to state i + 1; it was answered, and something took effect in it or nothing did
pub record Told : Type 0 where
  pub states : ℕ → Shared
  pub call : ℕ → Call
  pub answers : ℕ → Answer
  pub events : ℕ → Event
