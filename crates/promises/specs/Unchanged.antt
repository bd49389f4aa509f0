-- "All the others from 10 on change no word and return header and record as they came (preparing is handed a header too)."
use Rattle.std.specs.Prelude.{ℕ, true, ◌≡◌}
use Rattle.names.specs.declared.Answer.{Answer}
use Rattle.names.specs.Names.{refuses}
use Rattle.header.specs.declared.Header.{Header}
use Rattle.prepare.specs.declared.Limits.{Limits}
use Rattle.register.specs.declared.Turn.{Turn}
use Rattle.words.specs.declared.Lengths.{Lengths}
use Rattle.words.specs.Words.{Tables, Left}
use Rattle.acts.specs.declared.Called.{Called}
use Rattle.acts.specs.declared.Outcome.{Outcome}
use Rattle.prepare.specs.Prepare.{prepared}
use Rattle.register.specs.Calls.{start_of, step_of}

-- a refusal: 18 and 19 end the operation
abbrev pub Refusal : Answer → Type 0
Refusal a = refuses a ≡ true

-- header and record are handed back as they came, and no steps are told
pub record HandedBack (t : Turn) (o : Outcome) : Type 0 where
  pub header : o.called.header ≡ t.header
  pub worker : o.worker ≡ t.worker
  pub steps : o.called.steps ≡ 0

-- no word is changed either
pub record Untouched (t : Turn) (ts : Tables) (l : Left Outcome) : Type 0 where
  pub tables : l.tables ≡ ts
  pub back : HandedBack t l.out

-- preparing leaves the header that it was handed, and no word is changed
pub record AsBefore (h : Header) (ts : Tables) (l : Left Called) : Type 0 where
  pub tables : l.tables ≡ ts
  pub header : l.out.header ≡ h
  pub steps : l.out.steps ≡ 0

-- a refused step
abbrev pub StepUnchanged : Type 0
StepUnchanged = (t : Turn) (ts : Tables) → Refusal (step_of t ts).out.called.answer → Untouched t ts (step_of t ts)

-- a refused start, which is lent the tables' lengths alone
abbrev pub StartUnchanged : Type 0
StartUnchanged =
    (t : Turn) (kind key : ℕ) (lengths : Lengths) → Refusal (start_of t kind key lengths).called.answer → HandedBack t (start_of t kind key lengths)

-- a refused preparing
abbrev pub PrepareUnchanged : Type 0
PrepareUnchanged = (l : Limits) (h : Header) (ts : Tables) → Refusal (prepared l h ts).out.answer → AsBefore h ts (prepared l h ts)
