-- The calls over the lent table of records: when each is refused, in the order of the register's own, and that a refusal changes nothing.
use Rattle.std.specs.Prelude.{ℕ, ◌<◌, true, List, ◌⊎◌, ◌↔◌, ◌≡◌, length}
use Rattle.words.specs.declared.Lengths.{Lengths}
use Rattle.words.specs.Words.{Tables, lengths, Left}
use Rattle.choice.specs.Table.{RefusedBy}
use Rattle.names.specs.Names.{has_row}
use Rattle.names.specs.declared.Answer.{Answer}
use Rattle.header.specs.declared.Header.{Header}
use Rattle.record.specs.declared.Worker.{Worker}
use Rattle.prepare.specs.declared.Limits.{Limits}
use Rattle.prepare.specs.Prepare.{fresh_header}
use Rattle.register.specs.declared.Call.TheVariants.{Start, Step}
use Rattle.crew.specs.Crew.{Crew, turn_at, call_at, prepare_at}
use Rattle.promises.specs.Refusals.{TooShort, prepare_claims, start_claims, step_claims}
use Rattle.promises.specs.Unchanged.{Refusal}

-- "a lent table is too short (of records, where lent: under W)"
abbrev pub TableTooShort : Header → ℕ → Lengths → Type 0
TableTooShort h records lengths = TooShort h lengths ⊎ (records < h.w)

-- ---- each refusal is given exactly when its row holds and no earlier one does
abbrev pub PrepareAtExactly : Type 0
PrepareAtExactly =
    (l : Limits) (h : Header) (ws : List Worker) (ts : Tables) (a : Answer) → has_row a ≡ true
    → ((prepare_at l h ws ts).out.called.answer ≡ a)
    ↔ RefusedBy (prepare_claims l (TableTooShort (fresh_header l) (length ws) (lengths ts))) a

-- the record is that of the table; past the table the number is W or above, and 13 comes before any record is looked at
abbrev pub StartAtExactly : Type 0
StartAtExactly =
    (h : Header) (ws : List Worker) (w kind key : ℕ) (ts : Tables) (a : Answer) → has_row a ≡ true
    → ((call_at h ws w (Start kind key) ts).out.called.answer ≡ a)
    ↔ RefusedBy (start_claims (turn_at h ws w) kind key (TableTooShort h (length ws) (lengths ts))) a

abbrev pub StepAtExactly : Type 0
StepAtExactly =
    (h : Header) (ws : List Worker) (w : ℕ) (ts : Tables) (a : Answer) → has_row a ≡ true
    → ((call_at h ws w Step ts).out.called.answer ≡ a)
    ↔ RefusedBy (step_claims (turn_at h ws w) ts (TableTooShort h (length ws) (lengths ts))) a

-- ---- a refusal changes no word and no record, hands the header back and tells no steps
pub record AllAsBefore (h : Header) (ws : List Worker) (ts : Tables) (l : Left Crew) : Type 0 where
  pub header : l.out.called.header ≡ h
  pub steps : l.out.called.steps ≡ 0
  pub workers : l.out.workers ≡ ws
  pub tables : l.tables ≡ ts

-- a call that leaves l leaves all as before if it is refused
abbrev pub UnchangedIn : Header → List Worker → Tables → Left Crew → Type 0
UnchangedIn h ws ts l = Refusal l.out.called.answer → AllAsBefore h ws ts l

abbrev pub PrepareAtUnchanged : Type 0
PrepareAtUnchanged = (l : Limits) (h : Header) (ws : List Worker) (ts : Tables) → UnchangedIn h ws ts (prepare_at l h ws ts)

abbrev pub StartAtUnchanged : Type 0
StartAtUnchanged =
    (h : Header) (ws : List Worker) (w kind key : ℕ) (ts : Tables) → UnchangedIn h ws ts (call_at h ws w (Start kind key) ts)

abbrev pub StepAtUnchanged : Type 0
StepAtUnchanged = (h : Header) (ws : List Worker) (w : ℕ) (ts : Tables) → UnchangedIn h ws ts (call_at h ws w Step ts)
