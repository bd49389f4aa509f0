-- The calls: each a table of refusals in the scope paper's order, a row each, and what is done where no row holds.
use Rattle.std.specs.Prelude.{ℕ, not, ◌||◌, [], ◌∷◌, ltb, leb, eqb, Ok, Err}
use Rattle.choice.specs.Table.{first_of}
use Rattle.words.specs.declared.Lengths.{Lengths}
use Rattle.words.specs.Words.{Tables, lengths, Left, left}
use Rattle.names.specs.Names.{IDLE, INSERT, DELETE, KEY_LIMIT}
use Rattle.names.specs.declared.Answer.TheVariants.{Going, Short, Damaged, NoWorker, KeyAbove, IsBusy, IsIdle, NoKind}
use Rattle.names.specs.Verdicts.{Verdict, refused_if}
use Rattle.header.specs.Header.{busy_with, header_damaged, is_short}
use Rattle.record.specs.Worker.{begun}
use Rattle.faults.specs.Faults.{worker_damaged}
use Rattle.moves.specs.Moves.{decided}
use Rattle.acts.specs.declared.Outcome.{Outcome}
use Rattle.acts.specs.Acts.{handed_back}
use Rattle.register.specs.declared.Call.{Call}
use Rattle.register.specs.declared.Call.TheVariants.{Start, Step}
use Rattle.register.specs.declared.Turn.{Turn}
use Rattle.register.specs.Step.{refused_with, seen_by, carried}

-- ---- starting: 12, 11, 13, 17, 14, 12, 15
unfoldable pub start_verdict : Turn → ℕ → ℕ → Lengths → Verdict
start_verdict t kind key lengths =
    first_of
    (refused_if Damaged (header_damaged t.header)
    ∷ refused_if Short (is_short t.header lengths)
    ∷ refused_if NoWorker (leb t.header.w t.number)
    ∷ refused_if NoKind (ltb kind INSERT || ltb DELETE kind)
    ∷ refused_if KeyAbove (ltb KEY_LIMIT key)
    ∷ refused_if Damaged (worker_damaged t.header t.number t.worker)
    ∷ refused_if IsBusy (not (eqb t.worker.place IDLE))
    ∷ [])
    (Ok tt)

-- starting is private: it sets the busy bit and the record
abbrev pub started_by : Turn → ℕ → ℕ → Verdict → Outcome
started_by t kind key (Err a) = refused_with a t
started_by t kind key (Ok _) = handed_back Going (busy_with t.number t.header) (begun kind key)

-- of the lent tables a start looks at their lengths alone, and it writes neither
unfoldable pub start_of : Turn → ℕ → ℕ → Lengths → Outcome
start_of t kind key lengths = started_by t kind key (start_verdict t kind key lengths)

-- ---- stepping: 12, 11, 13, 12, 16; then the words read (12), 18 or 19
unfoldable pub step_verdict : Turn → Lengths → Verdict
step_verdict t lengths =
    first_of
    (refused_if Damaged (header_damaged t.header)
    ∷ refused_if Short (is_short t.header lengths)
    ∷ refused_if NoWorker (leb t.header.w t.number)
    ∷ refused_if Damaged (worker_damaged t.header t.number t.worker)
    ∷ refused_if IsIdle (eqb t.worker.place IDLE)
    ∷ [])
    (Ok tt)

abbrev pub stepped_by : Turn → Tables → Verdict → Left Outcome
stepped_by t ts (Err a) = left (refused_with a t) ts
stepped_by t ts (Ok _) = carried t (decided (seen_by t ts)) ts

unfoldable pub step_of : Turn → Tables → Left Outcome
step_of t ts = stepped_by t ts (step_verdict t (lengths ts))

-- ---- either call
abbrev pub asked_of : Turn → Call → Tables → Left Outcome
asked_of t (Start kind key) ts = left (start_of t kind key (lengths ts)) ts
asked_of t Step ts = step_of t ts
