-- The refusals of a call in the parts in which the code runs them. That they make up the tables of a start and of a step is proved (proofs/Laws.antt).
use Rattle.std.specs.Prelude.{not, ◌||◌, [], ◌∷◌, ltb, leb, eqb, Ok}
use Rattle.std.specs.Result.{result_and}
use Rattle.choice.specs.Table.{first_of}
use Rattle.words.specs.declared.Lengths.{Lengths}
use Rattle.names.specs.Names.{IDLE, INSERT, DELETE, KEY_LIMIT}
use Rattle.names.specs.declared.Answer.TheVariants.{Short, Damaged, NoWorker, KeyAbove, IsBusy, IsIdle, NoKind}
use Rattle.names.specs.Verdicts.{Verdict, refused_if}
use Rattle.header.specs.Header.{header_damaged, is_short}
use Rattle.faults.specs.Faults.{worker_damaged}
use Rattle.register.specs.declared.Call.{Call}
use Rattle.register.specs.declared.Call.TheVariants.{Start, Step}
use Rattle.register.specs.declared.Turn.{Turn}

-- what a start and a step check first: 12, 11, 13
unfoldable pub call_verdict : Turn → Lengths → Verdict
call_verdict t lengths =
    first_of
    (refused_if Damaged (header_damaged t.header)
    ∷ refused_if Short (is_short t.header lengths)
    ∷ refused_if NoWorker (leb t.header.w t.number)
    ∷ [])
    (Ok tt)

-- what a start is asked for: 17, 14; a step is asked for nothing that could be refused
unfoldable pub ask_verdict : Call → Verdict
ask_verdict (Start kind key) =
    first_of
    (refused_if NoKind (ltb kind INSERT || ltb DELETE kind)
    ∷ refused_if KeyAbove (ltb KEY_LIMIT key)
    ∷ [])
    (Ok tt)
ask_verdict Step = Ok tt

-- all that is checked before the record is asked whether it is idle: the first that refuses
unfoldable pub open_verdict : Turn → Call → Lengths → Verdict
open_verdict t c lengths =
    result_and (call_verdict t lengths)
    (result_and (ask_verdict c) (first_of (refused_if Damaged (worker_damaged t.header t.number t.worker) ∷ []) (Ok tt)))

-- and then: 15 for a start, 16 for a step
unfoldable pub busy_verdict : Turn → Verdict
busy_verdict t = first_of (refused_if IsBusy (not (eqb t.worker.place IDLE)) ∷ []) (Ok tt)

unfoldable pub idle_verdict : Turn → Verdict
idle_verdict t = first_of (refused_if IsIdle (eqb t.worker.place IDLE) ∷ []) (Ok tt)
