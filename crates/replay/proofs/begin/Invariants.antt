-- What is still to be printed, laid where the last line ended, leaves the whole text.
use Rattle.std.proofs.Common.{◌≡◌, ◌-◌, length}
use Rattle.words.specs.Words.{tables, left}
use Rattle.crew.specs.Crew.{crew}
use Rattle.text.specs.Text.{written}
use Rattle.replay.proofs.Laws.{rest_lines}
use Rattle.replay.proofs.begin.Given as goal

abbrev pub invariant-loop-record : goal.invariant-loop-record
invariant-loop-record l =
    written l.page (rest_lines l.schedule l.offset (left (crew l.bank.called l.bank.workers) (tables l.nodes l.buckets)))
    ≡ written l.initial.page (rest_lines l.schedule l.initial.offset (left (crew l.initial.bank.called l.initial.bank.workers) (tables l.initial.nodes l.initial.buckets)))

abbrev pub decreases-loop-record : goal.decreases-loop-record
decreases-loop-record l = length l.schedule - l.offset
