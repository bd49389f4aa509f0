-- After i turns the first i words of the record stand in the table.
use Rattle.std.proofs.Common.{◌≡◌}
use Rattle.welmuzra.specs.Words.{words_put}
use Rattle.welmuzra.proofs.store_record.Given as goal

abbrev pub invariant-loop-i : goal.invariant-loop-i
invariant-loop-i l = l.records ≡ words_put l.i l.word-items l.at l.initial.records
