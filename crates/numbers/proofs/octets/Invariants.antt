-- The bytes laid so far are the body's.
use Rattle.std.proofs.Common.{◌≡◌, ℕ, ◌<◌, length, get_or}
use Rattle.numbers.proofs.octets.Given as goal

abbrev pub invariant-loop-k : goal.invariant-loop-k
invariant-loop-k g l = record {
  whole : length l.byte-items ≡ g.row.N;
  laid : (j : ℕ) → j < l.k → get_or l.byte-items j 0 ≡ get_or l.rest j 0;
}
