-- The load test is a test joined of comparisons, and the last of them says what growing needs: whoever doubles a size knows this law alone.
-- Assumes nothing.
use Rattle.std.proofs.Common.{◌≡◌, ℕ, ◌/◌, ◌<◌, true}
use Rattle.choice.proofs.Telling.{tells_lt, tells_and}
use Rattle.header.specs.Header.{doubles}
use Rattle.header.specs.declared.Header.{Header}

-- a size that is doubled is below M
pub doubles_below : (h : Header) (size count : ℕ) → doubles h size count ≡ true → size < h.m
unfolding doubles
doubles_below h size count e = ((tells_and (tells_and (tells_lt count 2147483648) (tells_lt h.l (count / size))) (tells_lt size h.m)).sound e).1
