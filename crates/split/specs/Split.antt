-- Split order (figure 2): the split keys, by which the one list is kept in order.
use Rattle.std.specs.Prelude.{ℕ, zero, suc, ◌+◌, ◌*◌, ◌/◌, ◌%◌, ◌^◌}

-- the lowest k bits of x in reverse: the lowest becomes the top one
unfoldable pub rev : ℕ → ℕ → ℕ
rev zero x = 0
rev (suc k) x = x % 2 * 2 ^ k + rev k (x / 2)

-- the reversal of a word of 32 bits, since recursive split-ordering compares keys from their lowest bit
unfoldable pub reverse : ℕ → ℕ
reverse x = rev 32 x

-- a regular key's split key: its top bit is set, so that reversed it is odd and comes after its bucket's dummy
unfoldable pub regular : ℕ → ℕ
regular key = reverse (key % 2147483648 + 2147483648)

-- a dummy's split key: the reversal of its bucket's number, so that it comes before all the bucket's keys
unfoldable pub dummy : ℕ → ℕ
dummy bucket = reverse bucket
