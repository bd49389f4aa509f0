-- Numbers as text, in decimal. A byte is its ASCII number.
use Rattle.std.specs.Prelude.{ℕ, zero, suc, ◌+◌, ◌-◌, ◌/◌, ◌%◌, List, [], ◌∷◌, ◌++◌, ltb}
use Rattle.choice.specs.Choice.{pick}

-- a number's digits, at most so many of them, the most significant first
unfoldable pub digits_in : ℕ → ℕ → List ℕ
digits_in zero n = []
digits_in (suc most) n = pick (ltb n 10) ((48 + n) ∷ []) (digits_in most (n / 10) ++ ((48 + n % 10) ∷ []))

-- a number's digits, with no zero in front; a number has fewer digits than one more than itself
unfoldable pub decimal : ℕ → List ℕ
decimal n = digits_in (suc n) n

-- a 32-bit word as a signed number: where its top bit is set, a minus and what it lacks to 2 ^ 32
unfoldable pub signed : ℕ → List ℕ
signed n = pick (ltb n 2147483648) (decimal n) (45 ∷ decimal (4294967296 - n))
