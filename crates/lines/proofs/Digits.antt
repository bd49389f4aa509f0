-- A number's digits are those of its tenth and its last one; the count of them allowed makes no difference once it is above the number.
-- Assumes nothing.
use Prim.Native.Nat.{ℕ, zero, suc, ◌+◌, ◌-◌, ◌/◌, ◌%◌, ◌^◌, ◌≤◌, ◌<◌}
use mathlib.Core.Bool.{Bool, true, false}
use mathlib.Core.Path.{◌≡◌, refl, sym, ap, ◌∙◌}
use mathlib.Core.List.{List, [], ◌∷◌, ◌++◌}
use native.Mathlib.Nat.{pow-suc, div-lt_iff_lt-mul, le-div_iff_mul-le}
use native.Mathlib.Omega.{arith}
use lib.Dec.{ltb}
use lib.ListN.{length, length-append}
use borrow.Author.Tests.{ltb-false, lt-ltb, le-ltb}
use Rattle.choice.specs.Choice.{pick}
use Rattle.choice.proofs.Auto.{pick_true, pick_false}
use Rattle.choice.proofs.Cases.{by_lt}
use Rattle.std.specs.Fmt.{decimal as text, signed_decimal}
use Rattle.std.specs.Int.{w32, cast_signed}
use Rattle.std.proofs.lemmas.Fmt.{decimal_by_steps}
use Rattle.lines.specs.Decimal.{digits_in, decimal, signed}

-- two choices that differ in the second way alone
same_else : {A : Type 0} (t : Bool) (a : A) {b b' : A} → (t ≡ false → b ≡ b') → pick t a b ≡ pick t a b'
unfolding pick
same_else true a f = refl
same_else false a f = f refl

-- any two counts above the number give the same digits
digits_most : (m k n : ℕ) → n < m → n < k → digits_in m n ≡ digits_in k n
unfolding digits_in
digits_most zero k n g h = absurd (omega arith)
digits_most (suc m) zero n g h = absurd (omega arith)
digits_most (suc m) (suc k) n g h =
    same_else (ltb n 10) ((48 + n) ∷ [])
    (λ e. ap (λ (ds : List ℕ). ds ++ ((48 + n % 10) ∷ [])) (let large : 10 ≤ n = ltb-false n 10 e in digits_most m k (n / 10) (omega arith) (omega arith)))

-- one digit
pub decimal_small : (n : ℕ) → n < 10 → decimal n ≡ (48 + n) ∷ []
unfolding decimal digits_in
decimal_small n h = pick_true (ltb n 10) ((48 + n) ∷ []) (digits_in n (n / 10) ++ ((48 + n % 10) ∷ [])) (lt-ltb n 10 h)

-- more digits
pub decimal_large : (n : ℕ) → 10 ≤ n → decimal n ≡ decimal (n / 10) ++ ((48 + n % 10) ∷ [])
unfolding decimal digits_in
decimal_large n h =
    pick_false (ltb n 10) ((48 + n) ∷ []) (digits_in n (n / 10) ++ ((48 + n % 10) ∷ [])) (le-ltb n 10 h)
    ∙ ap (λ (ds : List ℕ). ds ++ ((48 + n % 10) ∷ [])) (digits_most n (suc (n / 10)) (n / 10) (omega arith) (omega arith))

-- powers of ten
ten_lt : (k n : ℕ) → n < 10 ^ suc k → n / 10 < 10 ^ k
ten_lt k n h = (div-lt_iff_lt-mul {k = 10} {x = n} {y = 10 ^ k} (omega arith)).1 (rw pow-suc at h)

ten_le : (k n : ℕ) → 10 ^ suc k ≤ n → 10 ^ k ≤ n / 10
ten_le k n h = (le-div_iff_mul-le {k = 10} {x = 10 ^ k} {y = n} (omega arith)).1 (rw pow-suc at h)

ten_pos : (k : ℕ) → 1 ≤ 10 ^ k
ten_pos zero = omega arith
ten_pos (suc k) = rw pow-suc (omega (arith, ten_pos k))

-- what the library writes of a number is its digits
pub library_decimal : (n : ℕ) → n < 18446744073709551616 → text n ≡ decimal n
library_decimal = decimal_by_steps (λ m ds. ds ≡ decimal m) (λ m l. sym (decimal_small m l)) (λ m ds l h. rw (h, decimal_large m l) refl)

-- how many digits there are at most
digits_length : (most k n : ℕ) → 0 < k → n < 10 ^ k → length (digits_in most n) ≤ k
unfolding digits_in
digits_length zero k n p h = omega arith
digits_length (suc most) zero n p h = absurd (omega arith)
digits_length (suc most) (suc zero) n p h = rw (pick_true (ltb n 10) ((48 + n) ∷ []) (digits_in most (n / 10) ++ ((48 + n % 10) ∷ [])) (lt-ltb n 10 h)) (omega arith)
digits_length (suc most) (suc (suc k)) n p h =
    by_lt (λ (ds : List ℕ). length ds ≤ suc (suc k)) n 10
    (λ _. omega arith)
    (λ _. rw (length-append (digits_in most (n / 10)) ((48 + n % 10) ∷ [])) (omega (arith, digits_length most (suc k) (n / 10) (omega arith) (ten_lt (suc k) n h))))

pub decimal_length : (k n : ℕ) → 0 < k → n < 10 ^ k → length (decimal n) ≤ k
unfolding decimal
decimal_length k n p h = digits_length (suc n) k n p h

-- and of a word that is read as a signed number
pub library_signed : (n : ℕ) → n < 4294967296 → signed_decimal (cast_signed w32 n) ≡ signed n
unfolding signed
library_signed n h = at (ltb n 2147483648) refl
  where
    at : (t : Bool) → ltb n 2147483648 ≡ t → signed_decimal (cast_signed w32 n) ≡ signed n
    at true e = rw (e, pick_true true (decimal n) (45 ∷ decimal (4294967296 - n)) refl) (library_decimal n (omega (arith, h)))
    at false e =
        let k : suc (4294967296 - suc n) ≡ 4294967296 - n = omega (arith, h) in
        rw (e, k, pick_false false (decimal n) (45 ∷ decimal (4294967296 - n)) refl) (ap (λ (ds : List ℕ). 45 ∷ ds) (library_decimal (4294967296 - n) (omega (arith, h))))
