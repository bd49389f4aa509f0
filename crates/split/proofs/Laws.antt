-- Reversal puts the lowest bit on top and reverses the rest, so each law of k bits follows from the law of k - 1 bits for the half.
-- Assumes nothing.
use Prim.Native.Nat.{ℕ, zero, suc, ◌+◌, ◌*◌, ◌/◌, ◌%◌, ◌^◌, ◌<◌, ◌≤◌}
use native.Mathlib.Nat.{pow-suc, mul_assoc, add-mul, mul_comm, zero-mul, one-mul, mod-le, mod-eq_of_lt}
use native.Mathlib.Numerals.{add-one}
use native.Mathlib.Omega.{arith}
use mathlib.Core.Path.{◌≡◌, ◌∙◌, refl}
use mathlib.Core.Logic.{◌⊎◌, inl, inr, ⊎_elim}
use Rattle.std.specs.Int.{w32, reverse_bits, reverse_bits_onto}
use lib.Pow.{mod-pow-add}
use Rattle.split.specs.Split.{rev, reverse, regular, dummy}

pub rev_suc : (k x : ℕ) → rev (suc k) x ≡ x % 2 * 2 ^ k + rev k (x / 2)
unfolding rev
rev_suc k x = refl

pub rev_zero : (x : ℕ) → rev 0 x ≡ 0
unfolding rev
rev_zero x = refl

pub double : (k : ℕ) → 2 ^ suc k ≡ 2 ^ k + 2 ^ k
double k = omega (arith, pow-suc 2 k)

-- the library's reversal, onto the bits that are reversed already
reversed_onto : (k x a : ℕ) → reverse_bits_onto k x a ≡ a * 2 ^ k + rev k x
unfolding reverse_bits_onto rev
reversed_onto zero x a = omega arith
reversed_onto (suc k) x a = reversed_onto k (x / 2) (a * 2 + x % 2) ∙ rw (pow-suc 2 k, add-mul (a * 2) (x % 2) (2 ^ k), mul_assoc a 2 (2 ^ k), mul_comm 2 (2 ^ k)) (omega arith)

pub reversed : (x : ℕ) → reverse_bits w32 x ≡ reverse x
unfolding reverse
reversed x = omega (arith, reversed_onto 32 x 0)

bit : (x : ℕ) → (x % 2 ≡ 0) ⊎ (x % 2 ≡ 1)
bit x = two (x % 2) (omega arith) where
  two : (b : ℕ) → b < 2 → (b ≡ 0) ⊎ (b ≡ 1)
  two zero h = inl refl
  two (suc zero) h = inr refl
  two (suc (suc b)) h = absurd (omega arith)

-- the reversal of k + 1 bits, as a sum
rev_bit : (k x : ℕ) → ((x % 2 ≡ 0) × (rev (suc k) x ≡ rev k (x / 2))) ⊎ ((x % 2 ≡ 1) × (rev (suc k) x ≡ 2 ^ k + rev k (x / 2)))
rev_bit k x = ⊎_elim
    (λ h. inl (h, rw (rev_suc k x, h, zero-mul (2 ^ k)) (omega arith)))
    (λ h. inr (h, rw (rev_suc k x, h, one-mul (2 ^ k)) refl))
    (bit x)

pub rev_lt : (k x : ℕ) → rev k x < 2 ^ k
rev_lt zero x = rw (rev_zero x) (omega arith)
rev_lt (suc k) x = ⊎_elim
    (λ h. omega (arith, h, double k, rev_lt k (x / 2)))
    (λ h. omega (arith, h, double k, rev_lt k (x / 2)))
    (rev_bit k x)

-- reversal is injective on numbers of k bits
pub rev_inj : (k x y : ℕ) → x < 2 ^ k → y < 2 ^ k → rev k x ≡ rev k y → x ≡ y
rev_inj zero x y hx hy e = omega arith
rev_inj (suc k) x y hx hy e =
    let lx = rev_lt k (x / 2) in
    let ly = rev_lt k (y / 2) in
    let d = double k in
    let hx' : x / 2 < 2 ^ k = omega arith in
    let hy' : y / 2 < 2 ^ k = omega arith in
    ⊎_elim
    (λ h. ⊎_elim
    (λ g. omega (arith, h, g, rev_inj k (x / 2) (y / 2) hx' hy' (omega (arith, h, g))))
    (λ g. absurd (omega (arith, h, g)))
    (rev_bit k y))
    (λ h. ⊎_elim
    (λ g. absurd (omega (arith, h, g)))
    (λ g. omega (arith, h, g, rev_inj k (x / 2) (y / 2) hx' hy' (omega (arith, h, g))))
    (rev_bit k y))
    (rev_bit k x)

pub reverse_inj : (x y : ℕ) → x < 2 ^ 32 → y < 2 ^ 32 → reverse x ≡ reverse y → x ≡ y
unfolding reverse
reverse_inj x y hx hy e = rev_inj 32 x y hx hy e

-- a number below 2 ^ k reversed as k + 1 bits is even; with bit k set it is one more
pub rev_even : (k x : ℕ) → x < 2 ^ k → rev (suc k) x ≡ 2 * rev k x
rev_even zero x h = let z : x ≡ 0 = omega arith in rw z (omega (arith, rev_suc 0 0, rev_zero 0, rev_zero (0 / 2)))
rev_even (suc k) x h =
    let d = double k in
    let d' = double (suc k) in
    let ih = rev_even k (x / 2) (omega arith) in
    ⊎_elim
    (λ g. ⊎_elim (λ f. omega (arith, g, f)) (λ f. absurd (omega (arith, g, f))) (rev_bit k x))
    (λ g. ⊎_elim (λ f. absurd (omega (arith, g, f))) (λ f. omega (arith, g, f)) (rev_bit k x))
    (rev_bit (suc k) x)

pub rev_odd : (k x : ℕ) → x < 2 ^ k → rev (suc k) (x + 2 ^ k) ≡ 2 * rev k x + 1
rev_odd zero x h = let z : x ≡ 0 = omega arith in rw z (omega (arith, rev_suc 0 1, rev_zero 0, rev_zero (1 / 2)))
rev_odd (suc k) x h =
    let d = double k in
    let d' = double (suc k) in
    let half : (x + 2 ^ suc k) / 2 ≡ x / 2 + 2 ^ k = omega arith in
    let ih : rev (suc k) ((x + 2 ^ suc k) / 2) ≡ 2 * rev k (x / 2) + 1 = rw half (rev_odd k (x / 2) (omega arith)) in
    ⊎_elim
    (λ g. ⊎_elim (λ f. omega (arith, g, f)) (λ f. absurd (omega (arith, g, f))) (rev_bit k x))
    (λ g. ⊎_elim (λ f. absurd (omega (arith, g, f))) (λ f. omega (arith, g, f)) (rev_bit k x))
    (rev_bit (suc k) (x + 2 ^ suc k))

-- the split keys: a dummy's is even, a regular key's odd, over the same reversal of 31 bits
pub dummy_even : (b : ℕ) → b < 2147483648 → dummy b ≡ 2 * rev 31 b
unfolding dummy reverse
dummy_even b h = rev_even 31 b h

pub regular_odd : (key : ℕ) → key < 2147483648 → regular key ≡ 2 * rev 31 key + 1
unfolding regular reverse
regular_odd key h = rw (mod-eq_of_lt h) (rev_odd 31 key h)

-- so no two nodes share a split key
pub regular_inj : (x y : ℕ) → x < 2147483648 → y < 2147483648 → regular x ≡ regular y → x ≡ y
regular_inj x y hx hy e = rev_inj 31 x y hx hy (omega (arith, regular_odd x hx, regular_odd y hy))

pub dummy_inj : (x y : ℕ) → x < 4294967296 → y < 4294967296 → dummy x ≡ dummy y → x ≡ y
unfolding dummy
dummy_inj x y hx hy e = reverse_inj x y hx hy e

pub regular_not_dummy : (key b : ℕ) → key < 2147483648 → b < 2147483648 → regular key ≡ dummy b → ⊥
regular_not_dummy key b hk hb e = omega (arith, regular_odd key hk, dummy_even b hb)

-- x without its bits from i + 1 on: its lowest bit, and its half without the bits from i on
low_bits : (i x : ℕ) → x % 2 ^ suc i ≡ x / 2 % 2 ^ i * 2 + x % 2
low_bits i x = rw (← add-one i) (mod-pow-add x i 1)

pub rev_of_zero : (k : ℕ) → rev k 0 ≡ 0
rev_of_zero zero = rev_zero 0
rev_of_zero (suc k) = omega (arith, rev_suc k 0, rev_of_zero k, zero-mul (2 ^ k))

-- taking away high bits does not raise the reversal
pub rev_mod : (k i x : ℕ) → rev k (x % 2 ^ i) ≤ rev k x
rev_mod zero i x = omega (arith, rev_zero x, rev_zero (x % 2 ^ i))
rev_mod (suc k) zero x = let z : x % 1 ≡ 0 = omega arith in rw (z, rev_of_zero (suc k)) (omega arith)
rev_mod (suc k) (suc i) x =
    let l = low_bits i x in
    let b : x % 2 ^ suc i % 2 ≡ x % 2 = omega arith in
    let h : x % 2 ^ suc i / 2 ≡ x / 2 % 2 ^ i = omega arith in
    rw (rev_suc k (x % 2 ^ suc i), rev_suc k x, b, h) (omega (arith, rev_mod k i (x / 2)))

-- a bucket's dummy comes before each key of the bucket, at every size 2 ^ i
pub dummy_first : (i key : ℕ) → key < 2147483648 → dummy (key % 2 ^ i) < regular key
dummy_first i key h =
    let lt : key % 2 ^ i < 2147483648 = omega (arith, mod-le key (2 ^ i)) in
    omega (arith, dummy_even (key % 2 ^ i) lt, regular_odd key h, rev_mod 31 i key)
