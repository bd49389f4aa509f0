-- A number is a power of two exactly if one of its bits is set: each number but 0 is its top set bit and a rest.
-- Assumes nothing.
use Prim.Native.Nat.{ℕ, zero, suc, ◌+◌, ◌-◌, ◌*◌, ◌^◌, ◌<◌, ◌≤◌}
use native.Mathlib.Nat.{pow-suc}
use native.Mathlib.Omega.{arith}
use mathlib.Core.Path.{◌≡◌, refl, sym, ap, ◌∙◌}
use mathlib.Core.Bool.{Bool, true, false, ◌||◌, or-true, true≢false}
use mathlib.Core.Logic.{◌↔◌}
use lib.Dec.{leb, eqb}
use lib.Pow.{pow_pos, pow_mono}
use lib.Count.{ones, ones_cat, ones-ones, ones-le}
use Rattle.std.proofs.lemmas.Nat.{zero_from_ones, ones_le_self}
use borrow.Author.Tests.{leb-true, leb-false, eqb-true, eqb-false, eq-eqb, ne_eqb}
use Rattle.tree.specs.Tree.{power_below, power_of_two}

power_sound : (k x : ℕ) → power_below k x ≡ true → (i : ℕ) × (x ≡ 2 ^ i)
unfolding power_below
power_sound zero x h = absurd (true≢false (sym h))
power_sound (suc k) x h = at (power_sound k x) (eqb x (2 ^ k)) refl h
  where
    at : (power_below k x ≡ true → (i : ℕ) × (x ≡ 2 ^ i)) → (t : Bool) → eqb x (2 ^ k) ≡ t → t || power_below k x ≡ true → (i : ℕ) × (x ≡ 2 ^ i)
    at ih true e h = (k, eqb-true x (2 ^ k) e)
    at ih false e h = ih h

power_complete : (k i : ℕ) → i < k → power_below k (2 ^ i) ≡ true
unfolding power_below
power_complete zero i h = absurd (omega arith)
power_complete (suc k) i h = at (power_complete k i) (eqb i k) refl
  where
    at : (i < k → power_below k (2 ^ i) ≡ true) → (t : Bool) → eqb i k ≡ t → eqb (2 ^ i) (2 ^ k) || power_below k (2 ^ i) ≡ true
    at ih true e = rw (eq-eqb (2 ^ i) (2 ^ k) (ap (λ (n : ℕ). 2 ^ n) (eqb-true i k e)))
    at ih false e =
        let f = eqb-false i k e in
        rw (ih (omega arith)) (or-true (eqb (2 ^ i) (2 ^ k)))

exponent_lt : (k i : ℕ) → 2 ^ i < 2 ^ k → i < k
exponent_lt k i h = at (leb k i) refl
  where
    at : (t : Bool) → leb k i ≡ t → i < k
    at true e = absurd (omega (arith, pow_mono {i = k} {j = i} (leb-true k i e)))
    at false e = leb-false k i e

pub power_means : (x : ℕ) → x < 2 ^ 32 → (power_of_two x ≡ true) ↔ ((i : ℕ) × (x ≡ 2 ^ i))
unfolding power_of_two
power_means x h = (power_sound 32 x, λ p. rw p.1 (power_complete 32 p.0 (exponent_lt 32 p.0 (rw (← p.1) h))))

-- each number but 0 has a top set bit
pub top_bit : (k x : ℕ) → 0 < x → x < 2 ^ k → (i : ℕ) × (i < k) × (2 ^ i ≤ x) × (x < 2 ^ suc i)
top_bit zero x h l = absurd (omega arith)
top_bit (suc k) x h l = at (top_bit k x h) (leb (2 ^ k) x) refl
  where
    at : (x < 2 ^ k → (i : ℕ) × (i < k) × (2 ^ i ≤ x) × (x < 2 ^ suc i)) → (t : Bool) → leb (2 ^ k) x ≡ t → (i : ℕ) × (i < suc k) × (2 ^ i ≤ x) × (x < 2 ^ suc i)
    at ih true e = (k, omega arith, leb-true (2 ^ k) x e, l)
    at ih false e = let r = ih (leb-false (2 ^ k) x e) in (r.0, omega arith, r.2, r.3)

-- one bit of it is set
power_above : (k x : ℕ) → 2 ^ k ≤ x → power_below k x ≡ false
unfolding power_below
power_above zero x h = refl
power_above (suc k) x h =
    let d = pow-suc 2 k in
    let p = pow_pos k in
    rw (ne_eqb x (2 ^ k) (λ e. omega arith), power_above k x (omega arith))

ones_top : (k r : ℕ) → r < 2 ^ k → ones (1 * 2 ^ k + r) ≡ 1 + ones r
ones_top k r h = ones_cat k 1 r h ∙ ap (λ (n : ℕ). n + ones r) (ones-ones 1)

topped : (k r x : ℕ) → r < 2 ^ k → 1 * 2 ^ k + r ≡ x → eqb (ones x) 1 ≡ eqb x (2 ^ k) || power_below k x
topped k zero x h e =
    rw (eq-eqb x (2 ^ k) (omega arith))
    (eq-eqb (ones x) 1 (omega (arith, ap ones e, ones_top k 0 h, ones_le_self 0)))
topped k (suc r) x h e =
    rw (ne_eqb x (2 ^ k) (λ q. omega arith), power_above k x (omega arith))
    (ne_eqb (ones x) 1 (λ q. omega (arith, zero_from_ones (suc r) (omega (arith, q, ap ones e, ones_top k (suc r) h)))))

counted : (k x : ℕ) → x < 2 ^ k → eqb (ones x) 1 ≡ power_below k x
unfolding power_below
counted zero x h = ne_eqb (ones x) 1 (λ e. omega (arith, ones-le 0 x h))
counted (suc k) x h = at (counted k x) (leb (2 ^ k) x) refl
  where
    at : (x < 2 ^ k → eqb (ones x) 1 ≡ power_below k x) → (t : Bool) → leb (2 ^ k) x ≡ t → eqb (ones x) 1 ≡ eqb x (2 ^ k) || power_below k x
    at ih true e =
        let d = pow-suc 2 k in
        let l = leb-true (2 ^ k) x e in
        topped k (x - 2 ^ k) x (omega arith) (omega arith)
    at ih false e =
        let b = leb-false (2 ^ k) x e in
        rw (ne_eqb x (2 ^ k) (λ q. omega arith)) (ih b)

pub power_counted : (x : ℕ) → x < 4294967296 → eqb (ones x) 1 ≡ power_of_two x
unfolding power_of_two
power_counted x h = counted 32 x h
