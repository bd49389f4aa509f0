-- A bucket's parent keeps the lowest bit and has the half's parent above it, so each law of k bits follows from the law of k - 1 bits for the half.
-- Assumes nothing.
use Prim.Native.Nat.{ℕ, zero, suc, ◌+◌, ◌*◌, ◌/◌, ◌%◌, ◌^◌, ◌-◌, ◌<◌, ◌≤◌}
use native.Mathlib.Nat.{pow-suc}
use native.Mathlib.Omega.{arith}
use mathlib.Core.Path.{◌≡◌, refl, sym, ◌∙◌}
use lib.Dec.{leb}
use Rattle.std.proofs.lemmas.Nat.{one_shl}
use lib.Pow.{pow_pos}
use borrow.Author.Tests.{leb-false, le-leb, lt-leb}
use Rattle.choice.specs.Choice.{pick}
use Rattle.choice.proofs.Auto.{pick_true, pick_false}
use Rattle.choice.proofs.Cases.{by_bool}
use Rattle.tree.specs.Tree.{par, parent_of}

pub par_suc : (k b : ℕ) → par (suc k) b ≡ pick (leb b 1) 0 (par k (b / 2) * 2 + b % 2)
unfolding par
par_suc k b = refl

pub par_zero : (b : ℕ) → par 0 b ≡ 0
unfolding par
par_zero b = refl

-- the two ways of `parent`: no bit but the lowest is set, or one is
pub par_small : (k b : ℕ) → b ≤ 1 → par k b ≡ 0
par_small zero b h = par_zero b
par_small (suc k) b h = par_suc k b ∙ pick_true (leb b 1) 0 (par k (b / 2) * 2 + b % 2) (le-leb b 1 h)

pub par_half : (k b : ℕ) → 1 < b → par (suc k) b ≡ par k (b / 2) * 2 + b % 2
par_half k b h = par_suc k b ∙ pick_false (leb b 1) 0 (par k (b / 2) * 2 + b % 2) (lt-leb b 1 h)

-- k beyond the bits of b changes nothing
pub par_more : (k b : ℕ) → b < 2 ^ k → par (suc k) b ≡ par k b
par_more zero b h = par_small 1 b (omega arith) ∙ sym (par_zero b)
par_more (suc k) b h = rw (par_suc (suc k) b, par_suc k b, par_more k (b / 2) (omega (arith, pow-suc 2 k)))

pub parent_zero : parent_of 0 ≡ 0
unfolding parent_of
parent_zero = par_small 32 0 (omega arith)

par_lt : (k b : ℕ) → 0 < b → par k b < b
par_lt zero b h = omega (arith, par_zero b)
par_lt (suc k) b h = rw (par_suc k b)
    (by_bool
    (λ (p : ℕ). p < b)
    (leb b 1)
    (λ e. h)
    (λ e. let l = leb-false b 1 e in omega (arith, par_lt k (b / 2) (omega arith))))

pub parent_lt : (b : ℕ) → 0 < b → parent_of b < b
unfolding parent_of
parent_lt b h = par_lt 32 b h

pub parent_le : (b : ℕ) → parent_of b ≤ b
parent_le zero = omega (arith, parent_zero)
parent_le (suc b) = omega (arith, parent_lt (suc b) (omega arith))

-- it is the top set bit, bit i, that is cleared
par_clears : (k i b : ℕ) → i < k → 2 ^ i ≤ b → b < 2 ^ suc i → par k b ≡ b - 2 ^ i
par_clears zero i b h l u = absurd (omega arith)
par_clears (suc k) zero b h l u = omega (arith, par_small (suc k) b (omega arith))
par_clears (suc k) (suc i) b h l u =
    let d = pow-suc 2 i in
    let d' = pow-suc 2 (suc i) in
    let p = pow_pos i in
    let half = par_half k b (omega arith) in
    omega (arith, par_clears k i (b / 2) (omega arith) (omega arith) (omega arith))

pub parent_clears : (i b : ℕ) → 2 ^ i ≤ b → b < 2 ^ suc i → i < 32 → parent_of b ≡ b - 2 ^ i
unfolding parent_of
parent_clears i b l u h = par_clears 32 i b h l u

-- the same, as code says it
pub parent_cleared : (i b : ℕ) → 2 ^ i ≤ b → b < 2 * 2 ^ i → i < 32 → b - 1 * 2 ^ i % 4294967296 ≡ parent_of b
parent_cleared i b l u h = rw (one_shl i 32 h) (sym (parent_clears i b l (omega (arith, pow-suc 2 i)) h))
