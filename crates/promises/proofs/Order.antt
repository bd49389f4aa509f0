-- Clearing the top set bit lowers the reversal, so a parent's dummy comes before its child's.
-- Assumes nothing.
use Prim.Native.Nat.{ℕ, zero, suc, ◌+◌, ◌*◌, ◌/◌, ◌%◌, ◌^◌, ◌<◌}
use native.Mathlib.Nat.{pow-suc, one-mul}
use native.Mathlib.Omega.{arith}
use mathlib.Core.Path.{◌≡◌}
use mathlib.Core.Bool.{true, false}
use lib.Dec.{leb}
use lib.Pow.{pow_pos}
use borrow.Author.Tests.{leb-true, leb-false}
use Rattle.choice.proofs.Cases.{by_bool}
use Rattle.split.specs.Split.{rev, reverse, dummy}
use Rattle.split.proofs.Laws.{rev_suc, rev_of_zero}
use Rattle.tree.specs.Tree.{par, parent_of}
use Rattle.tree.proofs.Laws.{par_suc}

-- clearing the top set bit lowers the reversal: the parent's dummy comes first
pub rev_par : (k b : ℕ) → 0 < b → b < 2 ^ k → rev k (par k b) < rev k b
rev_par zero b h l = absurd (omega arith)
rev_par (suc k) b h l = rw (par_suc k b) (by_bool (λ (p : ℕ). rev (suc k) p < rev (suc k) b) (leb b 1) one (more (rev_par k (b / 2)))) where
  one : leb b 1 ≡ true → rev (suc k) 0 < rev (suc k) b
  one e =
      let o : b ≡ 1 = omega (arith, leb-true b 1 e) in
      rw (o, rev_of_zero (suc k)) (omega (arith, rev_suc k 1, one-mul (2 ^ k), pow_pos k))

  more : (0 < b / 2 → b / 2 < 2 ^ k → rev k (par k (b / 2)) < rev k (b / 2)) → leb b 1 ≡ false → rev (suc k) (par k (b / 2) * 2 + b % 2) < rev (suc k) b
  more ih e =
      let p = par k (b / 2) in
      let hb : (p * 2 + b % 2) % 2 ≡ b % 2 = omega arith in
      let hh : (p * 2 + b % 2) / 2 ≡ p = omega arith in
      rw (rev_suc k (p * 2 + b % 2), rev_suc k b, hb, hh)
      (omega (arith, ih (omega (arith, leb-false b 1 e)) (omega (arith, pow-suc 2 k))))

pub parent_first : (b : ℕ) → 0 < b → b < 4294967296 → dummy (parent_of b) < dummy b
unfolding dummy reverse parent_of
parent_first b h l = rev_par 32 b h l
