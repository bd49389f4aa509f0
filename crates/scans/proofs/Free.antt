-- The search for a free node is taken apart turn by turn: the next one is free, or it is passed.
-- Assumes nothing.
use mathlib.Core.Path.{◌≡◌, refl, sym, ◌∙◌}
use mathlib.Core.Logic.{◌≢◌}
use mathlib.Core.List.{List}
use Prim.Native.Nat.{ℕ, zero, suc, ◌+◌, ◌-◌, ◌≤◌, ◌<◌}
use native.Mathlib.Numerals.{add-one}
use native.Mathlib.Decide.{ℕ_discrete}
use native.Mathlib.Omega.{arith}
use borrow.Author.Tests.{eq-eqb, ne_eqb}
use lib.Dec.{eqb}
use Rattle.choice.specs.Choice.{pick}
use Rattle.choice.proofs.Auto.{pick_true, pick_false}
use Rattle.choice.proofs.Cases.{by_eq}
use Rattle.words.specs.Words.{STANDING, word}
use Rattle.scans.specs.Scans.{free_from, free_node}

-- none is left to look through
pub free_end : (ns : List ℕ) (n : ℕ) → free_from ns n 0 ≡ 0
unfolding free_from
free_end ns n = refl

free_suc : (ns : List ℕ) (n d : ℕ) → free_from ns n (suc d) ≡ pick (eqb (word ns (suc n) STANDING) 0) (suc n) (free_from ns (suc n) d)
unfolding free_from
free_suc ns n d = refl

-- the search begins after the node before the lowest
pub free_first : (ns : List ℕ) (low high : ℕ) → free_from ns (low - 1) (high - (low - 1)) ≡ free_node ns low high
unfolding free_node
free_first ns low high = refl

-- node n is passed and high is not reached: the next is free, or it is passed too
module _ (ns : List ℕ) (n high : ℕ) (h : n < high) where
  turn : free_from ns n (high - n) ≡ pick (eqb (word ns (n + 1) STANDING) 0) (n + 1) (free_from ns (n + 1) (high - (n + 1)))
  turn =
      let left : high - n ≡ suc (high - (n + 1)) = omega arith in
      rw (left, free_suc ns n (high - (n + 1)), ← add-one n) refl

  pub free_here : word ns (n + 1) STANDING ≡ 0 → free_from ns n (high - n) ≡ n + 1
  free_here z = turn ∙ pick_true _ _ _ (eq-eqb _ 0 z)

  pub free_on : (word ns (n + 1) STANDING ≡ 0 → ⊥) → free_from ns n (high - n) ≡ free_from ns (n + 1) (high - (n + 1))
  free_on z = turn ∙ pick_false _ _ _ (ne_eqb _ 0 z)

pub free_past : (ns : List ℕ) (n high : ℕ) → high ≤ n → free_from ns n (high - n) ≡ 0
free_past ns n high h = let e : high - n ≡ 0 = omega arith in rw e (free_end ns n)

pub ruleset looking = (free_first, free_here, free_on, free_past)

-- the node that is found: it is one of those looked through, it is free, and no node before it is
pub record Found (ns : List ℕ) (after last n : ℕ) : Type 0 where
  pub low : after < n
  pub high : n ≤ last
  pub free : word ns n STANDING ≡ 0
  pub least : (m : ℕ) → after < m → m < n → word ns m STANDING ≢ 0

-- of the d nodes after n: the one that is found, 0 where none is free, and what is looked at
pub found_after : (ns : List ℕ) (n d r : ℕ) → free_from ns n d ≡ r → r ≢ 0 → Found ns n (n + d) r
found_after ns n zero r e ne = absurd (ne (sym e ∙ free_end ns n))
found_after ns n (suc d) r e ne =
    by_eq (λ (x : ℕ). x ≡ r → Found ns n (n + suc d) r) (word ns (suc n) STANDING) 0 here
    (λ z q. on z (found_after ns (suc n) d r q ne))
    (sym (free_suc ns n d) ∙ e)
  where
    here : word ns (suc n) STANDING ≡ 0 → suc n ≡ r → Found ns n (n + suc d) r
    here z q =
        record {
          low = omega arith;
          high = omega arith;
          free = rw (← q) z;
          least = λ m a b. absurd (omega arith);
        }

    passed : word ns (suc n) STANDING ≢ 0 → Found ns (suc n) (suc n + d) r → (m : ℕ) → n < m → m < r → Dec (m ≡ suc n) → word ns m STANDING ≢ 0
    passed z f m a b (yes p) = rw p z
    passed z f m a b (no p) = f.least m (omega arith) b

    on : word ns (suc n) STANDING ≢ 0 → Found ns (suc n) (suc n + d) r → Found ns n (n + suc d) r
    on z f =
        record {
          low = omega (arith, f.low);
          high = omega (arith, f.high);
          free = f.free;
          least = λ m a b. passed z f m a b (ℕ_discrete m (suc n));
        }

pub none_after : (ns : List ℕ) (n d : ℕ) → free_from ns n d ≡ 0 → (m : ℕ) → n < m → m ≤ n + d → word ns m STANDING ≢ 0
none_after ns n zero e m a b = absurd (omega arith)
none_after ns n (suc d) e m a b =
    by_eq (λ (x : ℕ). x ≡ 0 → word ns m STANDING ≢ 0) (word ns (suc n) STANDING) 0 (λ z q. absurd (omega arith))
    (λ z q. passed z (none_after ns (suc n) d q m) (ℕ_discrete m (suc n)))
    (sym (free_suc ns n d) ∙ e)
  where
    passed : word ns (suc n) STANDING ≢ 0 → (suc n < m → m ≤ suc n + d → word ns m STANDING ≢ 0) → Dec (m ≡ suc n) → word ns m STANDING ≢ 0
    passed z later (yes p) = rw p z
    passed z later (no p) = later (omega arith) (omega arith)

pub same_after : (ns ks : List ℕ) (n d : ℕ) → ((m : ℕ) → n < m → m ≤ n + d → word ns m STANDING ≡ word ks m STANDING) → free_from ns n d ≡ free_from ks n d
same_after ns ks n zero agree = free_end ns n ∙ sym (free_end ks n)
same_after ns ks n (suc d) agree =
    rw (free_suc ns n d, free_suc ks n d, agree (suc n) (omega arith) (omega arith), same_after ns ks (suc n) d (λ m a b. agree m (omega arith) (omega arith)))
