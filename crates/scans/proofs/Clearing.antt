-- The clearing's two loops, over every second word and over those between, leave what one over all of them would.
-- Assumes nothing.
use mathlib.Core.Path.{◌≡◌, refl, sym, ap, ◌∙◌}
use mathlib.Core.Logic.{◌≢◌, ⊎_elim}
use mathlib.Core.List.{List}
use Prim.Native.Nat.{ℕ, zero, suc, ◌+◌, ◌*◌, ◌/◌, ◌%◌, ◌≤◌, ◌<◌, min}
use native.Mathlib.Nat.{add-zero}
use native.Mathlib.Numerals.{add-one}
use native.Mathlib.Decide.{ℕ_discrete}
use native.Mathlib.Omega.{arith}
use lib.ListN.{length, get_or, set}
use lib.Seq.{get_or-set_other}
use Rattle.std.proofs.lemmas.Bool.{cases_lt}
use Rattle.std.proofs.lemmas.Grind.{same_number_lists}
use Rattle.std.proofs.lemmas.List.{length-set}
use Rattle.scans.specs.Scans.{cleared}
use Rattle.scans.proofs.Laws.{zero_at, cleared_length, cleared_below, cleared_beyond}

-- the words once n of them are 0: number `first`, and every second one after it
unfoldable pub every : ℕ → ℕ → List ℕ → List ℕ
every first zero ws = ws
every first (suc n) ws = set (every first n ws) (2 * n + first) 0

pub every_none : (first : ℕ) (ws : List ℕ) → every first 0 ws ≡ ws
unfolding every
every_none first ws = refl

pub every_even : (n : ℕ) (ws : List ℕ) → every 0 (n + 1) ws ≡ set (every 0 n ws) (2 * n) 0
unfolding every
every_even n ws = rw (add-one n) (ap (λ (k : ℕ). set (every 0 n ws) k 0) (add-zero (2 * n)))

pub every_odd : (n : ℕ) (ws : List ℕ) → every 1 (n + 1) ws ≡ set (every 1 n ws) (2 * n + 1) 0
unfolding every
every_odd n ws = rw (add-one n) refl

pub every_length : (first n : ℕ) (ws : List ℕ) → length (every first n ws) ≡ length ws
unfolding every
every_length first zero ws = refl
every_length first (suc n) ws = length-set (every first n ws) (2 * n + first) 0 ∙ every_length first n ws

-- one of those words is 0, also past the table's end
every_in : (first n k : ℕ) (ws : List ℕ) → k < n → get_or (every first n ws) (2 * k + first) 0 ≡ 0
unfolding every
every_in first zero k ws h = absurd (omega arith)
every_in first (suc n) k ws h = by_word (ℕ_discrete k n) (every_in first n k ws)
  where
    by_word : Dec (k ≡ n) → (k < n → get_or (every first n ws) (2 * k + first) 0 ≡ 0) → get_or (set (every first n ws) (2 * n + first) 0) (2 * k + first) 0 ≡ 0
    by_word (yes e) below = rw e (zero_at (every first n ws) (2 * n + first))
    by_word (no ne) below = get_or-set_other (every first n ws) (2 * n + first) (2 * k + first) 0 0 (λ e. ne (omega (arith, e))) ∙ below (omega (arith, h, ne))

-- any other word stays
every_other : (first n k : ℕ) (ws : List ℕ) → ((i : ℕ) → i < n → k ≢ 2 * i + first) → get_or (every first n ws) k 0 ≡ get_or ws k 0
unfolding every
every_other first zero k ws ne = refl
every_other first (suc n) k ws ne =
    get_or-set_other (every first n ws) (2 * n + first) k 0 0 (ne n (omega arith)) ∙ every_other first n k ws (λ i h. ne i (omega arith))

-- as many of the count as the table has: those at even places, and then those at odd ones
module _ (n count : ℕ) (ws : List ℕ) (all : n ≡ min count (length ws)) where
  abbrev evens : List ℕ
  evens = every 0 ((n + 1) / 2) ws

  abbrev both : List ℕ
  both = every 1 (n / 2) evens

  below : (k : ℕ) → k < n → get_or both k 0 ≡ 0
  below k h =
      ⊎_elim
      (λ (e : k % 2 < 1).
      let f : 2 * (k / 2) + 0 ≡ k = omega (arith, e) in
      every_other 1 (n / 2) k evens (λ i hi x. omega (arith, e, x)) ∙ rw (← f) (every_in 0 ((n + 1) / 2) (k / 2) ws (omega (arith, h))))
      (λ e.
      let f : 2 * (k / 2) + 1 ≡ k = omega (arith, e) in
      rw (← f) (every_in 1 (n / 2) (k / 2) evens (omega (arith, h, e))))
      (cases_lt (k % 2) 1)

  beyond : (k : ℕ) → n ≤ k → get_or both k 0 ≡ get_or ws k 0
  beyond k h = every_other 1 (n / 2) k evens (λ i hi x. omega (arith, h, hi, x)) ∙ every_other 0 ((n + 1) / 2) k ws (λ i hi x. omega (arith, h, hi, x))

  pub every_both : both ≡ cleared count ws
  every_both =
      same_number_lists both (cleared count ws)
      (every_length 1 (n / 2) evens ∙ every_length 0 ((n + 1) / 2) ws ∙ sym (cleared_length count ws))
      (λ k h.
      ⊎_elim
      (λ b. below k b ∙ sym (cleared_below count ws k (omega (arith, all, b))))
      (λ a. beyond k a ∙ sym (cleared_beyond count ws k (omega (arith, all, a, h, every_length 1 (n / 2) evens, every_length 0 ((n + 1) / 2) ws))))
      (cases_lt k n))

pub ruleset clearing = (every_none, every_even, every_odd, every_length)
