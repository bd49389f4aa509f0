-- The pigeonhole: where each of the things 1 to n has a slot of its own among 1 to top, and one slot stands empty, the things are fewer than the slots.
-- Assumes nothing.
use mathlib.Core.Path.{◌≡◌, refl, ap}
use mathlib.Core.Logic.{◌≢◌}
use mathlib.Core.List.Memᴰ.{head as here}
use mathlib.Core.List.Memᴰ.{tail as there}
use mathlib.Core.List.{List, [], ◌∷◌, Memᴰ as In}
use Prim.Native.Nat.{ℕ, zero, suc, ◌≤◌, ◌<◌}
use native.Mathlib.Omega.{arith}
use lib.ListN.{length}
use Rattle.slots.proofs.Distinct.{Distinct, pigeonhole}

-- Slot k s: thing k has slot s. Slots are numbered from 1 to top, one thing is in a slot, and nobody is in the slot empty
pub record Slots (top : ℕ) (Slot : ℕ → ℕ → Type 0) (empty : ℕ) : Type 0 where
  pub low : {k s : ℕ} → Slot k s → 1 ≤ s
  pub high : {k s : ℕ} → Slot k s → s ≤ top
  pub one : {a b s t : ℕ} → Slot a s → Slot b t → s ≡ t → a ≡ b
  pub nobody : {k s : ℕ} → Slot k s → s ≢ empty

module _ {top : ℕ} {Slot : ℕ → ℕ → Type 0} {empty : ℕ} (slots : Slots top Slot empty) (n : ℕ) (own : (k : ℕ) → 1 ≤ k → k ≤ n → (s : ℕ) × Slot k s) where
  -- the slots of the first k things
  listed : (k : ℕ) → k ≤ n → List ℕ
  listed zero b = []
  listed (suc k) b = (own (suc k) (omega arith) b).0 ∷ listed k (omega arith)

  as_many : (k : ℕ) (b : k ≤ n) → length (listed k b) ≡ k
  unfolding listed
  as_many zero b = refl
  as_many (suc k) b = ap suc (as_many k (omega arith))

  whose : (k : ℕ) (b : k ≤ n) {s : ℕ} → In s (listed k b) → (j : ℕ) × (j ≤ k) × Slot j s
  unfolding listed
  whose zero b {s = s} x = elim x [ ]
  whose (suc k) b (here e) = (suc k, omega arith, rw e (own (suc k) (omega arith) b).1)
  whose (suc k) b (there i) = let q = whose k (omega arith) i in (q.0, omega (arith, q.1), q.2)

  distinct : (k : ℕ) (b : k ≤ n) → Distinct (listed k b)
  unfolding listed
  distinct zero b = tt
  distinct (suc k) b = (λ i. let q = whose k (omega arith) i in omega (arith, q.1, slots.one (own (suc k) (omega arith) b).1 q.2 refl), distinct k (omega arith))

  -- with the empty slot they are at most as many as the slots
  pub fewer : 1 ≤ empty → empty ≤ top → n < top
  fewer lo hi =
      omega (
        arith,
        as_many n (omega arith),
        pigeonhole top (empty ∷ listed n (omega arith)) (λ i. slots.nobody (whose n (omega arith) i).2 refl, distinct n (omega arith)) bounded,
      )
    where
      bounded : (s : ℕ) → In s (empty ∷ listed n (omega arith)) → (1 ≤ s) × (s ≤ top)
      bounded s (here e) = (omega arith, omega arith)
      bounded s (there i) = let q = (whose n (omega arith) i).2 in (slots.low q, slots.high q)
