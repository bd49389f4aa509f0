-- A place of a class is one of the listed: the list is read off the table, row by row. The numbers of places and of errands are 0, 1, 2 and so on.
-- Assumes nothing.
use Prim.Native.Nat.{ℕ, zero, suc, ◌+◌, ◌≤◌, ◌<◌}
use native.Mathlib.Omega.{arith}
use mathlib.Core.Path.{◌≡◌, refl}
use mathlib.Core.Logic.{inl, inr}
use mathlib.Core.Bool.{Bool, true, false, false≢true}
use mathlib.Core.List.{List, [], ◌∷◌}
use lib.Dec.{leb, eqb}
use lib.ListN.{length}
use borrow.Author.Tests.{eqb-true, eqb-false}
use Rattle.choice.proofs.Exactly.{Tells}
use Rattle.choice.proofs.Telling.{tells_eq, tells_or, Clears, clears_as, clears_le}
use Rattle.names.specs.Places.{Class, PlaceRow, places, meaning, includes, from}
use Rattle.names.proofs.Places.{Test, never, at, either, tested, ends_below, column, by_rows}
use Rattle.faults.specs.Rows.{IsOneOf}

-- ---- numbers one after another
-- a number from n to below n + k is one of them
pub one_of_from : (n k p : ℕ) → n ≤ p → p < n + k → IsOneOf p (from n k)
one_of_from n zero p l u = absurd (omega arith)
one_of_from n (suc k) p l u = at_first (one_of_from (suc n) k p) (eqb p n) refl
  where
    at_first : (suc n ≤ p → p < suc n + k → IsOneOf p (from (suc n) k)) → (t : Bool) → eqb p n ≡ t → IsOneOf p (n ∷ from (suc n) k)
    at_first later true e = inl (eqb-true p n e)
    at_first later false e = let f = eqb-false p n e in inr (later (omega arith) (omega arith))

-- and one of them is from n to below n + k
pub from_one_of : (n k p : ℕ) → IsOneOf p (from n k) → (n ≤ p) × (p < n + k)
from_one_of n zero p o = absurd o
from_one_of n (suc k) p (inl e) = (omega arith, omega arith)
from_one_of n (suc k) p (inr o) = let b = from_one_of (suc n) k p o in (omega arith, omega arith)

-- a number below k is one of 0 to below k
pub clears_from : (k p : ℕ) → Clears (leb k p) (IsOneOf p (from 0 k))
clears_from k p =
    clears_as (λ l. one_of_from 0 k p (omega arith) (omega arith)) (λ o. let b = from_one_of 0 k p o in omega arith)
    (clears_le k p)

-- ---- the places of a class
abbrev kept : Bool → ℕ → List ℕ → List ℕ
kept true n ns = n ∷ ns
kept false n ns = ns

-- the numbers of the rows that have it
abbrev listed : Class → List PlaceRow → List ℕ
listed c [] = []
listed c (r ∷ rs) = kept (includes c r.means) r.number (listed c rs)

abbrev one_of : List ℕ → Test
one_of [] = never
one_of (n ∷ ns) = either (at n) (one_of ns)

tells_one_of : (ns : List ℕ) (p : ℕ) → Tells (tested (one_of ns) p) (IsOneOf p ns)
tells_one_of [] p = record { sound = λ e. absurd (false≢true e); complete = λ o. absurd o }
tells_one_of (n ∷ ns) p = tells_or (tells_eq p n) (tells_one_of ns p)

pub tells_class :
    (c : Class) → let ns = listed c places in
    column (λ p. includes c (meaning p)) (length places) ≡ column (tested (one_of ns)) (length places) → ends_below (one_of ns) (length places) ≡ true
    → (p : ℕ) → Tells (includes c (meaning p)) (IsOneOf p ns)
tells_class c rows e p =
    let ns = listed c places in
    rw (by_rows (includes c) (one_of ns) refl rows e p) (tells_one_of ns p)
