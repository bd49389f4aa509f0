-- A class of places and the test that code makes say the same at every row of the table, and past its last row both are false.
-- Assumes nothing.
use Prim.Native.Nat.{ℕ, zero, suc, ◌≤◌, ◌<◌}
use native.Mathlib.Omega.{arith}
use native.Mathlib.Decide.{ℕ_discrete}
use mathlib.Core.Path.{◌≡◌, refl, sym, ap, ◌∙◌}
use mathlib.Core.Bool.{Bool, true, false, ◌&&◌, ◌||◌, and-false}
use mathlib.Core.List.{List, [], ◌∷◌}
use lib.Dec.{leb, ltb, eqb}
use lib.ListN.{length}
use borrow.Author.Tests.{ne_eqb, lt-leb, ltb-true, leb-true, leb-false}
use Rattle.choice.specs.Choice.{within}
use Rattle.choice.proofs.Telling.{both_true}
use Rattle.names.specs.Names.{I1, SZ, B2, B4, F1, L2, B8, I8, I9, I10, D4A, D4B, D6}
use Rattle.names.specs.Places.{Class, searching, key_in_hand, bucket_in_making, insert_uncounted, delete_uncounted, effective, insert_only, delete_only, size_remembered, PlaceRow, places, means_in, meaning, includes, searches, holds_key, makes, insert_in, delete_in, in_effect, needs_insert, needs_delete, remembers_size, PlacesInOrder}

pub places_in_order : PlacesInOrder
places_in_order = refl

-- ---- tests of a number, as code makes them
pub data Test : Type 0 where
  never : Test
  at : ℕ → Test
  between : ℕ → ℕ → Test
  either : Test → Test → Test

abbrev pub tested : Test → ℕ → Bool
tested never p = false
tested (at q) p = eqb p q
tested (between low high) p = within low high p
tested (either s t) p = tested s p || tested t p

-- what passes is below n
abbrev pub ends_below : Test → ℕ → Bool
ends_below never n = true
ends_below (at q) n = ltb q n
ends_below (between low high) n = ltb high n
ends_below (either s t) n = ends_below s n && ends_below t n

past : (t : Test) (n p : ℕ) → ends_below t n ≡ true → n ≤ p → tested t p ≡ false
past never n p e l = refl
past (at q) n p e l = let u = ltb-true q n e in ne_eqb p q (λ e. omega arith)
past (between low high) n p e l = let u = ltb-true high n e in rw (lt-leb p high (omega arith), and-false (leb low p))
past (either s t) n p e l = let b = both_true (ends_below s n) (ends_below t n) e in rw (past s n p b.0 l, past t n p b.1 l)

-- ---- the table
-- past its rows it says nothing
nothing_past : (rs : List PlaceRow) (p : ℕ) → length rs ≤ p → means_in rs p ≡ []
nothing_past [] p l = refl
nothing_past (r ∷ rs) zero l = absurd (omega arith)
nothing_past (r ∷ rs) (suc p) l = nothing_past rs p (omega arith)

-- what is said of each number below n
abbrev pub column : (ℕ → Bool) → ℕ → List Bool
column f zero = []
column f (suc n) = f n ∷ column f n

same_below : (f g : ℕ → Bool) (n p : ℕ) → column f n ≡ column g n → p < n → f p ≡ g p
same_below f g zero p e l = absurd (omega arith)
same_below f g (suc n) p e l = let later : column f n ≡ column g n = cc in by (ℕ_discrete p n) (same_below f g n p later)
  where
    by : Dec (p ≡ n) → (p < n → f p ≡ g p) → f p ≡ g p
    by (yes q) below = let last : f n ≡ g n = cc in rw q last
    by (no q) below = below (omega arith)

-- what is said of places alone is the test, where the two say the same at each row
pub by_rows :
    (said : List Class → Bool) (t : Test) → said [] ≡ false → column (λ p. said (meaning p)) (length places) ≡ column (tested t) (length places)
    → ends_below t (length places) ≡ true → (p : ℕ) → said (meaning p) ≡ tested t p
by_rows said t nothing rows e p = by (leb (length places) p) refl
  where
    by : (b : Bool) → leb (length places) p ≡ b → said (meaning p) ≡ tested t p
    by true q =
        let l = leb-true (length places) p q in
        ap said (nothing_past places p l) ∙ nothing ∙ sym (past t (length places) p e l)
    by false q = same_below (λ p. said (meaning p)) (tested t) (length places) p rows (leb-false (length places) p q)

-- two classes that share no place
pub apart :
    (c d : Class) → column (λ p. includes c (meaning p) && includes d (meaning p)) (length places) ≡ column (tested never) (length places)
    → (p : ℕ) → includes c (meaning p) ≡ true → includes d (meaning p) ≡ false
apart c d rows p e = rw e at (by_rows (λ cs. includes c cs && includes d cs) never refl rows refl p)

-- ---- each class is a test of the numbers
pub searches_within : (p : ℕ) → searches p ≡ within F1 L2 p
searches_within = by_rows (includes searching) (between F1 L2) refl refl refl

pub holds_within : (p : ℕ) → holds_key p ≡ within SZ B8 p
holds_within = by_rows (includes key_in_hand) (between SZ B8) refl refl refl

pub makes_at : (p : ℕ) → makes p ≡ (eqb p B2 || eqb p B4 || eqb p B8)
makes_at = by_rows (includes bucket_in_making) (either (either (at B2) (at B4)) (at B8)) refl refl refl

pub insert_in_within : (p : ℕ) → insert_in p ≡ within I8 I9 p
insert_in_within = by_rows (includes insert_uncounted) (between I8 I9) refl refl refl

pub delete_in_within : (p : ℕ) → delete_in p ≡ within D4B D6 p
delete_in_within = by_rows (includes delete_uncounted) (between D4B D6) refl refl refl

pub effect_within : (p : ℕ) → in_effect p ≡ (within I8 I10 p || within D4B D6 p)
effect_within = by_rows (includes effective) (either (between I8 I10) (between D4B D6)) refl refl refl

pub insert_steps : (p : ℕ) → needs_insert p ≡ (eqb p I1 || within I8 I10 p)
insert_steps = by_rows (includes insert_only) (either (at I1) (between I8 I10)) refl refl refl

pub delete_steps : (p : ℕ) → needs_delete p ≡ within D4A D6 p
delete_steps = by_rows (includes delete_only) (between D4A D6) refl refl refl

pub size_within : (p : ℕ) → remembers_size p ≡ within I9 I10 p
size_within = by_rows (includes size_remembered) (between I9 I10) refl refl refl
