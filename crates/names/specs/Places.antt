-- What each place means, in one table: a further place is a row more.
use Rattle.std.specs.Prelude.{ℕ, zero, suc, Bool, true, false, ◌||◌, List, [], ◌∷◌, ◌≡◌, leb, length}
use Rattle.names.specs.Names.{IDLE, I1, SZ, TB, B2, B4, F1, F2, F3, F4, L2, B8, I8, I9, I10, D4A, D4B, D6}

-- what is said of a worker by its place
pub data Class : Type 0 where
  -- it searches, or puts on the chain what it did not find. What for is its errand: on a dummy's it has a dummy node in hand, on the extra one its delete took effect
  searching : Class
  -- an insert has its key node in hand: taken at I1, on the chain after L2
  key_in_hand : Class
  -- "the bucket being made at B2, B4 or B8"
  bucket_in_making : Class
  -- "an insert takes effect here and goes to I8. I9: add 1 to count": in effect, and not yet counted
  insert_uncounted : Class
  -- "A delete takes effect here. D4b .. D6: take 1 from count"
  delete_uncounted : Class
  -- the operation took effect, counted or not
  effective : Class
  -- "I-steps need insert, D-steps delete"
  insert_only delete_only : Class
  -- "a size remembered for I9 or I10"
  size_remembered : Class
  deriving Discrete as class-discrete

pub record PlaceRow : Type 0 where
  pub number : ℕ
  pub means : List Class

abbrev row : ℕ → List Class → PlaceRow
row number means = record { number = number; means = means }

-- ---- the table, in the order of the numbers
abbrev pub places : List PlaceRow
places =
    row IDLE []
    ∷ row I1 (insert_only ∷ [])
    ∷ row SZ (key_in_hand ∷ [])
    ∷ row TB (key_in_hand ∷ [])
    ∷ row B2 (key_in_hand ∷ bucket_in_making ∷ [])
    ∷ row B4 (key_in_hand ∷ bucket_in_making ∷ [])
    ∷ row F1 (key_in_hand ∷ searching ∷ [])
    ∷ row F2 (key_in_hand ∷ searching ∷ [])
    ∷ row F3 (key_in_hand ∷ searching ∷ [])
    ∷ row F4 (key_in_hand ∷ searching ∷ [])
    ∷ row L2 (key_in_hand ∷ searching ∷ [])
    ∷ row B8 (key_in_hand ∷ bucket_in_making ∷ [])
    ∷ row I8 (insert_only ∷ effective ∷ insert_uncounted ∷ [])
    ∷ row I9 (insert_only ∷ effective ∷ insert_uncounted ∷ size_remembered ∷ [])
    ∷ row I10 (insert_only ∷ effective ∷ size_remembered ∷ [])
    ∷ row D4A (delete_only ∷ [])
    ∷ row D4B (delete_only ∷ effective ∷ delete_uncounted ∷ [])
    ∷ row D6 (delete_only ∷ effective ∷ delete_uncounted ∷ [])
    ∷ []

-- ---- what it says of a number; nothing of one that no place has
abbrev pub means_in : List PlaceRow → ℕ → List Class
means_in [] p = []
means_in (r ∷ rs) zero = r.means
means_in (r ∷ rs) (suc p) = means_in rs p

abbrev pub meaning : ℕ → List Class
meaning p = means_in places p

-- no place has this number
abbrev pub no_place : ℕ → Bool
no_place p = leb (length places) p

abbrev is : {A : Type 0} → Dec A → Bool
is (yes e) = true
is (no n) = false

abbrev pub includes : Class → List Class → Bool
includes c [] = false
includes c (d ∷ ds) = is (class-discrete c d) || includes c ds

abbrev pub searches : ℕ → Bool
searches p = includes searching (meaning p)

abbrev pub holds_key : ℕ → Bool
holds_key p = includes key_in_hand (meaning p)

abbrev pub makes : ℕ → Bool
makes p = includes bucket_in_making (meaning p)

abbrev pub insert_in : ℕ → Bool
insert_in p = includes insert_uncounted (meaning p)

abbrev pub delete_in : ℕ → Bool
delete_in p = includes delete_uncounted (meaning p)

abbrev pub in_effect : ℕ → Bool
in_effect p = includes effective (meaning p)

abbrev pub needs_insert : ℕ → Bool
needs_insert p = includes insert_only (meaning p)

abbrev pub needs_delete : ℕ → Bool
needs_delete p = includes delete_only (meaning p)

abbrev pub remembers_size : ℕ → Bool
remembers_size p = includes size_remembered (meaning p)

-- ---- the table's order is the numbers': row i is the row of place number i
abbrev pub numbers : List PlaceRow → List ℕ
numbers [] = []
numbers (r ∷ rs) = r.number ∷ numbers rs

-- k numbers, one after another, from n on
abbrev pub from : ℕ → ℕ → List ℕ
from n zero = []
from n (suc k) = n ∷ from (suc n) k

abbrev pub PlacesInOrder : Type 0
PlacesInOrder = numbers places ≡ from 0 (length places)
