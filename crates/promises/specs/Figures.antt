-- The worked figures P1 to P13: one table, and what it says of the definitions.
use Rattle.std.specs.Prelude.{ℕ, Bool, true, false, List, [], ◌∷◌, ◌≡◌}
use Rattle.split.specs.Split.{regular, dummy}
use Rattle.tree.specs.Tree.{parent_of}
use Rattle.header.specs.declared.Header.{Header}
use Rattle.header.specs.Header.{fresh, doubles}

-- a figure: what is asked, and what comes out
pub data Figure : Type 0 where
  regular_key : (key split : ℕ) → Figure
  dummy_key : (bucket split : ℕ) → Figure
  parent : (bucket above : ℕ) → Figure
  load : (m l size old : ℕ) → (grows : Bool) → Figure

-- a header of which the load test reads M and L
abbrev pub loaded : ℕ → ℕ → Header
loaded m l = fresh m 1 1 l

-- the definition gives what the figure says
abbrev pub Right : Figure → Type 0
Right (regular_key key split) = regular key ≡ split
Right (dummy_key bucket split) = dummy bucket ≡ split
Right (parent bucket above) = parent_of bucket ≡ above
Right (load m l size old grows) = doubles (loaded m l) size old ≡ grows

-- "P1-P5, regular split keys", "P6-P7, dummies", "P8-P10, parents", "P11-P13, with size 2 below M and L 1"
abbrev pub figures : List Figure
figures =
    regular_key 0 0x00000001
    ∷ regular_key 9 0x90000001
    ∷ regular_key 13 0xB0000001
    ∷ regular_key 10 0x50000001
    ∷ regular_key 2147483647 0xFFFFFFFF
    ∷ dummy_key 1 0x80000000
    ∷ dummy_key 3 0xC0000000
    ∷ parent 3 1
    ∷ parent 6 2
    ∷ parent 12 4
    ∷ load 4 1 2 3 false
    ∷ load 4 1 2 4 true
    ∷ load 4 1 2 0xFFFFFFFF false
    ∷ []

-- every row of the table is right
abbrev pub EachRight : List Figure → Type 0
EachRight [] = Unit {0}
EachRight (f ∷ fs) = Right f × EachRight fs
