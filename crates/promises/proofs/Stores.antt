-- An effect is at most two stores, each to one word.
-- Assumes nothing.
use Prim.Native.Nat.{ℕ}
use mathlib.Core.Bool.{true, false}
use mathlib.Core.List.{List, [], ◌∷◌}
use mathlib.Core.Path.{◌≡◌, refl}
use Rattle.words.specs.Words.{Tables, tables, TAKEN, put, store, link_to}
use Rattle.acts.specs.declared.Effect.{Effect}
use Rattle.acts.specs.declared.Effect.TheVariants.{Nothing, TakeKey, TakeDummy, Free, Aim, Place, Mark, Unlink, Store, Count, Size}
use Rattle.acts.specs.declared.Move.{Move}
use Rattle.acts.specs.declared.Move.TheVariants.{Damaged, Going, Ended}
use Rattle.writes.specs.Writes.{tables_after}
use Rattle.promises.specs.Access.{split_key, link, standing, spot, Word, of_node, of_bucket}

-- what a decision writes
abbrev pub effect_of : Move → Effect
effect_of Damaged = Nothing
effect_of (Going x e) = e
effect_of (Ended a e) = e

-- a store: the word, and what is stored in it
pub record Stored : Type 0 where
  pub at : Word
  pub what : ℕ

abbrev pub stored : Word → ℕ → Stored
stored v x = record { at = v; what = x }

-- a node is taken: its split key, and its standing
abbrev pub takes : ℕ → ℕ → List Stored
takes n split = stored (of_node n split_key) split ∷ stored (of_node n standing) TAKEN ∷ []

-- the stores of an effect, in their order
abbrev pub stores : Effect → List Stored
stores Nothing = []
stores (TakeKey n split) = takes n split
stores (TakeDummy n split) = takes n split
stores (Free n) = stored (of_node n standing) 0 ∷ []
stores (Aim n next) = stored (of_node n link) (link_to next false) ∷ []
stores (Place n next prev) = stored (of_node n link) (link_to next false) ∷ stored (of_node prev link) (link_to n false) ∷ []
stores (Mark n next) = stored (of_node n link) (link_to next true) ∷ []
stores (Unlink prev next n busy) = stored (of_node prev link) (link_to next false) ∷ stored (of_node n standing) busy ∷ []
stores (Store b n) = stored (of_bucket b) n ∷ []
stores (Count v) = []
stores (Size v) = []

-- what holds of the word of each store
abbrev pub All : (Word → Type 0) → List Stored → Type 0
All P [] = Unit {0}
All P (s ∷ ss) = P s.at × All P ss

-- ---- the tables after one store, and after all
abbrev pub stored_to : Stored → Tables → Tables
stored_to s ts =
    elim s.at [
      | of_node n p ↦ tables (put ts.nodes n (spot p) s.what) ts.buckets
      | of_bucket b ↦ tables ts.nodes (store ts.buckets b s.what)
    ]

abbrev pub stored_all : List Stored → Tables → Tables
stored_all [] ts = ts
stored_all (s ∷ ss) ts = stored_all ss (stored_to s ts)

-- an effect is its stores
pub effect_stores : (e : Effect) (ts : Tables) → tables_after e ts ≡ stored_all (stores e) ts
effect_stores Nothing ts = refl
effect_stores (TakeKey n split) ts = refl
effect_stores (TakeDummy n split) ts = refl
effect_stores (Free n) ts = refl
effect_stores (Aim n next) ts = refl
effect_stores (Place n next prev) ts = refl
effect_stores (Mark n next) ts = refl
effect_stores (Unlink prev next n busy) ts = refl
effect_stores (Store b n) ts = refl
effect_stores (Count x) ts = refl
effect_stores (Size x) ts = refl
