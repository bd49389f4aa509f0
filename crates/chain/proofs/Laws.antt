-- The walk is taken apart turn by turn: one node more is counted, and the rest is the walk from the next.
-- Assumes nothing.
use mathlib.Core.Path.{◌≡◌, refl}
use mathlib.Core.Bool.{Bool, true, false}
use mathlib.Core.List.{List}
use Prim.Native.Nat.{ℕ, zero, suc, ◌+◌, ◌-◌, ◌/◌, ◌≤◌, ◌<◌}
use native.Mathlib.Omega.{arith}
use mir.Val.{bool_byte}
use borrow.Author.Tests.{eq-eqb, ne_eqb}
use lib.Dec.{eqb}
use Rattle.choice.specs.Choice.{pick}
use Rattle.choice.proofs.Auto.{pick_true, pick_false}
use Rattle.words.specs.Words.{LINK, word}
use Rattle.chain.specs.Chain.{is_key, keys_from}

-- nothing is left to follow, the chain has ended, or one node more is counted
pub keys_none : (ns : List ℕ) (left n : ℕ) → left ≡ 0 → keys_from ns left n ≡ 0
unfolding keys_from
keys_none ns left n e = rw e

pub keys_end : (ns : List ℕ) (left n : ℕ) → n ≡ 0 → keys_from ns left n ≡ 0
unfolding keys_from
keys_end ns zero n e = refl
keys_end ns (suc left) n e = pick_true (eqb n 0) 0 _ (eq-eqb n 0 e)

one : (t : Bool) → pick t 1 0 ≡ bool_byte t
unfolding pick
one true = refl
one false = refl

keys_suc : (ns : List ℕ) (left n : ℕ) → (n ≡ 0 → ⊥) → keys_from ns (suc left) n ≡ bool_byte (is_key ns n) + keys_from ns left (word ns n LINK / 2)
unfolding keys_from
keys_suc ns left n some = rw (pick_false {A = ℕ} (eqb n 0) 0 _ (ne_eqb n 0 some), one (is_key ns n))

pub keys_turn : (ns : List ℕ) (most i n : ℕ) → i < most → (n ≡ 0 → ⊥) → keys_from ns (most - i) n ≡ bool_byte (is_key ns n) + keys_from ns (most - (i + 1)) (word ns n LINK / 2)
keys_turn ns most i n h some =
    let e : most - i ≡ suc (most - (i + 1)) = omega arith in
    rw e (keys_suc ns (most - (i + 1)) n some)

-- no more are counted than followed
pub keys_le : (ns : List ℕ) (left n : ℕ) → keys_from ns left n ≤ left
keys_le ns zero n = omega (arith, keys_none ns 0 n refl)
keys_le ns (suc left) zero = omega (arith, keys_end ns (suc left) 0 refl)
keys_le ns (suc left) (suc n) = omega (arith, keys_suc ns left (suc n) (λ e. omega arith), byte_le (is_key ns (suc n)), keys_le ns left (word ns (suc n) LINK / 2))
  where
    byte_le : (t : Bool) → bool_byte t ≤ 1
    byte_le true = omega arith
    byte_le false = omega arith

pub ruleset counting = (keys_none, keys_end, keys_turn, keys_le)
