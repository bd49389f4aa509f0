-- Where a record stands whole at an offset, its kind is that of the byte there, and its body is the stretch of the input that the kind fixes.
-- Assumes nothing.
use Prim.Native.Nat.{ℕ, ◌+◌, ◌-◌, ◌≤◌, ◌<◌}
use mathlib.Core.Path.{◌≡◌, refl, sym, ap, ◌∙◌}
use mathlib.Core.List.{List}
use native.Mathlib.Omega.{arith}
use lib.Dec.{leb}
use lib.ListN.{length, get_or, take, drop, length-take, length-drop}
use borrow.Author.Tests.{lt-leb, leb-false, le-ltb}
use Rattle.std.specs.Prelude.{Option, Some, Result, Ok, Err}
use Rattle.choice.proofs.Auto.{pick_false}
use Rattle.choice.proofs.Cases.{by_bool, by_lt}
use Rattle.script.specs.declared.Kind.{Kind}
use Rattle.script.specs.declared.Fault.{Fault}
use Rattle.script.specs.declared.Record.{Record}
use Rattle.script.specs.Script.{kind_of, body_length, of_kind, entry_at, body_at}

-- a whole record: the byte there is of its kind, and the body is in the input
pub record WholeAt (input : List ℕ) (at : ℕ) (r : Record) : Type 0 where
  pub inside : at < length input
  pub is_kind : kind_of (get_or input at 0) ≡ Ok r.kind
  pub ends : r.next ≡ at + 1 + body_length r.kind
  pub fits : r.next ≤ length input

-- if it is a whole record, all that holds
abbrev Told : List ℕ → ℕ → Record → Result (Option Record) Fault → Type 0
Told input at r e = e ≡ Ok (Some r) → WholeAt input at r

-- a record that is told is whole
pub whole_at : (input : List ℕ) (at : ℕ) (r : Record) → entry_at input at ≡ Ok (Some r) → WholeAt input at r
unfolding entry_at
whole_at input at r =
    by_bool (Told input at r) (leb (length input) at)
    (λ _ e. absurd (cc e))
    (λ inside. told (leb-false (length input) at inside) (kind_of (get_or input at 0)) refl)
  where
    made : (kind : Kind) → at < length input → kind_of (get_or input at 0) ≡ Ok kind → body_length kind ≤ length input - (at + 1) → Told input at r (Ok (Some (record { kind = kind; next = at + 1 + body_length kind })))
    made kind inside is fits e =
        let same : record { kind = kind; next = at + 1 + body_length kind } ≡ r = cc in
        rw (← same) (record { inside = inside; is_kind = is; ends = refl; fits = omega arith })

    told : at < length input → (k : Result Kind Fault) → kind_of (get_or input at 0) ≡ k → Told input at r (of_kind input at k)
    told inside (Err fault) is = λ e. absurd (cc e)
    told inside (Ok kind) is = by_lt (Told input at r) (length input - (at + 1)) (body_length kind) (λ _ e. absurd (cc e)) (made kind inside is)

-- a record that is whole is told
pub told_at : (input : List ℕ) (at : ℕ) (r : Record) → WholeAt input at r → entry_at input at ≡ Ok (Some r)
unfolding entry_at
told_at input at r w =
    pick_false _ _ _ (lt-leb (length input) at w.inside)
    ∙ rw w.is_kind (pick_false _ _ _ (le-ltb (length input - (at + 1)) (body_length r.kind) (omega (arith, w.ends, w.fits)))
    ∙ ap (λ (n : ℕ). Ok (Some (record { kind = r.kind; next = n }))) (sym w.ends))

-- the body of a whole record is the stretch that its kind byte fixes
pub body_whole : (input : List ℕ) (at : ℕ) (r : Record) → WholeAt input at r → body_at input at ≡ take (body_length r.kind) (drop (at + 1) input)
unfolding body_at
body_whole input at r w = rw (told_at input at r w)

-- and it has that length
pub body_long : (input : List ℕ) (at : ℕ) (r : Record) → WholeAt input at r → length (body_at input at) ≡ body_length r.kind
body_long input at r w = rw (body_whole input at r w) (simp (length-take, length-drop) (omega arith))
