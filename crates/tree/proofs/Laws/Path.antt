-- A parent's number is less, so b steps reach 0 from b and the ancestors of b are b and the ancestors of its parent; each law goes up that list.
-- Assumes nothing.
use Prim.Native.Nat.{ℕ, zero, suc, ◌<◌, ◌≤◌}
use native.Mathlib.Omega.{arith}
use mathlib.Core.Path.{◌≡◌, refl, sym, ap, ◌∙◌}
use mathlib.Core.Bool.{Bool, true, false, ◌||◌, or-true, or-false, true≢false}
use mathlib.Core.List.{List, [], ◌∷◌}
use lib.Dec.{eqb}
use borrow.Author.Tests.{eqb-true, eqb-false, eq-eqb, ne_eqb}
use Rattle.choice.specs.Choice.{pick}
use Rattle.choice.proofs.Auto.{pick_true, pick_false}
use Rattle.tree.specs.Tree.{parent_of, climb, ancestors, among, before, just_before, on_path, next_down}
use Rattle.tree.proofs.Laws.Parent.{parent_zero, parent_lt}

climb_zero : (n : ℕ) → climb n 0 ≡ 0 ∷ []
unfolding climb pick
climb_zero zero = refl
climb_zero (suc n) = refl

climb_up : (n b : ℕ) → 0 < b → climb (suc n) b ≡ b ∷ climb n (parent_of b)
unfolding climb
climb_up n b h = ap (λ (l : List ℕ). b ∷ l) (pick_false (eqb b 0) [] (climb n (parent_of b)) (ne_eqb b 0 (λ e. omega arith)))

-- any two bounds that are enough give the same list
same_climb : (n m b : ℕ) → b ≤ n → b ≤ m → climb n b ≡ climb m b
same_climb zero m b h g = let z : b ≡ 0 = omega arith in rw z (climb_zero 0 ∙ sym (climb_zero m))
same_climb (suc n) zero b h g = let z : b ≡ 0 = omega arith in rw z (climb_zero (suc n) ∙ sym (climb_zero 0))
same_climb (suc n) (suc m) b h g = at b h g (same_climb n m (parent_of b))
  where
    at : (b : ℕ) → b ≤ suc n → b ≤ suc m → (parent_of b ≤ n → parent_of b ≤ m → climb n (parent_of b) ≡ climb m (parent_of b)) → climb (suc n) b ≡ climb (suc m) b
    at zero h g ih = climb_zero (suc n) ∙ sym (climb_zero (suc m))
    at (suc b) h g ih =
        let lt = parent_lt (suc b) (omega arith) in
        rw (climb_up n (suc b) (omega arith), climb_up m (suc b) (omega arith), ih (omega arith) (omega arith))

pub ancestors_zero : ancestors 0 ≡ 0 ∷ []
unfolding ancestors
ancestors_zero = climb_zero 0

pub ancestors_up : (b : ℕ) → 0 < b → ancestors b ≡ b ∷ ancestors (parent_of b)
unfolding ancestors
ancestors_up zero h = absurd (omega arith)
ancestors_up (suc b) h =
    let lt = parent_lt (suc b) h in
    rw (climb_up b (suc b) h, same_climb b (parent_of (suc b)) (parent_of (suc b)) (omega arith) (omega arith))

-- the path, one step up
on_path_zero : (a : ℕ) → on_path 0 a ≡ eqb a 0
unfolding on_path among
on_path_zero a = rw ancestors_zero (or-false (eqb a 0))

on_path_step : (b a : ℕ) → 0 < b → on_path b a ≡ eqb a b || on_path (parent_of b) a
unfolding on_path among
on_path_step b a h = rw (ancestors_up b h)

next_down_zero : (a : ℕ) → next_down 0 a ≡ 0
unfolding next_down just_before before
next_down_zero a = rw ancestors_zero

before_ancestors : (a x p : ℕ) → before a x (ancestors p) ≡ pick (eqb p a) x (next_down p a)
unfolding next_down ancestors climb just_before before
before_ancestors a x zero = refl
before_ancestors a x (suc p) = refl

next_down_tail : (b a : ℕ) → 0 < b → next_down b a ≡ before a b (ancestors (parent_of b))
unfolding next_down just_before
next_down_tail b a h = rw (ancestors_up b h)

next_down_step : (b a : ℕ) → 0 < b → next_down b a ≡ pick (eqb (parent_of b) a) b (next_down (parent_of b) a)
next_down_step b a h = next_down_tail b a h ∙ before_ancestors a b (parent_of b)

-- the three ways of `on_path`
pub on_path_here : (b a : ℕ) → a ≡ b → on_path b a ≡ true
on_path_here zero a e = on_path_zero a ∙ eq-eqb a 0 e
on_path_here (suc b) a e = rw (on_path_step (suc b) a (omega arith), eq-eqb a (suc b) e)

pub on_path_root : (b a : ℕ) → (a ≡ b → ⊥) → b ≡ 0 → on_path b a ≡ false
on_path_root b a f z = rw z (on_path_zero a ∙ ne_eqb a 0 (λ e. f (omega arith)))

pub on_path_parent : (b a : ℕ) → (a ≡ b → ⊥) → (b ≡ 0 → ⊥) → on_path b a ≡ on_path (parent_of b) a
on_path_parent b a f z = rw (on_path_step b a (omega arith), ne_eqb a b f)

-- the three ways of `next_down`
pub next_down_root : (b a : ℕ) → b ≡ 0 → next_down b a ≡ 0
next_down_root b a z = rw z (next_down_zero a)

pub next_down_here : (b a : ℕ) → (b ≡ 0 → ⊥) → parent_of b ≡ a → next_down b a ≡ b
next_down_here b a z e = next_down_step b a (omega arith) ∙ pick_true (eqb (parent_of b) a) b (next_down (parent_of b) a) (eq-eqb (parent_of b) a e)

pub next_down_up : (b a : ℕ) → (b ≡ 0 → ⊥) → (parent_of b ≡ a → ⊥) → next_down b a ≡ next_down (parent_of b) a
next_down_up b a z f = next_down_step b a (omega arith) ∙ pick_false (eqb (parent_of b) a) b (next_down (parent_of b) a) (ne_eqb (parent_of b) a f)

-- what holds at a, and at a bucket where it holds at the bucket's parent, holds at each bucket from which a is on the path
module _ (P : ℕ → Type 0) (a : ℕ) (here : P a) (up : (b : ℕ) → 0 < b → on_path (parent_of b) a ≡ true → P (parent_of b) → P b) where
  along_at : (b : ℕ) → (0 < b → on_path (parent_of b) a ≡ true → P (parent_of b)) → on_path b a ≡ true → (t : Bool) → eqb a b ≡ t → P b
  along_at b ih on true e = rw (← eqb-true a b e) here
  along_at zero ih on false e = absurd (true≢false (sym on ∙ on_path_zero a ∙ e))
  along_at (suc b) ih on false e =
      let on' = sym (on_path_parent (suc b) a (eqb-false a (suc b) e) (λ z. omega arith)) ∙ on in
      up (suc b) (omega arith) on' (ih (omega arith) on')

  along_to : (n b : ℕ) → b ≤ n → on_path b a ≡ true → P b
  along_to zero b h on = along_at b (λ z. absurd (omega arith)) on (eqb a b) refl
  along_to (suc n) b h on = along_at b (λ z. along_to n (parent_of b) (omega (arith, parent_lt b z))) on (eqb a b) refl

  pub along_path : (b : ℕ) → on_path b a ≡ true → P b
  along_path b on = along_to b b (omega arith) on

pub on_path_self : (b : ℕ) → on_path b b ≡ true
on_path_self b = on_path_here b b refl

-- what is on the path from the parent is on the path from the bucket
pub on_path_below : (b a : ℕ) → on_path (parent_of b) a ≡ true → on_path b a ≡ true
on_path_below zero a h = rw parent_zero at h
on_path_below (suc b) a h = rw (on_path_step (suc b) a (omega arith), h) (or-true (eqb a (suc b)))

pub on_path_up : (b a : ℕ) → on_path b a ≡ true → on_path b (parent_of a) ≡ true
on_path_up b a on =
    along_path
    (λ (x : ℕ). on_path x (parent_of a) ≡ true)
    a
    (on_path_below a (parent_of a) (on_path_self (parent_of a)))
    (λ x h _ ih. on_path_below x (parent_of a) ih)
    b
    on

pub on_path_le : (b a : ℕ) → on_path b a ≡ true → a ≤ b
on_path_le b a on = along_path (λ (x : ℕ). a ≤ x) a (omega arith) (λ x h _ ih. omega (arith, parent_lt x h)) b on

-- the next bucket down is the one on the path whose parent is a
pub next_down_parent : (b a : ℕ) → on_path b a ≡ true → (a ≡ b → ⊥) → (parent_of (next_down b a) ≡ a) × (on_path b (next_down b a) ≡ true) × (a < next_down b a)
next_down_parent b a on =
    along_path
    (λ (x : ℕ). (a ≡ x → ⊥) → Next x)
    a
    (λ f. absurd (f refl))
    (λ x h _ ih _. at x h ih (eqb (parent_of x) a) refl)
    b
    on
  where
    Next : ℕ → Type 0
    Next x = (parent_of (next_down x a) ≡ a) × (on_path x (next_down x a) ≡ true) × (a < next_down x a)

    at : (x : ℕ) → 0 < x → ((a ≡ parent_of x → ⊥) → Next (parent_of x)) → (t : Bool) → eqb (parent_of x) a ≡ t → Next x
    at x h ih true e =
        let p = eqb-true (parent_of x) a e in
        rw (next_down_here x a (λ z. omega arith) p) (p, on_path_self x, omega (arith, parent_lt x h))
    at x h ih false e =
        let f = eqb-false (parent_of x) a e in
        let i = ih (λ q. f (sym q)) in
        rw (next_down_up x a (λ z. omega arith) f) (i.0, on_path_below x (next_down (parent_of x) a) i.1, i.2)
