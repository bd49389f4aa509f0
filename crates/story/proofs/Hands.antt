-- What a record holds is read off its place, errand and kind: the tests compute once the place is known.
-- Assumes nothing.
use mathlib.Core.Path.{◌≡◌, refl, ◌∙◌}
use mathlib.Core.Bool.{Bool, true, false, ◌&&◌, not}
use mathlib.Core.List.{List}
use Prim.Native.Nat.{ℕ}
use lib.Dec.{eqb}
use Rattle.choice.specs.Choice.{pick}
use Rattle.names.specs.Names.{DUMMY, EXTRA, INSERT}
use Rattle.names.specs.Places.{holds_key, searches}
use Rattle.header.specs.declared.Header.{Header}
use Rattle.record.specs.declared.Worker.{Worker}
use Rattle.record.specs.Worker.{idle, held_key, held_dummy}
use Rattle.story.proofs.Facts.{Spot, i1, sz, tb, b2, b4, f1, f2, f3, f4, l2, b8, i8, i9, i10, d4a, d4b, d6, number, Aim, for_key, for_dummy, for_extra, AimOf, At, in_hand, key_of, dummy_of, Busy}

-- the two definitions over place, errand, kind and number
abbrev kept : ℕ → ℕ → ℕ → ℕ → ℕ
kept p e k n = pick (eqb k INSERT && holds_key p && not (searches p && eqb e EXTRA)) n 0

abbrev making : ℕ → ℕ → ℕ → ℕ
making p e n = pick (searches p && eqb e DUMMY) n 0

key_by : (x : Worker) (p : ℕ) → x.place ≡ p → held_key x ≡ kept p x.errand x.kind x.held
unfolding held_key
key_by x p e = rw (← e)

dummy_by : (x : Worker) (p : ℕ) → x.place ≡ p → held_dummy x ≡ making p x.errand x.dummy
unfolding held_dummy
dummy_by x p e = rw (← e)

same : (t : Bool) (n : ℕ) → pick (t && true && true) n 0 ≡ pick t n 0
unfolding pick
same true n = refl
same false n = refl

none : (t b : Bool) (n : ℕ) → pick (t && false && b) n 0 ≡ 0
unfolding pick
none true b n = refl
none false b n = refl

-- during a search, by what it is for
searching : (p e k wanted making key held dummy-node : ℕ) → holds_key p ≡ true → searches p ≡ true → Aim e k key wanted making held dummy-node → kept p e k held ≡ pick (eqb k INSERT) held 0
unfolding pick
searching p e k wa ma key held dummy-node s f (for_key q _) = rw (s, f, q) (same (eqb k INSERT) held)
searching p e k wa ma key held dummy-node s f (for_dummy q _ _ _) = rw (s, f, q) (same (eqb k INSERT) held)
searching p e k wa ma key held dummy-node s f (for_extra q r) = rw (s, f, q, r)

aimed : (x : Worker) (p : ℕ) → x.place ≡ p → holds_key p ≡ true → searches p ≡ true → AimOf x → held_key x ≡ in_hand x
aimed x p e s f a = key_by x p e ∙ searching p x.errand x.kind x.wanted x.making x.key x.held x.dummy s f a

module _ (h : Header) (v : ℕ) (c m : List ℕ) (P : ℕ → ℕ → ℕ → Type 0) (x : Worker) where
  key_at : (p : Spot) → x.place ≡ number p → At h v c m P p x → held_key x ≡ key_of p x
  key_at i1 e a = key_by x _ e ∙ none (eqb x.kind INSERT) _ x.held
  key_at sz e a = key_by x _ e ∙ same (eqb x.kind INSERT) x.held
  key_at tb e a = key_by x _ e ∙ same (eqb x.kind INSERT) x.held
  key_at b2 e a = key_by x _ e ∙ same (eqb x.kind INSERT) x.held
  key_at b4 e a = key_by x _ e ∙ same (eqb x.kind INSERT) x.held
  key_at f1 e a = aimed x _ e refl refl a.0
  key_at f2 e a = aimed x _ e refl refl a.0.0.0
  key_at f3 e a = aimed x _ e refl refl a.0.0.0
  key_at f4 e a = aimed x _ e refl refl a.0.0.0
  key_at l2 e a = aimed x _ e refl refl a.0.0.0
  key_at b8 e a = key_by x _ e ∙ same (eqb x.kind INSERT) x.held
  key_at i8 e a = key_by x _ e ∙ none (eqb x.kind INSERT) _ x.held
  key_at i9 e a = key_by x _ e ∙ none (eqb x.kind INSERT) _ x.held
  key_at i10 e a = key_by x _ e ∙ none (eqb x.kind INSERT) _ x.held
  key_at d4a e a = key_by x _ e ∙ none (eqb x.kind INSERT) _ x.held
  key_at d4b e a = key_by x _ e ∙ none (eqb x.kind INSERT) _ x.held
  key_at d6 e a = key_by x _ e ∙ none (eqb x.kind INSERT) _ x.held

  dummy_at : (p : Spot) → x.place ≡ number p → held_dummy x ≡ dummy_of p x
  unfolding pick
  dummy_at i1 e = dummy_by x _ e
  dummy_at sz e = dummy_by x _ e
  dummy_at tb e = dummy_by x _ e
  dummy_at b2 e = dummy_by x _ e
  dummy_at b4 e = dummy_by x _ e
  dummy_at f1 e = dummy_by x _ e
  dummy_at f2 e = dummy_by x _ e
  dummy_at f3 e = dummy_by x _ e
  dummy_at f4 e = dummy_by x _ e
  dummy_at l2 e = dummy_by x _ e
  dummy_at b8 e = dummy_by x _ e
  dummy_at i8 e = dummy_by x _ e
  dummy_at i9 e = dummy_by x _ e
  dummy_at i10 e = dummy_by x _ e
  dummy_at d4a e = dummy_by x _ e
  dummy_at d4b e = dummy_by x _ e
  dummy_at d6 e = dummy_by x _ e

  pub key_is : (b : Busy h v c m P x) → held_key x ≡ key_of b.spot x
  key_is b = key_at b.spot b.place b.at

  pub dummy_is : (b : Busy h v c m P x) → held_dummy x ≡ dummy_of b.spot x
  dummy_is b = dummy_at b.spot b.place

-- an idle record holds nothing
pub idle_key : held_key idle ≡ 0
unfolding held_key pick
idle_key = refl

pub idle_dummy : held_dummy idle ≡ 0
unfolding held_dummy pick
idle_dummy = refl
