-- An answer's number is its own and tells its class, case by case; the rest follows from that.
-- Assumes nothing.
use Prim.Native.Nat.{ℕ}
use mathlib.Core.Path.{◌≡◌, refl, sym, ap, ◌∙◌}
use mathlib.Core.Bool.{Bool, true, false, false≢true, not, ◌&&◌, ◌||◌}
use mathlib.Core.Logic.{⊎_elim, ◌↔◌}
use lib.Dec.{eqb, leb}
use Rattle.choice.specs.Choice.{pick}
use Rattle.choice.proofs.Exactly.{Tells}
use Rattle.choice.proofs.Telling.{tells_eq, tells_le, tells_or, tells_and}
use Rattle.names.specs.Names.{number_of, refuses, ends, goes_on, has_row, ClassesByNumber}
use Rattle.names.specs.declared.Answer.{Answer}
use Rattle.names.specs.declared.Answer.TheVariants.{Going, Yes, No, Limit, Short, Damaged, NoWorker, KeyAbove, IsBusy, IsIdle, NoKind, NoKeyNode, NoDummy}

-- ---- an answer is known by its number
answer_of : ℕ → Answer
answer_of n =
    pick (eqb n 0) Going
    (pick (eqb n 1) Yes
    (pick (eqb n 2) No
    (pick (eqb n 10) Limit
    (pick (eqb n 11) Short
    (pick (eqb n 12) Damaged
    (pick (eqb n 13) NoWorker
    (pick (eqb n 14) KeyAbove
    (pick (eqb n 15) IsBusy
    (pick (eqb n 16) IsIdle
    (pick (eqb n 17) NoKind
    (pick (eqb n 18) NoKeyNode NoDummy)))))))))))

number_back : (a : Answer) → answer_of (number_of a) ≡ a
unfolding answer_of pick
number_back Going = refl
number_back Yes = refl
number_back No = refl
number_back Limit = refl
number_back Short = refl
number_back Damaged = refl
number_back NoWorker = refl
number_back KeyAbove = refl
number_back IsBusy = refl
number_back IsIdle = refl
number_back NoKind = refl
number_back NoKeyNode = refl
number_back NoDummy = refl

pub one_number : (a b : Answer) → number_of a ≡ number_of b → a ≡ b
one_number a b e = sym (number_back a) ∙ ap answer_of e ∙ number_back b

-- ---- the classes by the numbers
tests :
    (a : Answer) →
    let n = number_of a in
    (refuses a ≡ leb 10 n && leb n 17)
    × (ends a ≡ eqb n 1 || (eqb n 2 || (eqb n 18 || eqb n 19)))
    × (goes_on a ≡ eqb n 0)
    × (has_row a ≡ leb 10 n)
tests Going = (refl, refl, refl, refl)
tests Yes = (refl, refl, refl, refl)
tests No = (refl, refl, refl, refl)
tests Limit = (refl, refl, refl, refl)
tests Short = (refl, refl, refl, refl)
tests Damaged = (refl, refl, refl, refl)
tests NoWorker = (refl, refl, refl, refl)
tests KeyAbove = (refl, refl, refl, refl)
tests IsBusy = (refl, refl, refl, refl)
tests IsIdle = (refl, refl, refl, refl)
tests NoKind = (refl, refl, refl, refl)
tests NoKeyNode = (refl, refl, refl, refl)
tests NoDummy = (refl, refl, refl, refl)

-- a test that is another tells what that one tells
told : {s t : Bool} {A : Type 0} → s ≡ t → Tells t A → (s ≡ true) ↔ A
told e a = (λ p. a.sound (sym e ∙ p), λ p. e ∙ a.complete p)

pub classes_by_number : ClassesByNumber
classes_by_number a =
    let n = number_of a in
    let e = tests a in (
      told e.0 (tells_and (tells_le 10 n) (tells_le n 17)),
      told e.1 (tells_or (tells_eq n 1) (tells_or (tells_eq n 2) (tells_or (tells_eq n 18) (tells_eq n 19)))),
      told e.2 (tells_eq n 0),
      told e.3 (tells_le 10 n),
    )

-- ---- an answer is in one class
-- a refusal does not go on
pub refused_stops : (a : Answer) → refuses a ≡ true → goes_on a ≡ false
refused_stops a r = ap (λ (t : Bool). not (t || ends a)) r

-- one alone goes on
pub only_going : (a : Answer) → goes_on a ≡ true → a ≡ Going
only_going a g = one_number a Going ((classes_by_number a).2.0 g)

pub stopped : (a : Answer) → (a ≡ Going → ⊥) → goes_on a ≡ false
stopped a n = by (goes_on a) refl
  where
    by : (t : Bool) → goes_on a ≡ t → goes_on a ≡ false
    by true e = absurd (n (only_going a e))
    by false e = e

-- what holds of the four that end an operation
pub by_ending : (P : Answer → Type 0) → P Yes → P No → P NoKeyNode → P NoDummy → (a : Answer) → ends a ≡ true → P a
by_ending P p q f d a e =
    ⊎_elim (λ n. rw (one_number a Yes n) p)
    (⊎_elim (λ n. rw (one_number a No n) q)
    (⊎_elim (λ n. rw (one_number a NoKeyNode n) f) (λ n. rw (one_number a NoDummy n) d)))
    ((classes_by_number a).1.0 e)

-- a refusal ends nothing
pub refused_or_ended : (a : Answer) → refuses a ≡ true → ends a ≡ true → ⊥
refused_or_ended a r e = by_ending (λ (b : Answer). refuses b ≡ true → ⊥) false≢true false≢true false≢true false≢true a e r
