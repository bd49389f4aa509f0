-- Each place decides by a chain of choices whose tests tell the claims about the words read, so a decision is damaged exactly where one of them holds.
-- Assumes nothing.
use Prim.Native.Nat.{ℕ}
use mathlib.Core.Bool.{Bool, true, false, true≢false, or_assoc, ◌||◌}
use mathlib.Core.Logic.{◌⊎◌, inl, inr, ⊎_elim}
use mathlib.Core.Path.{◌≡◌, refl}
use native.Mathlib.Omega.{arith}
use lib.Dec.{eqb}
use Rattle.choice.specs.Choice.{pick}
use Rattle.choice.proofs.Cases.{both}
use Rattle.choice.proofs.Exactly.{Tells, fails}
use Rattle.choice.proofs.Telling.{tells_eq, tells_lt, tells_or, tells_and, tells_not, Clears, clears_eq, clears_lt, clears_flag}
use Rattle.words.specs.Words.{is_to}
use Rattle.names.specs.Names.{KEY, DUMMY, EXTRA, INSERT, has_row}
use Rattle.names.specs.declared.Answer.{Answer}
use Rattle.names.specs.declared.Answer.TheVariants.{Yes}
use Rattle.header.specs.declared.Header.{Header}
use Rattle.record.specs.declared.Worker.{Worker}
use Rattle.moves.specs.declared.Seen.{Seen}
use Rattle.acts.specs.declared.Effect.{Effect}
use Rattle.acts.specs.declared.Move.{Move}
use Rattle.acts.specs.declared.Move.TheVariants.{Damaged, Going, Ended}
use Rattle.moves.specs.Moves.{bad_link, want_of, held_for, not_found, found_key, found, comes, f1, f2, judged, f3, f4, placed, l2, tb, b2, b8, sz, i8, i9, i10, d4a, d4b, d6}
use Rattle.promises.specs.Refusals.{BucketAbove, LinkAbove, LinkDamaged, LinksTo, SwapDamaged, FoundDamaged, CurDamaged, SearchDamaged, PlaceDamaged}

-- a decision that goes on, or ends with an answer that no row claims
pub data Fine : Move → Type 0 where
  going : {x : Worker} {e : Effect} → Fine (Going x e)
  ended : {a : Answer} {e : Effect} → has_row a ≡ false → Fine (Ended a e)

-- the decision is damaged exactly where the claim holds, and fine elsewhere
pub data Plain (claim : Type 0) (m : Move) : Type 0 where
  broken : claim → m ≡ Damaged → Plain claim m
  sound : (claim → ⊥) → Fine m → Plain claim m

-- the same claim in other words
plain_as : {A B : Type 0} {m : Move} → (A → B) → (B → A) → Plain A m → Plain B m
plain_as there back (broken a e) = broken (there a) e
plain_as there back (sound n f) = sound (λ b. n (back b)) f

-- nothing is claimed of a decision that is fine
pub unclaimed : {m : Move} → Fine m → Plain ⊥ m
unclaimed f = sound (λ n. n) f

-- damaged where the test says so, else as what follows
stops : {t : Bool} {A B : Type 0} {m : Move} → Tells t A → Plain B m → Plain (A ⊎ B) (pick t Damaged m)
unfolding pick
stops {t = true} a p = broken (inl (a.sound refl)) refl
stops {t = false} a (broken b e) = broken (inr b) e
stops {t = false} a (sound n f) = sound (⊎_elim (fails a refl) n) f

stop : {t : Bool} {A : Type 0} {m : Move} → Tells t A → Fine m → Plain A (pick t Damaged m)
stop a f = plain_as (⊎_elim (λ p. p) (λ n. absurd n)) inl (stops a (unclaimed f))

-- damaged only where the test holds, or only where it fails
then_only : {t : Bool} {A B : Type 0} {m n : Move} → Tells t A → Plain B m → Fine n → Plain (A × B) (pick t m n)
unfolding pick
then_only {t = true} a (broken b e) g = broken (a.sound refl, b) e
then_only {t = true} a (sound n f) g = sound (λ p. n p.1) f
then_only {t = false} a p g = sound (λ p. fails a refl p.0) g

else_only : {t : Bool} {A B : Type 0} {m n : Move} → Clears t A → Fine m → Plain B n → Plain (A × B) (pick t m n)
unfolding pick
else_only {t = true} a f p = sound (λ q. absurd (true≢false (a.complete q.0))) f
else_only {t = false} a f (broken b e) = broken (a.sound refl, b) e
else_only {t = false} a f (sound n g) = sound (λ p. n p.1) g

-- each way of the test has its own claim
each_way : {t : Bool} {A B C : Type 0} {m n : Move} → Tells t A → Plain B m → Plain C n → Plain ((A × B) ⊎ ((A → ⊥) × C)) (pick t m n)
unfolding pick
each_way {t = true} a (broken b e) q = broken (inl (a.sound refl, b)) e
each_way {t = true} a (sound n f) q = sound (⊎_elim (λ p. n p.1) (λ p. p.0 (a.sound refl))) f
each_way {t = false} a p (broken c e) = broken (inr (fails a refl, c)) e
each_way {t = false} a p (sound n f) = sound (⊎_elim (λ q. fails a refl q.0) (λ q. n q.1)) f

-- ---- the ends of a search
not_found_lem : (x : Worker) (e : Effect) → Fine (not_found x e)
unfolding not_found
not_found_lem x e = both Fine _ going (both Fine _ going (ended refl))

arrives : (x : Worker) (prev cur : ℕ) (e : Effect) → Fine (comes x prev cur e)
unfolding comes
arrives x prev cur e = both Fine _ (not_found_lem _ e) going

-- an errand that the paper names and that is neither the key's nor the extra search is a dummy's
abbrev pub Known : Worker → Type 0
Known x = (x.errand ≡ KEY → ⊥) → (x.errand ≡ EXTRA → ⊥) → x.errand ≡ DUMMY

is_found : (x : Worker) → Known x → Plain (FoundDamaged x) (found x)
unfolding found found_key
is_found x known =
    plain_as
    (λ c. ⊎_elim (λ k. inr (k.0, k.1.0, k.1.1)) (λ d. inl (known d.0 c.0, d.1)) c.1)
    (⊎_elim (λ d. (λ e. omega arith, inr (λ e. omega arith, d.1))) (λ k. (λ e. omega arith, inl (k.0, (k.1, k.2)))))
    (else_only (clears_eq x.errand EXTRA) going
    (each_way (tells_eq x.errand KEY)
    (then_only (tells_eq x.kind INSERT) (stop (tells_eq x.held 0) (ended refl)) (both Fine _ (ended refl) going))
    (stop (tells_eq x.dummy 0) going)))

-- ---- the places, with `read` for the word that is read and `key` for cur's split key
module _ (h : Header) (x : Worker) (read key : ℕ) where
  abbrev s : Seen
  s = record { header = h; worker = x; word = read; split = key }

  pub tb_plain : Plain (BucketAbove h read) (tb s)
  unfolding tb
  tb_plain = stop (tells_lt _ _) (both Fine _ going going)

  pub b2_plain : Plain (BucketAbove h read) (b2 s)
  unfolding b2
  b2_plain = stop (tells_lt _ _) (both Fine _ going going)

  link_above : Tells (bad_link s) (LinkAbove h read)
  unfolding bad_link
  link_above = tells_lt _ _

  no_link : (n : ℕ) → Tells (eqb n 0 || bad_link s) (LinkDamaged h n read)
  no_link n = tells_or (tells_eq n 0) link_above

  links_to : (next : ℕ) → Tells (is_to read next) (LinksTo read next)
  unfolding is_to
  links_to next = tells_eq _ _

  pub f1_plain : Plain (LinkDamaged h x.start read) (f1 s)
  unfolding f1
  f1_plain = stop (no_link x.start) (arrives _ _ _ _)

  pub f2_plain : Plain (LinkDamaged h x.cur read) (f2 s)
  unfolding f2
  f2_plain = stop (no_link x.cur) going

  is_judged : Known x → Plain (CurDamaged x key) (judged s)
  unfolding judged
  is_judged known =
      else_only (clears_flag x.marked) going
      (stops (tells_eq x.cur 0)
      (plain_as (λ c. c.1) (λ c. (omega arith, c))
      (else_only (clears_lt key (want_of x)) (arrives _ _ _ _)
      (then_only (tells_eq key (want_of x)) (is_found x known) (not_found_lem _ _)))))

  pub f3_plain : Known x → Plain (SearchDamaged h x read key) (f3 s)
  unfolding f3
  f3_plain known = stops (no_link x.prev) (then_only (links_to x.cur) (is_judged known) going)

  pub f4_plain : Plain (SwapDamaged h x read) (f4 s)
  unfolding f4
  f4_plain = stops (no_link x.prev) (then_only (links_to x.cur) (stop (tells_eq x.cur 0) (arrives _ _ _ _)) going)

  pub l2_plain : Plain (PlaceDamaged h x read) (l2 s)
  unfolding l2 placed
  l2_plain =
      stop
      (simp or_assoc
      (tells_or (tells_eq (held_for x) 0)
      (tells_or (tells_eq x.prev 0)
      (tells_and (tells_not (tells_eq x.prev (held_for x))) link_above))))
      (both Fine _ (both Fine _ going going) going)

  pub b8_plain : Plain (x.dummy ≡ 0) (b8 s)
  unfolding b8
  b8_plain = stop (tells_eq x.dummy 0) (both Fine _ going going)

  pub d4a_plain : Plain (LinkDamaged h x.cur read) (d4a s)
  unfolding d4a
  d4a_plain = stop (no_link x.cur) (both Fine _ going going)

  pub d4b_plain : Plain (SwapDamaged h x read) (d4b s)
  unfolding d4b
  d4b_plain = stops (no_link x.prev) (then_only (links_to x.cur) (stop (tells_eq x.cur 0) going) going)

  -- at the places where no word is read that could be damaged
  pub sz_fine : Fine (sz s)
  unfolding sz
  sz_fine = going

  pub i8_fine : Fine (i8 s)
  unfolding i8
  i8_fine = going

  pub i9_fine : Fine (i9 s)
  unfolding i9
  i9_fine = both Fine _ going (ended refl)

  pub i10_fine : Fine (i10 s)
  unfolding i10
  i10_fine = both Fine _ (ended refl) (ended refl)

  pub d6_fine : Fine (d6 s)
  unfolding d6
  d6_fine = ended {a = Yes} refl
