-- A place decides by a few tests, and at each end of them stands an effect on that place's own words and no answer that refuses.
-- Assumes nothing.
use Prim.Native.Nat.{ℕ}
use mathlib.Core.Bool.{false, ◌||◌}
use mathlib.Core.Path.{◌≡◌, refl}
use lib.Dec.{eqb}
use Rattle.choice.proofs.Cases.{both, by_eq}
use Rattle.names.specs.Names.{I1, SZ, TB, B2, B4, F1, F2, F3, F4, L2, B8, I8, I9, I10, D4A, D4B, D6, DUMMY, EXTRA, INSERT, refuses}
use Rattle.names.specs.declared.Answer.{Answer}
use Rattle.record.specs.declared.Worker.{Worker}
use Rattle.moves.specs.declared.Seen.{Seen}
use Rattle.acts.specs.declared.Effect.{Effect}
use Rattle.acts.specs.declared.Move.{Move}
use Rattle.acts.specs.declared.Move.TheVariants.{Damaged, Going, Ended}
use Rattle.moves.specs.Moves.{not_found, found_key, found, comes, f1, f2, judged, f3, f4, placed, l2, tb, b2, b4, b8, i1, sz, i8, i9, i10, d4a, d4b, d6, decided_at, decided}
use Rattle.register.specs.declared.Turn.{Turn}
use Rattle.promises.specs.Access as A
use Rattle.promises.specs.Access.{Writes, place_of}
use Rattle.promises.proofs.Stores.{effect_of, stores, All}

-- an ended answer is no refusal
abbrev pub Final : Move → Type 0
Final Damaged = Unit {0}
Final (Going x e) = Unit {0}
Final (Ended a e) = refuses a ≡ false

-- the decision m, at this turn and with this word read, is as its place allows
pub record Shape (t : Turn) (word : ℕ) (m : Move) : Type 0 where
  pub writes : All (Writes t word) (stores (effect_of m))
  pub final : Final m

module _ (t : Turn) (word split : ℕ) where
  abbrev s : Seen
  s = record { header = t.header; worker = t.worker; word = word; split = split }

  abbrev Ok : Move → Type 0
  Ok = Shape t word

  abbrev Fits : Effect → Type 0
  Fits e = All (Writes t word) (stores e)

  going : (x : Worker) (e : Effect) → Fits e → Ok (Going x e)
  going x e w = record { writes = w; final = tt }

  damaged : Ok Damaged
  damaged = record { writes = tt; final = tt }

  ended : (a : Answer) (e : Effect) → Fits e → refuses a ≡ false → Ok (Ended a e)
  ended a e w f = record { writes = w; final = f }

  not_found_lem : (x : Worker) (e : Effect) → Fits e → Ok (not_found x e)
  unfolding not_found
  not_found_lem x e w =
      both Ok (eqb x.errand EXTRA) (going _ e w)
      (both Ok (eqb x.errand DUMMY || eqb x.kind INSERT) (going _ e w)
      (ended _ e w refl))

  arrives : (x : Worker) (prev cur : ℕ) (e : Effect) → Fits e → Ok (comes x prev cur e)
  unfolding comes
  arrives x prev cur e w = both Ok (eqb cur 0) (not_found_lem _ e w) (going _ e w)

  is_found : place_of t ≡ F3 → Ok (found t.worker)
  unfolding found found_key
  is_found p =
      both Ok _ (going _ _ tt)
      (both Ok _
      (both Ok _ (both Ok _ damaged (ended _ _ tt refl))
      (both Ok _ (ended _ _ tt refl) (going _ _ tt)))
      (both Ok _ damaged (going _ _ (A.f3 p, tt))))

  is_judged : place_of t ≡ F3 → Ok (judged s)
  unfolding judged
  is_judged p =
      both Ok _ (going _ _ tt)
      (both Ok _ damaged
      (both Ok _ (arrives _ _ _ _ tt)
      (both Ok _ (is_found p) (not_found_lem _ _ tt))))

  -- the place of a turn decides its effect: one row a place
  pub effect_at : Shape t word (decided s)
  unfolding decided decided_at f1 f2 f3 f4 placed l2 tb b2 b4 b8 i1 sz i8 i9 i10 d4a d4b d6
  effect_at =
      by_eq Ok (place_of t) I1
      (λ p. both Ok _ (ended _ _ tt refl) (going _ _ (A.i1_key p, (A.i1_taken p, tt))))
      (λ _. by_eq Ok (place_of t) SZ
      (λ _. going _ _ tt)
      (λ _. by_eq Ok (place_of t) TB
      (λ _. both Ok _ damaged (both Ok _ (going _ _ tt) (going _ _ tt)))
      (λ _. by_eq Ok (place_of t) B2
      (λ _. both Ok _ damaged (both Ok _ (going _ _ tt) (going _ _ tt)))
      (λ _. by_eq Ok (place_of t) B4
      (λ p. both Ok _ (both Ok _ damaged (ended _ _ tt refl)) (going _ _ (A.b4_key p, (A.b4_taken p, tt))))
      (λ _. by_eq Ok (place_of t) F1
      (λ _. both Ok _ damaged (arrives _ _ _ _ tt))
      (λ _. by_eq Ok (place_of t) F2
      (λ _. both Ok _ damaged (going _ _ tt))
      (λ _. by_eq Ok (place_of t) F3
      (λ p. both Ok _ damaged (both Ok _ (is_judged p) (going _ _ tt)))
      (λ _. by_eq Ok (place_of t) F4
      (λ p. both Ok _ damaged (both Ok _ (both Ok _ damaged (arrives _ _ _ _ (A.f4_link p, (A.f4_standing p, tt)))) (going _ _ tt)))
      (λ _. by_eq Ok (place_of t) L2
      (λ p. both Ok _ damaged (both Ok _ (both Ok _ (going _ _ (A.l2_held p, (A.l2_prev p, tt))) (going _ _ (A.l2_held p, (A.l2_prev p, tt)))) (going _ _ (A.l2_held p, tt))))
      (λ _. by_eq Ok (place_of t) B8
      (λ p. both Ok _ damaged (both Ok _ (going _ _ (A.b8 p, tt)) (going _ _ (A.b8 p, tt))))
      (λ _. by_eq Ok (place_of t) I8
      (λ _. going _ _ tt)
      (λ _. by_eq Ok (place_of t) I9
      (λ _. both Ok _ (going _ _ tt) (ended _ _ tt refl))
      (λ _. by_eq Ok (place_of t) I10
      (λ _. both Ok _ (ended _ _ tt refl) (ended _ _ tt refl))
      (λ _. by_eq Ok (place_of t) D4A
      (λ p. both Ok _ damaged (both Ok _ (going _ _ (A.d4a p, tt)) (going _ _ tt)))
      (λ _. by_eq Ok (place_of t) D4B
      (λ p. both Ok _ damaged (both Ok _ (both Ok _ damaged (going _ _ (A.d4b_link p, (A.d4b_standing p, tt)))) (going _ _ tt)))
      (λ _. by_eq Ok (place_of t) D6
      (λ _. ended _ _ tt refl)
      (λ _. damaged)))))))))))))))))
