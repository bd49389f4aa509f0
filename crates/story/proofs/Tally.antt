-- What a decision does to the shared count, and to whether its operation is still to be counted: one row a place.
-- Assumes nothing.
use mathlib.Core.Path.{◌≡◌, refl, sym, ap, ◌∙◌}
use mathlib.Core.Logic.{◌≢◌, ◌⊎◌, inl, inr, ⊎_elim}
use mathlib.Core.Bool.{true, false, ◌||◌, ◌&&◌}
use Prim.Native.Nat.{ℕ, ◌+◌}
use native.Mathlib.Omega.{arith}
use lib.Dec.{eqb}
use Rattle.choice.specs.Choice.{pick}
use Rattle.choice.proofs.Cases.{by_eq, both}
use Rattle.names.specs.Names.{F1, L2, B8, I8, KEY, DUMMY, EXTRA}
use Rattle.names.specs.Places.{insert_in, delete_in, searches}
use Rattle.header.specs.declared.Header.{Header}
use Rattle.header.specs.Header.{count_up, count_down}
use Rattle.record.specs.declared.Worker.{Worker}
use Rattle.names.specs.declared.Answer.{Answer}
use Rattle.record.specs.Fields.{to, with_prev, with_cur, with_held}
use Rattle.record.specs.Worker.{idle}
use Rattle.moves.specs.declared.Seen.{Seen}
use Rattle.acts.specs.declared.Effect.{Effect}
use Rattle.acts.specs.declared.Effect.TheVariants.{Nothing}
use Rattle.acts.specs.declared.Move.{Move}
use Rattle.acts.specs.declared.Move.TheVariants.{Damaged, Going, Ended}
use Rattle.moves.specs.Moves.{not_found, found_key, found, comes, f1, f2, judged, f3, f4, placed, l2, tb, b2, b4, b8, i1, sz, i8, i9, i10, d4a, d4b, d6, decided_at}
use Rattle.writes.specs.Writes.{header_after}
use Rattle.register.specs.Events.{Event, nothing, written, adds, removes, all, uncounted_in, uncounted_out}
use Rattle.story.proofs.Steps.{seen}
use Rattle.story.proofs.Facts as F

-- the count stays and the event is to be counted; or the operation is counted, up or down
abbrev pub Tally : ℕ → ℕ → Worker → Worker → Event → Type 0
Tally c c' x y ev =
    ((c' ≡ c) × (uncounted_in y ≡ uncounted_in x + adds all ev) × (uncounted_out y ≡ uncounted_out x + removes all ev))
    ⊎ ((c' ≡ count_up c) × (uncounted_in x ≡ uncounted_in y + 1) × (uncounted_out y ≡ uncounted_out x) × (ev ≡ nothing))
    ⊎ ((c' ≡ count_down c) × (uncounted_in y ≡ uncounted_in x) × (uncounted_out x ≡ uncounted_out y + 1) × (ev ≡ nothing))

abbrev pub Tallied : Header → Worker → Move → Type 0
Tallied h x Damaged = Unit {0}
Tallied h x (Going y e) = Tally h.count (header_after e h).count x y (written x e)
Tallied h x (Ended a e) = Tally h.count (header_after e h).count x idle (written x e)

-- the same, as a record
pub record Ok (h : Header) (x : Worker) (m : Move) : Type 0 where
  pub is : Tallied h x m

-- a choice whose test has come out
pub none : pick {A = ℕ} false 1 0 ≡ 0
unfolding pick
none = refl

pub one : pick {A = ℕ} true 1 0 ≡ 1
unfolding pick
one = refl

module _ (h : Header) (x : Worker) where
  abbrev G : Move → Type 0
  G = Ok h x

  damaged : G Damaged
  damaged = record { is = tt }

  -- an effect that neither counts nor is an event
  record Mute (e : Effect) : Type 0 where
    count : (header_after e h).count ≡ h.count
    event : written x e ≡ nothing

  -- nothing is counted, and what is to be counted stays
  go : (y : Worker) (e : Effect) → Mute e → uncounted_in y ≡ uncounted_in x → uncounted_out y ≡ uncounted_out x → G (Going y e)
  go y e m a b = record { is = rw m.event (inl (m.count, omega arith, omega arith)) }

  end : (a : Answer) (e : Effect) → Mute e → uncounted_in x ≡ 0 → uncounted_out x ≡ 0 → G (Ended a e)
  end a e m p q = record { is = rw m.event (inl (m.count, omega (arith, none), omega (arith, none))) }

  -- what is to be counted at a place
  inn : (p : ℕ) → x.place ≡ p → uncounted_in x ≡ pick (insert_in p) 1 0
  inn p e = ap (λ (q : ℕ). pick (insert_in q) 1 0) e

  out : (p : ℕ) → x.place ≡ p → uncounted_out x ≡ pick (delete_in p || (searches p && eqb x.errand EXTRA)) 1 0
  out p e = ap (λ (q : ℕ). pick (delete_in q || (searches q && eqb x.errand EXTRA)) 1 0) e

  -- on the extra search
  abbrev extra : ℕ
  extra = pick (eqb x.errand EXTRA) 1 0

  is_extra : x.errand ≡ EXTRA → extra ≡ 1
  is_extra e = by_eq (λ (n : ℕ). n ≡ 1) x.errand EXTRA (λ _. refl) (λ ne. absurd (ne e))

  not_extra : x.errand ≢ EXTRA → extra ≡ 0
  not_extra ne = by_eq (λ (n : ℕ). n ≡ 0) x.errand EXTRA (λ e. absurd (ne e)) (λ _. refl)

  -- ---- the places of a search
  module _ (ix : uncounted_in x ≡ 0) (ox : uncounted_out x ≡ extra) where
    not_found_lem : (prev cur : ℕ) (e : Effect) → Mute e → G (not_found (with_cur cur (with_prev prev x)) e)
    unfolding not_found
    not_found_lem prev cur e m =
        by_eq G x.errand EXTRA (λ q. go _ e m (none ∙ sym ix) (one ∙ sym (ox ∙ is_extra q)))
        (λ ne. both G _ (go _ e m (none ∙ sym ix) (sym ox)) (end _ e m ix (ox ∙ not_extra ne)))

    arrives : (prev cur : ℕ) (e : Effect) → Mute e → G (comes x prev cur e)
    unfolding comes
    arrives prev cur e m = by_eq G cur 0 (λ _. not_found_lem prev cur e m) (λ _. go _ e m (none ∙ sym ix) (sym ox))

    mute : Mute Nothing
    mute = record { count = refl; event = refl }

    is_found : G (found x)
    unfolding found found_key
    is_found =
        by_eq G x.errand EXTRA (λ q. go _ _ mute (none ∙ sym ix) (one ∙ sym (ox ∙ is_extra q)))
        (λ ne. let z : uncounted_out x ≡ 0 = ox ∙ not_extra ne in
        both G _ (both G _ (both G _ damaged (end _ _ mute ix z)) (both G _ (end _ _ mute ix z) (go _ _ mute (none ∙ sym ix) (none ∙ sym z))))
        (both G _ damaged (go _ _ (record { count = refl; event = refl }) (none ∙ sym ix) (none ∙ sym z))))

    again : G (Going (to F1 x) Nothing)
    again = go _ _ mute (none ∙ sym ix) (sym ox)

    module _ (read split : ℕ) where
      f1_tally : G (f1 (seen h x read split))
      unfolding f1
      f1_tally = both G _ damaged (arrives _ _ _ mute)

      f2_tally : G (f2 (seen h x read split))
      unfolding f2
      f2_tally = both G _ damaged (go _ _ mute (none ∙ sym ix) (sym ox))

      f3_tally : G (f3 (seen h x read split))
      unfolding f3 judged
      f3_tally = both G _ damaged (both G _ (both G _ (go _ _ mute (none ∙ sym ix) (sym ox)) (both G _ damaged (both G _ (arrives _ _ _ mute) (both G _ is_found (not_found_lem x.prev x.cur _ mute))))) again)

      f4_tally : G (f4 (seen h x read split))
      unfolding f4
      f4_tally = both G _ damaged (both G _ (both G _ damaged (arrives _ _ _ (record { count = refl; event = refl }))) again)

      -- the insert's event is at L2
      l2_tally : (x.errand ≡ DUMMY) ⊎ (x.errand ≡ KEY) → G (l2 (seen h x read split))
      unfolding l2 placed
      l2_tally why =
          both G _ damaged (both G _ (by_eq G x.errand DUMMY
          (λ q. record { is = by_eq (λ (v : Event). Tally h.count h.count x (to B8 x) v) x.errand KEY (λ r. absurd (omega arith)) (λ _. inl (refl, omega (arith, none), omega (arith, none, not_extra ne))) })
          (λ nd. record { is = by_eq (λ (v : Event). Tally h.count h.count x (to I8 (with_held 0 x)) v) x.errand KEY (λ _. inl (refl, omega (arith, one), omega (arith, none, not_extra ne))) (λ nk. absurd (⊎_elim nd nk why)) }))
          (go _ _ (record { count = refl; event = refl }) (none ∙ sym ix) (sym ox)))
        where
          ne : x.errand ≢ EXTRA
          ne e = ⊎_elim (λ q. omega arith) (λ q. omega arith) why

  -- ---- the other places; most have nothing to be counted
  mute₀ : Mute Nothing
  mute₀ = record { count = refl; event = refl }

  module _ (ix : uncounted_in x ≡ 0) (oz : uncounted_out x ≡ 0) (read split : ℕ) where
    abbrev s : Seen
    s = seen h x read split

    i1_tally : G (i1 s)
    unfolding i1
    i1_tally = both G _ (end _ _ mute₀ ix oz) (go _ _ (record { count = refl; event = refl }) (none ∙ sym ix) (none ∙ sym oz))

    sz_tally : G (sz s)
    unfolding sz
    sz_tally = go _ _ mute₀ (none ∙ sym ix) (none ∙ sym oz)

    tb_tally : G (tb s)
    unfolding tb
    tb_tally = both G _ damaged (both G _ (go _ _ mute₀ (none ∙ sym ix) (none ∙ sym oz)) (go _ _ mute₀ (none ∙ sym ix) (none ∙ sym oz)))

    b2_tally : G (b2 s)
    unfolding b2
    b2_tally = both G _ damaged (both G _ (go _ _ mute₀ refl refl) (go _ _ mute₀ (none ∙ sym ix) (none ∙ sym oz)))

    b4_tally : G (b4 s)
    unfolding b4
    b4_tally = both G _ (both G _ damaged (end _ _ mute₀ ix oz)) (go _ _ (record { count = refl; event = refl }) (none ∙ sym ix) (none ∙ sym oz))

    b8_tally : G (b8 s)
    unfolding b8
    b8_tally = both G _ damaged (both G _ (go _ _ (record { count = refl; event = refl }) (none ∙ sym ix) (none ∙ sym oz)) (go _ _ (record { count = refl; event = refl }) (none ∙ sym ix) (none ∙ sym oz)))

    -- the delete's event is at D4a
    d4a_tally : G (d4a s)
    unfolding d4a
    d4a_tally = both G _ damaged (both G _ (record { is = inl (refl, omega (arith, none), omega (arith, one)) }) (go _ _ mute₀ (none ∙ sym ix) (none ∙ sym oz)))

    i10_tally : G (i10 s)
    unfolding i10
    i10_tally = both G _ (end _ _ (record { count = refl; event = refl }) ix oz) (end _ _ mute₀ ix oz)

  -- an insert in effect: I8, I9
  module _ (ix : uncounted_in x ≡ 1) (oz : uncounted_out x ≡ 0) (read split : ℕ) where
    i8_tally : G (i8 (seen h x read split))
    unfolding i8
    i8_tally = go _ _ mute₀ (one ∙ sym ix) (none ∙ sym oz)

    i9_tally : G (i9 (seen h x read split))
    unfolding i9
    i9_tally = both G _ (record { is = inr (inl (refl, omega (arith, none), omega (arith, none), refl)) }) (record { is = inr (inl (refl, omega (arith, none), omega (arith, none), refl)) })

  -- a delete in effect: D4b, D6
  module _ (ix : uncounted_in x ≡ 0) (oz : uncounted_out x ≡ 1) (read split : ℕ) where
    d4b_tally : G (d4b (seen h x read split))
    unfolding d4b
    d4b_tally = both G _ damaged (both G _ (both G _ damaged (go _ _ (record { count = refl; event = refl }) (none ∙ sym ix) (one ∙ sym oz))) (go _ _ mute₀ (none ∙ sym ix) (one ∙ sym oz)))

    d6_tally : G (d6 (seen h x read split))
    unfolding d6
    d6_tally = record { is = inr (inr (refl, omega (arith, none), omega (arith, none), refl)) }

  pub tally_at : (read split : ℕ) (p : F.Spot) → x.place ≡ F.number p → (x.place ≡ L2 → (x.errand ≡ DUMMY) ⊎ (x.errand ≡ KEY)) → G (decided_at (F.number p) (seen h x read split))
  unfolding decided_at pick
  tally_at r t F.i1 e l = i1_tally (inn _ e) (out _ e) r t
  tally_at r t F.sz e l = sz_tally (inn _ e) (out _ e) r t
  tally_at r t F.tb e l = tb_tally (inn _ e) (out _ e) r t
  tally_at r t F.b2 e l = b2_tally (inn _ e) (out _ e) r t
  tally_at r t F.b4 e l = b4_tally (inn _ e) (out _ e) r t
  tally_at r t F.f1 e l = f1_tally (inn _ e) (out _ e) r t
  tally_at r t F.f2 e l = f2_tally (inn _ e) (out _ e) r t
  tally_at r t F.f3 e l = f3_tally (inn _ e) (out _ e) r t
  tally_at r t F.f4 e l = f4_tally (inn _ e) (out _ e) r t
  tally_at r t F.l2 e l = l2_tally (inn _ e) (out _ e) r t (l e)
  tally_at r t F.b8 e l = b8_tally (inn _ e) (out _ e) r t
  tally_at r t F.i8 e l = i8_tally (inn _ e) (out _ e) r t
  tally_at r t F.i9 e l = i9_tally (inn _ e) (out _ e) r t
  tally_at r t F.i10 e l = i10_tally (inn _ e) (out _ e) r t
  tally_at r t F.d4a e l = d4a_tally (inn _ e) (out _ e) r t
  tally_at r t F.d4b e l = d4b_tally (inn _ e) (out _ e) r t
  tally_at r t F.d6 e l = d6_tally (inn _ e) (out _ e) r t
