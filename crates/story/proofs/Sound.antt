-- No row of 12 or 11 holds of a register that keeps the invariant: each asks for something that a fact of the header or of the record denies.
-- Assumes nothing.
use mathlib.Core.Path.{◌≡◌, refl, sym, ◌∙◌}
use mathlib.Core.Logic.{◌≢◌, ◌⊎◌, inl, inr, ⊎_elim}
use mathlib.Core.Bool.{Bool, true, false, ◌||◌}
use mathlib.Core.List.{List}
use Prim.Native.Nat.{ℕ, ◌*◌, ◌≤◌, ◌<◌}
use native.Mathlib.Omega.{arith}
use lib.Dec.{ltb}
use lib.ListN.{length}
use lib.Pow.{pow_mono}
use borrow.Author.Tests.{ne_eqb, le-ltb, lt-leb}
use Rattle.choice.proofs.Exactly.{Tells}
use Rattle.sets.specs.Sets.{bit, is_in}
use Rattle.sets.proofs.Laws.{bit_far}
use Rattle.names.specs.Names.{IDLE, F1, F2, F3, F4, L2, D6, KEY_LIMIT, INSERT, DELETE, EXTRA, KEY, DUMMY}
use Rattle.header.specs.declared.Header.{Header}
use Rattle.header.specs.Header.{nodes_of, header_damaged}
use Rattle.header.specs.Rows.{BusyBeyond}
use Rattle.header.proofs.Rows.{header_damaged_lem, power_up_to_lem}
use Rattle.record.specs.declared.Worker.{Worker}
use Rattle.record.specs.Worker.{idle}
use Rattle.faults.specs.Faults.{unknown_name, bucket_beyond, node_beyond, bit_disagrees, idle_not_zero, kind_misfit, errand_misfit, making_astray, size_misfit, worker_damaged}
use Rattle.header.specs.Header.{is_short}
use Rattle.story.proofs.Sane.{Sane}
use Rattle.story.proofs.Facts.{Spot, i1, sz, tb, b2, b4, f1, f2, f3, f4, l2, b8, i8, i9, i10, d4a, d4b, d6, number, for_key, for_dummy, for_extra, AimOf, At, Busy, Fact}
use Rattle.story.proofs.Core.{Pasts, Agrees, Core, not_idle}

-- a test whose claim fails is false
denied : {t : Bool} {A : Type 0} → Tells t A → (A → ⊥) → t ≡ false
denied {t = true} tells f = absurd (f (tells.sound refl))
denied {t = false} tells f = refl

none_of : (a b : Bool) → a ≡ false → b ≡ false → a || b ≡ false
none_of a b p q = rw (p, q)

module _ {h : Header} {ws : List Worker} {Ps : Pasts} {w k d : ℕ} {c m : List ℕ} {β : ℕ → ℕ} (core : Core h ws Ps w k d c m β) where
  pub header_sound : header_damaged h ≡ false
  header_sound = denied (header_damaged_lem h) (⊎_elim (λ f. f core.limits) (⊎_elim (λ f. f core.size) far))
    where
      far : BusyBeyond h → ⊥
      far b = omega (arith, bit_far b.0 h.busy (omega (arith, core.few, pow_mono {i = h.w} {j = b.0} b.1)), b.2)

  -- nor 11, where the buckets are all there
  pub long_enough : is_short h (record { nodes = length m; buckets = h.m }) ≡ false
  unfolding is_short
  long_enough = none_of (ltb (length m) (nodes_of h * 3)) (ltb h.m h.m) (le-ltb (length m) (nodes_of h * 3) core.of_nodes.size) (le-ltb h.m h.m (omega arith))

place_le : (p : Spot) → number p ≤ D6
place_le i1 = omega arith
place_le sz = omega arith
place_le tb = omega arith
place_le b2 = omega arith
place_le b4 = omega arith
place_le f1 = omega arith
place_le f2 = omega arith
place_le f3 = omega arith
place_le f4 = omega arith
place_le l2 = omega arith
place_le b8 = omega arith
place_le i8 = omega arith
place_le i9 = omega arith
place_le i10 = omega arith
place_le d4a = omega arith
place_le d4b = omega arith
place_le d6 = omega arith

-- the rows that ask for the place
abbrev rows : Header → Worker → Bool
rows h x = kind_misfit x || errand_misfit x || making_astray x || size_misfit h x

searching : (h : Header) (x : Worker) → (x.place ≡ F1) ⊎ (x.place ≡ F2) ⊎ (x.place ≡ F3) ⊎ (x.place ≡ F4) → AimOf x → rows h x ≡ false
unfolding kind_misfit errand_misfit making_astray size_misfit
searching h x (inl e) (for_key q _) = rw (e, q)
searching h x (inl e) (for_dummy q _ _ _) = rw (e, q)
searching h x (inl e) (for_extra q k) = rw (e, q, k)
searching h x (inr (inl e)) (for_key q _) = rw (e, q)
searching h x (inr (inl e)) (for_dummy q _ _ _) = rw (e, q)
searching h x (inr (inl e)) (for_extra q k) = rw (e, q, k)
searching h x (inr (inr (inl e))) (for_key q _) = rw (e, q)
searching h x (inr (inr (inl e))) (for_dummy q _ _ _) = rw (e, q)
searching h x (inr (inr (inl e))) (for_extra q k) = rw (e, q, k)
searching h x (inr (inr (inr e))) (for_key q _) = rw (e, q)
searching h x (inr (inr (inr e))) (for_dummy q _ _ _) = rw (e, q)
searching h x (inr (inr (inr e))) (for_extra q k) = rw (e, q, k)

placing : (h : Header) (x : Worker) → x.place ≡ L2 → AimOf x → (x.errand ≡ DUMMY) ⊎ ((x.errand ≡ KEY) × (x.kind ≡ INSERT)) → rows h x ≡ false
unfolding kind_misfit errand_misfit making_astray size_misfit
placing h x e a (inl q) = rw (e, q)
placing h x e a (inr q) = rw (e, q.0, q.1)

module _ (h : Header) (v : ℕ) (c m : List ℕ) (P : ℕ → ℕ → ℕ → Type 0) (x : Worker) where
  by_place : (p : Spot) → x.place ≡ number p → At h v c m P p x → rows h x ≡ false
  unfolding kind_misfit errand_misfit making_astray size_misfit
  by_place i1 e a = rw (e, a)
  by_place sz e a = rw e
  by_place tb e a = rw e
  by_place b2 e a = rw (e, ne_eqb x.making 0 a.1.some, a.1.path)
  by_place b4 e a = rw (e, ne_eqb x.making 0 a.1.some, a.1.path)
  by_place f1 e a = searching h x (inl e) a.0
  by_place f2 e a = searching h x (inr (inl e)) a.0.0.0
  by_place f3 e a = searching h x (inr (inr (inl e))) a.0.0.0
  by_place f4 e a = searching h x (inr (inr (inr e))) a.0.0.0
  by_place l2 e a = placing h x e a.0.0.0 a.2
  by_place b8 e a = rw (e, ne_eqb x.making 0 a.1.some, a.1.path)
  by_place i8 e a = rw (e, a)
  by_place i9 e a = rw (e, a.0, (power_up_to_lem h.m x.size).complete a.1)
  by_place i10 e a = rw (e, a.0, (power_up_to_lem h.m x.size).complete a.1, lt-leb h.m x.size a.2)
  by_place d4a e a = rw (e, a.0)
  by_place d4b e a = rw (e, a.0)
  by_place d6 e a = rw (e, a)

  known : Sane h x → (p : Spot) → x.place ≡ number p → unknown_name x ≡ false
  unfolding unknown_name
  known s p e = rw (le-ltb D6 x.place (omega (arith, place_le p)), le-ltb EXTRA x.errand s.errand, le-ltb DELETE x.kind s.kind, ne_eqb x.kind 0 (omega (arith, s.some)))

  buckets : Sane h x → bucket_beyond h x ≡ false
  unfolding bucket_beyond
  buckets s = rw (lt-leb h.m x.wanted s.wanted, lt-leb h.m x.making s.making)

  nodes : Sane h x → node_beyond (nodes_of h) x ≡ false
  unfolding node_beyond
  nodes s =
      let n = nodes_of h in
      rw (le-ltb n x.start s.start, le-ltb n x.prev s.prev, le-ltb n x.cur s.cur, le-ltb n x.next s.next, le-ltb n x.held s.held, le-ltb n x.dummy s.dummy)

  bits : bit v h.busy ≡ 1 → x.place ≢ IDLE → bit_disagrees h v x ≡ false
  unfolding bit_disagrees is_in
  bits on some = rw (on, ne_eqb x.place IDLE some)

  not_zero : x.place ≢ IDLE → idle_not_zero x ≡ false
  unfolding idle_not_zero
  not_zero some = rw (ne_eqb x.place IDLE some)

  busy_sound : Busy h v c m P x → bit v h.busy ≡ 1 → worker_damaged h v x ≡ false
  unfolding worker_damaged
  busy_sound b on =
      let some : x.place ≢ IDLE = λ e. not_idle b.spot (sym b.place ∙ e) in
      rw (known b.sane b.spot b.place, le-ltb KEY_LIMIT x.key b.sane.key, buckets b.sane, nodes b.sane, bits on some, not_zero some)
      (by_place b.spot b.place b.at)

  idle_sound : x ≡ idle → bit v h.busy ≡ 0 → 0 < h.m → worker_damaged h v x ≡ false
  unfolding worker_damaged unknown_name bucket_beyond node_beyond bit_disagrees idle_not_zero kind_misfit errand_misfit making_astray size_misfit is_in
  idle_sound e off some = rw (e, off, lt-leb h.m 0 some, le-ltb (nodes_of h) 0 (omega arith))

  pub worker_sound : Fact h v c m P x → Agrees x (bit v h.busy) → 0 < h.m → worker_damaged h v x ≡ false
  worker_sound (inl e) (inl a) some = idle_sound e a.1 some
  worker_sound (inl e) (inr a) some = absurd (a.0 (rw e refl))
  worker_sound (inr b) (inl a) some = absurd (not_idle b.spot (sym b.place ∙ a.0))
  worker_sound (inr b) (inr a) some = busy_sound b a.1
