-- The places of insert and delete: a swap that finds what it expects finds both nodes on the chain, so it takes effect there.
-- Assumes nothing.
use mathlib.Core.Path.{◌≡◌, refl, sym, subst, ◌∙◌}
use mathlib.Core.Logic.{◌≢◌, ◌⊎◌, inl, inr}
use mathlib.Core.Bool.{Bool, true, false, not, ◌&&◌, ◌||◌}
use mathlib.Core.List.{List, Memᴰ as In}
use Prim.Native.Nat.{ℕ, suc, ◌+◌, ◌*◌, ◌%◌, ◌^◌, ◌≤◌, ◌<◌}
use native.Mathlib.Omega.{arith}
use native.Mathlib.Nat.{pow-suc, mod-eq_of_lt}
use lib.Dec.{eqb, leb}
use lib.Pow.{pow_mono}
use borrow.Author.Tests.{eq-eqb, ne_eqb, le-ltb, leb-true, leb-false}
use Rattle.choice.specs.Choice.{pick}
use Rattle.choice.proofs.Auto.{pick_true, pick_false}
use Rattle.choice.proofs.Cases.{by_bool, by_eq}
use Rattle.split.specs.Split.{regular, dummy}
use Rattle.words.specs.Words.{LINK, put, link_to, is_to}
use Rattle.words.proofs.Laws.{is_to_true}
use Rattle.scans.specs.Scans.{free_node}
use Rattle.scans.proofs.Laws.{free_node_lem}
use Rattle.names.specs.Names.{SZ, F1, B8, I8, I9, D4B, D6, KEY, DUMMY, EXTRA, INSERT, FIND}
use Rattle.names.specs.declared.Answer.TheVariants.{Yes, NoKeyNode}
use Rattle.header.specs.declared.Header.{Header}
use Rattle.header.specs.Header.{count_up, count_down, dummies_of, nodes_of}
use Rattle.header.specs.Rows.{PowerFromTo}
use Rattle.header.proofs.Laws.{doubles_below}
use Rattle.record.specs.declared.Worker.{Worker}
use Rattle.record.specs.Fields.{to, with_errand, with_size, with_held}
use Rattle.record.specs.Worker.{held_key, held_dummy}
use Rattle.acts.specs.declared.Effect.TheVariants.{TakeKey, Aim, Place, Mark, Unlink}
use Rattle.acts.specs.declared.Move.TheVariants.{Going}
use Rattle.moves.specs.Moves.{bad_link, held_for, placed, l2, i1, i8, i9, i10, d4a, d4b, d6}
use Rattle.register.specs.Registered.{key, link, standing}
use Rattle.register.specs.Events.{Event, nothing, added}
use Rattle.story.proofs.Linked.{put_after, cut_after, put_new}
use Rattle.story.proofs.Memory.{key_of_link}
use Rattle.story.proofs.Sane.{errand_in, held_in}
use Rattle.story.proofs.Facts as F
use Rattle.story.proofs.Facts.{Nodes, Held, Root, Way, for_key, for_dummy, for_extra, AimOf, Later}
use Rattle.story.proofs.Stable as st
use Rattle.story.proofs.Core.{Pasts}
use Rattle.story.proofs.Effects.{live_on, safe_fits, safe_some, held_free}
use Rattle.story.proofs.Registers.{unmoved, regular_odd_all, dummy_is_even}
use Rattle.story.proofs.Acts as A
use Rattle.story.proofs.Ends.{recounted, resized}
use Rattle.story.proofs.Steps.{told_neither, took, Ctx, me, core, Told, Went, Good, Stands, looks, over, overs, past, upon, seen, sound_link, odd_sort}
use Rattle.story.proofs.Search.{want_key, want_dummy, no_hand, some_hand, no_sought, some_sought}

-- twice a power of two below another is at most that
doubled : (most s : ℕ) → most ≤ 1024 → PowerFromTo 2 most most → PowerFromTo 2 most s → s < most → PowerFromTo 2 most ((s + s) % 4294967296)
doubled most s small pm ps lt = rw cut (omega (arith, ps.0), fits, (suc ps.2.0, omega (arith, below), power))
  where
    i : ℕ
    i = ps.2.0

    j : ℕ
    j = pm.2.0

    cut : (s + s) % 4294967296 ≡ s + s
    cut = mod-eq_of_lt (omega arith)

    power : s + s ≡ 2 ^ suc i
    power = omega (arith, ps.2.2, pow-suc 2 i)

    below : i < j
    below = go (leb j i) refl
      where
        go : (t : Bool) → leb j i ≡ t → i < j
        go true e = absurd (omega (arith, pow_mono {i = j} {j = i} (leb-true j i e), ps.2.2, pm.2.2))
        go false e = leb-false j i e

    fits : s + s ≤ most
    fits = omega (arith, pow_mono {i = suc i} {j = j} below, power, pm.2.2)

-- the node that L2 places
dummy_for : (x : Worker) → x.errand ≡ DUMMY → held_for x ≡ x.dummy
unfolding held_for
dummy_for x e = by_eq (λ (v : ℕ). v ≡ x.dummy) x.errand DUMMY (λ _. refl) (λ ne. absurd (ne e))

key_for : (x : Worker) → x.errand ≢ DUMMY → held_for x ≡ x.held
unfolding held_for
key_for x ne = by_eq (λ (v : ℕ). v ≡ x.held) x.errand DUMMY (λ e. absurd (ne e)) (λ _. refl)

module _ {h : Header} {ws : List Worker} {Ps Qs : Pasts} {w : ℕ} {c m : List ℕ} {β : ℕ → ℕ} (z : Ctx h ws Ps Qs w c m β) where
  abbrev x : Worker
  x = me z

  abbrev N : ℕ
  N = nodes_of h

  abbrev D : ℕ
  D = dummies_of h

  g₀ : Nodes D N c m
  g₀ = z.inv.of_nodes

  -- yes to an insert or a delete that took effect
  did : x.kind ≢ FIND → Told z true Yes
  did nf = record {
    yes = λ a k. absurd (nf k);
    no_there = λ a k. let f : ◌≡◌ {A = ℕ} 0 1 = cc in absurd (omega arith);
    no_absent = λ a k. let f : ◌≡◌ {A = ℕ} 0 1 = cc in absurd (omega arith);
    done = λ a k. refl;
    undone = λ a. absurd (a refl);
    dummies = omega arith;
  }

  -- I1: the key node that is free is taken
  pub i1_good : Stands z F.i1 → F.At h w c m (Ps w) F.i1 x → Good z false (i1 (seen h x (free_node m (D + 1) N) 0))
  unfolding i1
  i1_good s b = by_eq (Good z false) n 0
      (λ _. over z false NoKeyNode c m (core z) unmoved (told_neither (λ a. let f : ◌≡◌ {A = ℕ} 0 1 = cc in omega arith) (λ a. let f : ◌≡◌ {A = ℕ} 0 1 = cc in omega arith) (omega arith)))
      takes
    where
      n : ℕ
      n = free_node m (D + 1) N

      takes : n ≢ 0 → Good z false (Going (to SZ (with_held n x)) (TakeKey n (regular x.key)))
      takes ne = record {
        chain = c;
        next = record {
          k = n;
          d = held_dummy x;
          rest = A.take_key (core z) n (regular x.key) f.2 some f.1 s.hand (omega (arith, f.0));
          spot = F.sz;
          place = refl;
          sane = held_in s.sane f.1;
          key_same = some_hand (with_held n x) b;
          dummy_same = sym s.dummy_hand;
          key_has = λ y. A.take_key_is (core z) n (regular x.key) f.2 some f.1;
          dummy_has = λ y. absurd (y s.dummy_hand);
          at = λ _. ne;
        };
        change = A.take_same (core z) n (regular x.key) f.2 some f.1;
        kind = refl;
        same_key = refl;
        turned = refl;
      }
        where
          f : (D + 1 ≤ n) × (n ≤ N) × (standing m n ≡ 0)
          f = free_node_lem m (D + 1) N n refl ne (omega arith)

          some : 1 ≤ n
          some = omega (arith, f.0)

  pub i8_good : Stands z F.i8 → F.At h w c m (Ps w) F.i8 x → Good z true (i8 (seen h x 0 0))
  unfolding i8
  i8_good s b = looks z true F.i8 s s.dummy_hand F.i9 (to I9 (with_size h.size x)) refl s.sane (sym s.hand) refl refl refl (b, z.inv.size) refl

  -- I9: the count, and by the load test the size
  pub i9_good : Stands z F.i9 → F.At h w c m (Ps w) F.i9 x → Good z true (i9 (seen h x 0 0))
  unfolding i9
  i9_good s b = by_bool (Good z true) _
      (λ t. record {
        chain = c;
        next = record {
          k = held_key x;
          d = held_dummy x;
          rest = recounted (core z) (count_up h.count);
          spot = F.i10;
          place = refl;
          sane = s.sane;
          key_same = sym s.hand;
          dummy_same = sym s.dummy_hand;
          key_has = s.key_has;
          dummy_has = s.dummy_has;
          at = (b.0, b.1, doubles_below h x.size _ t);
        };
        change = unmoved;
        kind = refl;
        same_key = refl;
        turned = refl;
      })
      (λ _. overs z true Yes h.size (count_up h.count) (recounted (core z) (count_up h.count)) (did (λ k. omega (arith, b.0))))

  pub i10_good : Stands z F.i10 → F.At h w c m (Ps w) F.i10 x → Good z true (i10 (seen h x 0 0))
  unfolding i10
  i10_good s b = by_eq (Good z true) h.size x.size
      (λ _. overs z true Yes ((x.size + x.size) % 4294967296) h.count (resized (core z) _ (doubled h.m x.size z.inv.limits.buckets.1 full b.1 b.2)) (did (λ k. omega (arith, b.0))))
      (λ _. over z true Yes c m (core z) unmoved (did (λ k. omega (arith, b.0))))
    where
      full : PowerFromTo 2 h.m h.m
      full = (z.inv.limits.buckets.0, omega arith, z.inv.limits.buckets.2)

  pub d6_good : Stands z F.d6 → F.At h w c m (Ps w) F.d6 x → Good z true (d6 (seen h x 0 0))
  unfolding d6
  d6_good s b = overs z true Yes h.size (count_down h.count) (recounted (core z) (count_down h.count)) (did (λ k. omega arith))

  -- D4a: cur is marked
  pub d4a_good : Stands z F.d4a → F.At h w c m (Ps w) F.d4a x → Good z false (d4a (seen h x (link m x.cur) 0))
  unfolding d4a pick
  d4a_good s b = past (Good z false) _ _ (sound_link h x x.cur (link m x.cur) 0 (safe_some D N c m g₀ w x.cur b.4) (g₀.links x.cur (safe_fits D N c m g₀ w x.cur b.4)))
      (by_bool (Good z false) (is_to (link m x.cur) x.next) (λ t. marks (is_to_true (link m x.cur) x.next t))
      (λ _. looks z false F.d4a s s.dummy_hand F.f1 (to F1 (with_errand KEY x)) refl
      (errand_in s.sane (omega arith))
      (no_hand x ni ∙ sym s.hand) refl refl refl (for_key refl (λ k. absurd (ni k)), b.2) refl))
    where
      ni : x.kind ≢ INSERT
      ni k = omega (arith, b.0)

      marks : link m x.cur ≡ x.next * 2 → Good z false (Going (to D4B x) (Mark x.cur x.next))
      marks e = record {
        chain = c;
        next = record {
          k = held_key x;
          d = held_dummy x;
          rest = A.marks (core z) x.cur x.next i e sort;
          spot = F.d4b;
          place = refl;
          sane = s.sane;
          key_same = sym s.hand;
          dummy_same = sym s.dummy_hand;
          key_has = λ y. absurd (y s.hand);
          dummy_has = λ y. absurd (y s.dummy_hand);
          at = (b.0, st.start later b.2, later.safe x.prev b.3, later.safe x.cur b.4, A.mark_link (core z) x.cur x.next i e sort);
        };
        change = A.mark_removes (core z) x.cur x.next i e sort x.key b.5 s.sane.key;
        kind = refl;
        same_key = refl;
        turned = (refl, refl, b.0, refl);
      }
        where
          i : In x.cur c
          i = live_on D N c m g₀ w x.cur b.4 (rw e (omega arith))

          sort : D < x.cur
          sort = odd_sort D N c m g₀ x.cur i (rw b.5 (regular_odd_all x.key))

          later : Later D N w 0 c m c (put m x.cur LINK (link_to x.next true))
          later = A.mark_later (core z) x.cur x.next i e sort w

  -- D4b: the marked node goes off the chain, or one search more takes it off
  pub d4b_good : Stands z F.d4b → F.At h w c m (Ps w) F.d4b x → Good z true (d4b (seen h x (link m x.prev) 0))
  unfolding d4b pick
  d4b_good s b = past (Good z true) _ _ (sound_link h x x.prev (link m x.prev) 0 (safe_some D N c m g₀ w x.prev b.2) (g₀.links x.prev (safe_fits D N c m g₀ w x.prev b.2)))
      (by_bool (Good z true) (is_to (link m x.prev) x.cur)
      (λ t. past (Good z true) _ _ (ne_eqb x.cur 0 some) (cuts (is_to_true (link m x.prev) x.cur t)))
      (λ _. looks z true F.d4b s s.dummy_hand F.f1 (to F1 (with_errand EXTRA x)) refl
      (errand_in s.sane (omega arith))
      (no_hand x ni ∙ sym s.hand) refl refl refl (for_extra refl b.0, b.1) refl))
    where
      ni : x.kind ≢ INSERT
      ni k = omega (arith, b.0)

      some : x.cur ≢ 0
      some = safe_some D N c m g₀ w x.cur b.3

      cuts : link m x.prev ≡ x.cur * 2 → Good z true (Going (to D6 x) (Unlink x.prev x.next x.cur h.busy))
      cuts e = record {
        chain = cut_after i;
        next = record {
          k = held_key x;
          d = held_dummy x;
          rest = A.unlinks (core z) x.prev x.cur x.next i e some b.4;
          spot = F.d6;
          place = refl;
          sane = s.sane;
          key_same = sym s.hand;
          dummy_same = sym s.dummy_hand;
          key_has = λ y. absurd (y s.hand);
          dummy_has = λ y. absurd (y s.dummy_hand);
          at = b.0;
        };
        change = A.unlink_same (core z) x.prev x.cur x.next i e some b.4;
        kind = refl;
        same_key = refl;
        turned = refl;
      }
        where
          i : In x.prev c
          i = live_on D N c m g₀ w x.prev b.2 (rw e (omega arith))

  -- ---- L2: the node in hand goes on the chain between prev and cur
  module _ (s : Stands z F.l2) (b : F.At h w c m (Ps w) F.l2 x) where
    pf : x.prev ≢ 0
    pf = safe_some D N c m g₀ w x.prev b.0.1.safe

    prev_fits : x.prev ≤ N
    prev_fits = safe_fits D N c m g₀ w x.prev b.0.1.safe

    -- the node n, held, is the one that is to be placed
    module _ (n lo hi : ℕ) (is : held_for x ≡ n) (hh : Held lo hi c m n) (bound : hi ≤ N) (touch : (n ≡ held_key x) ⊎ (n ≡ held_dummy x)) where
      n_some : n ≢ 0
      n_some e = omega (arith, hh.low)

      apart : x.prev ≢ n
      apart e = held_free N w lo hi c m n hh (rw e at b.0.1.safe)

      sound : (eqb n 0 || eqb x.prev 0 || (not (eqb x.prev n) && bad_link (seen h x (link m x.prev) 0))) ≡ false
      unfolding bad_link
      sound = rw (ne_eqb n 0 n_some, ne_eqb x.prev 0 pf, ne_eqb x.prev n apart, le-ltb (N * 2 + 1) (link m x.prev) (g₀.links x.prev prev_fits))

      aims : Good z (took F.l2 x.errand) (Going (to F1 x) (Aim n x.cur))
      aims = record {
        chain = c;
        next = record {
          k = held_key x;
          d = held_dummy x;
          rest = A.aim (core z) n x.cur lo hi hh bound s.sane.cur touch;
          spot = F.f1;
          place = refl;
          sane = s.sane;
          key_same = sym s.hand;
          dummy_same = sym s.dummy_hand;
          key_has = λ y. key_of_link m n (link_to x.cur false) (held_key x) ∙ s.key_has y;
          dummy_has = λ y. key_of_link m n (link_to x.cur false) (held_dummy x) ∙ s.dummy_has y;
          at = (b.0.0.0, st.start (A.aim_later (core z) n x.cur lo hi hh bound s.sane.cur w) b.0.0.1);
        };
        change = A.aim_same (core z) n x.cur lo hi hh bound s.sane.cur;
        kind = refl;
        same_key = refl;
        turned = refl;
      }

      swaps : (link m x.prev ≡ x.cur * 2 → Good z (took F.l2 x.errand) (placed (seen h x (link m x.prev) 0) n)) → Good z (took F.l2 x.errand) (l2 (seen h x (link m x.prev) 0))
      unfolding l2
      swaps done = rw is (past (Good z (took F.l2 x.errand)) _ _ sound (rw (ne_eqb x.prev n apart)
          (by_bool (Good z (took F.l2 x.errand)) (is_to (link m x.prev) x.cur) (λ t. done (is_to_true (link m x.prev) x.cur t)) (λ _. aims))))

      on_prev : link m x.prev ≡ x.cur * 2 → In x.prev c
      on_prev e = live_on D N c m g₀ w x.prev b.0.1.safe (rw e (omega arith))

    -- a dummy
    l2_dummy : x.errand ≡ DUMMY → (F.Has x.kind x.held) × Way x.key x.wanted x.making × (x.dummy ≢ 0) → Good z (took F.l2 x.errand) (l2 (seen h x (link m x.prev) 0))
    unfolding placed
    l2_dummy q a = swaps n 0 D (for_dummy_lem q) hh (omega arith) (inr refl) (λ e. upon (Good z (took F.l2 x.errand)) _ _ (eq-eqb x.errand DUMMY q) (done e))
      where
        n : ℕ
        n = held_dummy x

        is : n ≡ x.dummy
        is = s.dummy_hand ∙ some_sought x q

        some : n ≢ 0
        some e = a.2 (sym is ∙ e)

        for_dummy_lem : x.errand ≡ DUMMY → held_for x ≡ n
        for_dummy_lem q = dummy_for x q ∙ sym is

        hh : Held 0 D c m n
        hh = (core z).dummy_held some

        most : F.want x.errand x.making x.key ≡ dummy x.making
        most = want_dummy x.errand x.making x.key q

        is_even : dummy x.making % 2 ≡ 0
        is_even = dummy_is_even x.making (omega (arith, s.sane.making, z.inv.limits.buckets.1))

        done : link m x.prev ≡ x.cur * 2 → Good z (took F.l2 x.errand) (Going (to B8 x) (Place n x.cur x.prev))
        done e = subst (λ (v : Event). Went z (took F.l2 x.errand) (to B8 x) h p β v) (sym (pick_false (eqb x.errand KEY) (added x.key) nothing (ne_eqb x.errand KEY (λ r. omega arith)))) went
          where
            i : In x.prev c
            i = on_prev n 0 D (for_dummy_lem q) hh (omega arith) (inr refl) e

            low : key m x.prev < dummy x.making
            low = rw most at b.0.1.low

            high : x.cur ≢ 0 → dummy x.making < key m x.cur
            high ne = rw most at (b.1.high ne)

            p : List ℕ
            p = put (put m n LINK (link_to x.cur false)) x.prev LINK (link_to n false)

            pk : (j : ℕ) → key p j ≡ key m j
            pk = A.place_key_is (core z) n x.cur 0 D hh (omega arith) s.sane.cur x.prev (dummy x.making) i e (s.dummy_has some) low high (λ _. record { bucket = x.making; real = s.sane.making; has = refl }) (λ l. absurd (omega (arith, hh.high)))

            went : Went z (took F.l2 x.errand) (to B8 x) h p β nothing
            went = record {
              chain = put_after i n;
              next = record {
                k = held_key x;
                d = 0;
                rest = A.place_dummy (core z) n x.cur 0 D hh (omega arith) s.sane.cur x.prev (dummy x.making) i e (s.dummy_has some) low high (λ _. record { bucket = x.making; real = s.sane.making; has = refl }) (λ l. absurd (omega (arith, hh.high))) refl some;
                spot = F.b8;
                place = refl;
                sane = s.sane;
                key_same = sym s.hand;
                dummy_same = refl;
                key_has = λ y. pk (held_key x) ∙ s.key_has y;
                dummy_has = λ y. absurd (y refl);
                at = (a.0, a.1, subst (λ (v : ℕ). Root D (put_after i n) p x.making v) is (record { on = put_new i n; sort = hh.high; has = pk n ∙ s.dummy_has some }));
              };
              change = λ j. A.place_same (core z) n x.cur 0 D hh (omega arith) s.sane.cur x.prev (dummy x.making) i e (s.dummy_has some) low high (λ _. record { bucket = x.making; real = s.sane.making; has = refl }) (λ l. absurd (omega (arith, hh.high)))
                  j (λ r. omega (arith, regular_odd_all j, is_even));
              kind = refl;
              same_key = refl;
              turned = sym (ne_eqb x.errand EXTRA (λ r. omega arith));
            }

    -- the insert takes effect
    l2_key : x.errand ≡ KEY → x.kind ≡ INSERT → F.Has x.kind x.held → Good z (took F.l2 x.errand) (l2 (seen h x (link m x.prev) 0))
    unfolding placed
    l2_key q kd hs = swaps n D N for_key_lem hh (omega arith) (inl refl) (λ e. past (Good z (took F.l2 x.errand)) _ _ (ne_eqb x.errand DUMMY nd) (done e))
      where
        n : ℕ
        n = held_key x

        nd : x.errand ≢ DUMMY
        nd r = omega arith

        is : n ≡ x.held
        is = s.hand ∙ some_hand x kd

        some : n ≢ 0
        some e = hs kd (sym is ∙ e)

        for_key_lem : held_for x ≡ n
        for_key_lem = key_for x nd ∙ sym is

        hh : Held D N c m n
        hh = (core z).key_held some

        most : F.want x.errand x.making x.key ≡ regular x.key
        most = want_key x.errand x.making x.key nd

        done : link m x.prev ≡ x.cur * 2 → Good z (took F.l2 x.errand) (Going (to I8 (with_held 0 x)) (Place n x.cur x.prev))
        done e = subst (λ (v : Event). Went z (took F.l2 x.errand) (to I8 (with_held 0 x)) h p β v) (sym (pick_true (eqb x.errand KEY) (added x.key) nothing (eq-eqb x.errand KEY q))) went
          where
            i : In x.prev c
            i = on_prev n D N for_key_lem hh (omega arith) (inl refl) e

            low : key m x.prev < regular x.key
            low = rw most at b.0.1.low

            high : x.cur ≢ 0 → regular x.key < key m x.cur
            high ne = rw most at (b.1.high ne)

            p : List ℕ
            p = put (put m n LINK (link_to x.cur false)) x.prev LINK (link_to n false)

            went : Went z (took F.l2 x.errand) (to I8 (with_held 0 x)) h p β (added x.key)
            went = record {
              chain = put_after i n;
              next = record {
                k = 0;
                d = held_dummy x;
                rest = A.place_key (core z) n x.cur D N hh (omega arith) s.sane.cur x.prev (regular x.key) i e (s.key_has some) low high (λ l. absurd (omega (arith, hh.low))) (λ _. regular_odd_all x.key) refl some;
                spot = F.i8;
                place = refl;
                sane = held_in s.sane (omega arith);
                key_same = refl;
                dummy_same = sym (s.dummy_hand ∙ no_sought x nd);
                key_has = λ y. absurd (y refl);
                dummy_has = λ y. absurd (y (s.dummy_hand ∙ no_sought x nd));
                at = kd;
              };
              change = A.place_adds (core z) n x.cur D N hh (omega arith) s.sane.cur x.prev (regular x.key) i e (s.key_has some) low high (λ l. absurd (omega (arith, hh.low))) (λ _. regular_odd_all x.key)
                  x.key refl s.sane.key;
              kind = refl;
              same_key = refl;
              turned = (ne_eqb x.errand EXTRA (λ r. omega arith), refl, kd, refl);
            }

    pub l2_good : Good z (took F.l2 x.errand) (l2 (seen h x (link m x.prev) 0))
    l2_good = by_aim b.0.0.0 b.2
      where
        by_aim : AimOf x → (x.errand ≡ DUMMY) ⊎ ((x.errand ≡ KEY) × (x.kind ≡ INSERT)) → Good z (took F.l2 x.errand) (l2 (seen h x (link m x.prev) 0))
        by_aim (for_key q hs) (inl r) = absurd (omega arith)
        by_aim (for_key q hs) (inr r) = l2_key q r.1 hs
        by_aim (for_dummy q hs way dn) why = l2_dummy q (hs, way, dn)
        by_aim (for_extra q k) (inl r) = absurd (omega arith)
        by_aim (for_extra q k) (inr r) = absurd (omega (arith, r.0))
