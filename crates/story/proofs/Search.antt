-- The places of a search: what is read of a safe unmarked node is read of the chain, so its neighbours bound the wanted split key.
-- Assumes nothing.
use mathlib.Core.Path.{◌≡◌, refl, sym, ◌∙◌}
use mathlib.Core.Logic.{◌≢◌, ◌⊎◌, inl, inr}
use mathlib.Core.Bool.{Bool, true, false, true≢false, ◌||◌}
use mathlib.Core.List.{List, Memᴰ as In}
use Prim.Native.Nat.{ℕ, ◌*◌, ◌≤◌}
use native.Mathlib.Omega.{arith}
use lib.Dec.{eqb}
use borrow.Author.Tests.{eqb-true, eqb-false, ne_eqb, eq-eqb}
use Rattle.choice.specs.Choice.{pick}
use Rattle.choice.proofs.Cases.{by_bool, by_eq, by_lt}
use Rattle.split.specs.Split.{regular, dummy}
use Rattle.words.specs.Words.{STANDING, LINK, put, link_to, is_to}
use Rattle.words.proofs.Laws.{is_to_true}
use Rattle.names.specs.Names.{F1, F2, F4, L2, B8, D4A, D6, KEY, DUMMY, EXTRA, INSERT, FIND, number_of}
use Rattle.names.specs.declared.Answer.{Answer}
use Rattle.names.specs.declared.Answer.TheVariants.{Yes, No, NoDummy}
use Rattle.header.specs.declared.Header.{Header}
use Rattle.header.specs.Header.{dummies_of, nodes_of}
use Rattle.record.specs.declared.Worker.{Worker}
use Rattle.record.specs.Fields.{to, with_prev, with_cur, with_dummy}
use Rattle.record.specs.Worker.{ticked, held_key, held_dummy}
use Rattle.acts.specs.declared.Effect.{Effect}
use Rattle.acts.specs.declared.Effect.TheVariants.{Nothing, Free, Unlink}
use Rattle.acts.specs.declared.Move.{Move}
use Rattle.acts.specs.declared.Move.TheVariants.{Damaged, Going, Ended}
use Rattle.moves.specs.Moves.{not_found, found_key, found, comes, f1, f2, judged, f3, f4}
use Rattle.register.specs.Registered.{key, link, next_in, mark}
use Rattle.register.specs.Events.{nothing}
use Rattle.story.proofs.Memory.{key_of_standing}
use Rattle.story.proofs.Linked.{cut_after, succ_in}
use Rattle.story.proofs.Sane.{Sane, prev_in, cur_in, next_in_lem, dummy_in}
use Rattle.story.proofs.Facts as F
use Rattle.story.proofs.Facts.{Safe, Held, Nodes, for_key, for_dummy, for_extra, AimOf, Start, Beyond, Root, Searches, Passes, want_by, in_hand, sought, Later}
use Rattle.story.proofs.Stable as st
use Rattle.story.proofs.Core.{Pasts, Core}
use Rattle.story.proofs.Effects.{same, live_on, safe_fits, safe_some, next_fits}
use Rattle.story.proofs.Registers.{Same, unmoved, gap, dummy_is_even}
use Rattle.story.proofs.Acts.{free_dummy, free_same, unlink_later, unlink_prev, unlink_same, unlinks}
use Rattle.story.proofs.Steps.{took, Ctx, me, core, Went, Present, Absent, Stands, looks, Told, Finished, Good, over, past, upon, seen, sound_link, want_is, even_sort}

-- the wanted split key, by errand
pub want_key : (e a k : ℕ) → e ≢ DUMMY → F.want e a k ≡ regular k
want_key e a k ne = by_eq (λ (v : ℕ). v ≡ regular k) e DUMMY (λ q. absurd (ne q)) (λ _. refl)

pub want_dummy : (e a k : ℕ) → e ≡ DUMMY → F.want e a k ≡ dummy a
want_dummy e a k q = by_eq (λ (v : ℕ). v ≡ dummy a) e DUMMY (λ _. refl) (λ ne. absurd (ne q))

-- the nodes in hand, by kind and errand
pub no_hand : (x : Worker) → x.kind ≢ INSERT → in_hand x ≡ 0
no_hand x ne = by_eq (λ (v : ℕ). v ≡ 0) x.kind INSERT (λ q. absurd (ne q)) (λ _. refl)

pub some_hand : (x : Worker) → x.kind ≡ INSERT → in_hand x ≡ x.held
some_hand x e = by_eq (λ (v : ℕ). v ≡ x.held) x.kind INSERT (λ _. refl) (λ ne. absurd (ne e))

pub no_sought : (x : Worker) → x.errand ≢ DUMMY → sought x ≡ 0
no_sought x ne = by_eq (λ (v : ℕ). v ≡ 0) x.errand DUMMY (λ q. absurd (ne q)) (λ _. refl)

pub some_sought : (x : Worker) → x.errand ≡ DUMMY → sought x ≡ x.dummy
some_sought x e = by_eq (λ (v : ℕ). v ≡ x.dummy) x.errand DUMMY (λ _. refl) (λ ne. absurd (ne e))

-- fields that come in range
pub sane_at : (h : Header) (x : Worker) (prev cur : ℕ) → Sane h x → prev ≤ nodes_of h → cur ≤ nodes_of h → Sane h (with_cur cur (with_prev prev x))
sane_at h x prev cur s a b = cur_in (prev_in s a) b

or_right : (a b : Bool) → a ≡ false → a || b ≡ true → b ≡ true
or_right a b e q = rw e at q

or_none : (a b : Bool) → (a || b) ≡ false → b ≡ false
or_none true b q = absurd (true≢false q)
or_none false b q = q

module _ {h : Header} {ws : List Worker} {Ps Qs : Pasts} {w : ℕ} {c m : List ℕ} {β : ℕ → ℕ} (z : Ctx h ws Ps Qs w c m β) (p₀ : F.Spot) (l : Stands z p₀)
    (hand : held_key (me z) ≡ in_hand (me z)) (dummy_hand : held_dummy (me z) ≡ sought (me z)) where
  abbrev x : Worker
  x = me z

  abbrev N : ℕ
  N = nodes_of h

  abbrev D : ℕ
  D = dummies_of h

  abbrev tk : Bool
  tk = eqb x.errand EXTRA

  g₀ : Nodes D N c m
  g₀ = z.inv.of_nodes

  own : Later D N w 0 c m c m
  own = same D N w 0 c m

  -- the nodes after a step's write, on whose chain the search goes on
  record Onward (e : Effect) (c' m' : List ℕ) : Type 0 where
    rest : Core h ws Ps w (held_key x) (held_dummy x) c' m' β
    key_is : held_key x ≢ 0 → key m' (held_key x) ≡ regular x.key
    dummy_is : held_dummy x ≢ 0 → key m' (held_dummy x) ≡ dummy x.making
    unchanged : (j : ℕ) → Same m m' j
    went : (y : Worker) → Went z tk y h m' β nothing → Good z tk (Going y e)
    finished : (a : Answer) → Finished z tk a h m' β nothing → Good z tk (Ended a e)

  still : Onward Nothing c m
  still = record { rest = core z; key_is = l.key_has; dummy_is = l.dummy_has; unchanged = unmoved; went = λ y q. q; finished = λ a q. q }

  -- the search's end without the wanted split key
  module _ (e : Effect) (c' m' : List ℕ) (o : Onward e c' m') (prev cur : ℕ) (pf : prev ≤ N) (cf : cur ≤ N)
      (b : Passes h w c' m' (Qs w) (with_cur cur (with_prev prev x))) where
    abbrev y : Worker
    y = with_cur cur (with_prev prev x)

    -- on to a place of the same search
    onward : (p : F.Spot) (q : ℕ) → q ≡ F.number p → F.key_of p y ≡ held_key x → F.dummy_of p y ≡ held_dummy x → F.At h w c' m' (Qs w) p (ticked (to q y))
        → took p x.errand ≡ tk → F.key_of p (ticked (to q y)) ≡ F.key_of p y → F.dummy_of p (ticked (to q y)) ≡ F.dummy_of p y → Good z tk (Going (to q y) e)
    onward p q pl ek ed a t sk sd = o.went (to q y) (record {
      chain = c';
      next = record {
        k = held_key x;
        d = held_dummy x;
        rest = o.rest;
        spot = p;
        place = pl;
        sane = sane_at h x prev cur l.sane pf cf;
        key_same = sk ∙ ek;
        dummy_same = sd ∙ ed;
        key_has = o.key_is;
        dummy_has = o.dummy_is;
        at = a;
      };
      change = o.unchanged;
      kind = refl;
      same_key = refl;
      turned = t;
    })

    not_found_lem : Beyond N w c' m' cur (want_by x) → (want_by x ≡ regular x.key → Absent z x.key) → Good z tk (not_found y e)
    unfolding not_found
    not_found_lem far absent = by_aim b.0.0
      where
        G : Move → Type 0
        G = Good z tk

        to_l2 : (x.errand ≡ DUMMY) ⊎ ((x.errand ≡ KEY) × (x.kind ≡ INSERT)) → G (Going (to L2 y) e)
        to_l2 why = onward F.l2 L2 refl (sym hand) (sym dummy_hand) (b, far, why) refl refl refl

        by_aim : AimOf x → G (pick (eqb x.errand EXTRA) (Going (to D6 y) e) (pick (eqb x.errand DUMMY || eqb x.kind INSERT) (Going (to L2 y) e) (Ended No e)))
        by_aim (for_key q hs) = past G _ _ (ne_eqb x.errand EXTRA (λ r. omega arith))
            (by_bool G (eqb x.errand DUMMY || eqb x.kind INSERT)
            (λ t. to_l2 (inr (q, eqb-true x.kind INSERT (or_right (eqb x.errand DUMMY) (eqb x.kind INSERT) (ne_eqb x.errand DUMMY (λ r. omega arith)) t))))
            (λ t. let ni : x.kind ≢ INSERT = eqb-false x.kind INSERT (or_none (eqb x.errand DUMMY) (eqb x.kind INSERT) t) in
            o.finished No (over z tk No c' m' o.rest o.unchanged (record {
              yes = λ a k. let f : ◌≡◌ {A = ℕ} 0 1 = cc in absurd (omega arith);
              no_there = λ a k. absurd (ni k);
              no_absent = λ a k. absent (want_key x.errand x.making x.key (λ r. omega arith));
              done = λ a k. let f : ◌≡◌ {A = ℕ} 0 1 = cc in absurd (omega arith);
              undone = λ a. ne_eqb x.errand EXTRA (λ r. omega arith);
              dummies = omega arith;
            }))))
        by_aim (for_dummy q hs way dn) = past G _ _ (ne_eqb x.errand EXTRA (λ r. omega arith))
            (by_bool G (eqb x.errand DUMMY || eqb x.kind INSERT) (λ t. to_l2 (inl q))
            (λ t. let f : eqb x.errand DUMMY ≡ true = eq-eqb x.errand DUMMY q in absurd (true≢false (rw f at t))))
        by_aim (for_extra q k) = upon G _ _ (eq-eqb x.errand EXTRA q)
            (onward F.d6 D6 refl (sym (hand ∙ no_hand x (λ r. omega arith))) (sym (dummy_hand ∙ no_sought x (λ r. omega arith))) k (sym (eq-eqb x.errand EXTRA q)) refl refl)

    -- the search comes to cur, after prev
    arrives : (cur ≢ 0 → Safe N w c' m' cur) → (cur ≡ 0 → want_by x ≡ regular x.key → Absent z x.key) → Good z tk (comes x prev cur e)
    unfolding comes
    arrives safe absent = by_eq (Good z tk) cur 0
        (λ q. not_found_lem (record { safe = λ ne. absurd (ne q); high = λ ne. absurd (ne q) }) (absent q))
        (λ ne. onward F.f2 F2 refl (sym hand) (sym dummy_hand) (b, safe ne) refl refl refl)

  -- back to the start
  again : Searches h w c m (Ps w) x → Good z tk (Going (to F1 x) Nothing)
  again b = record {
    chain = c;
    next = record {
      k = held_key x;
      d = held_dummy x;
      rest = core z;
      spot = F.f1;
      place = refl;
      sane = l.sane;
      key_same = sym hand;
      dummy_same = sym dummy_hand;
      key_has = l.key_has;
      dummy_has = l.dummy_has;
      at = b;
    };
    change = unmoved;
    kind = refl;
    same_key = refl;
    turned = refl;
  }

  pub f1_good : F.At h w c m (Ps w) F.f1 x → Good z tk (f1 (seen h x (link m x.start) 0))
  unfolding f1
  f1_good b =
      let s = b.1 in
      let some : x.start ≢ 0 = safe_some D N c m g₀ w x.start (inl s.on) in
      let fits : x.start ≤ N = g₀.fits x.start s.on in
      past (Good z tk) _ _ (sound_link h x x.start (link m x.start) 0 some (g₀.links x.start fits))
      (arrives Nothing c m still x.start (next_in m x.start) fits (next_fits D N c m g₀ x.start fits)
      (b, record { safe = inl s.on; low = s.low })
      (λ ne. inl (succ_in m x.start 0 1 s.on g₀.walk ne))
      (λ q e. inl (gap D N c m g₀ x.start x.key s.on (rw e at s.low) (λ ne. absurd (ne q)))))

  pub f2_good : F.At h w c m (Ps w) F.f2 x → Good z tk (f2 (seen h x (link m x.cur) 0))
  unfolding f2
  f2_good b =
      let some : x.cur ≢ 0 = safe_some D N c m g₀ w x.cur b.1 in
      let fits : x.cur ≤ N = safe_fits D N c m g₀ w x.cur b.1 in
      past (Good z tk) _ _ (sound_link h x x.cur (link m x.cur) 0 some (g₀.links x.cur fits)) (record {
        chain = c;
        next = record {
          k = held_key x;
          d = held_dummy x;
          rest = core z;
          spot = F.f3;
          place = refl;
          sane = next_in_lem l.sane (next_fits D N c m g₀ x.cur fits);
          key_same = sym hand;
          dummy_same = sym dummy_hand;
          key_has = l.key_has;
          dummy_has = l.dummy_has;
          at = (
            b.0,
            b.1,
            record {
              live = λ e ne. inl (succ_in m x.cur 0 1 (live e) g₀.walk ne);
              was = λ e. z.see x.cur (next_in m x.cur) (live e) (omega (arith, unmarked e));
              dead = λ e. omega (arith, eqb-true (mark m x.cur) 1 e);
            },
          );
        };
        change = unmoved;
        kind = refl;
        same_key = refl;
        turned = refl;
      })
    where
      unmarked : eqb (mark m x.cur) 1 ≡ false → mark m x.cur ≡ 0
      unmarked e = omega (arith, eqb-false (mark m x.cur) 1 e)

      live : eqb (mark m x.cur) 1 ≡ false → In x.cur c
      live e = live_on D N c m g₀ w x.cur b.1 (unmarked e)

  -- ---- F3: prev's link is (0, cur), so both are on the chain
  module _ (b : F.At h w c m (Ps w) F.f3 x) (e : link m x.prev ≡ x.cur * 2) where
    prev_on : In x.prev c
    prev_on = live_on D N c m g₀ w x.prev b.0.1.safe (rw e (omega arith))

    np : next_in m x.prev ≡ x.cur
    np = rw e (omega arith)

    some : x.cur ≢ 0
    some = safe_some D N c m g₀ w x.cur b.1

    cur_on : In x.cur c
    cur_on = rw np at (succ_in m x.prev 0 1 prev_on g₀.walk (rw np some))

    is_found : key m x.cur ≡ want_by x → x.marked ≡ false → Good z tk (found x)
    unfolding found found_key
    is_found has live = by_aim b.0.0.0
      where
        G : Move → Type 0
        G = Good z tk

        seen_it : x.errand ≢ DUMMY → Present z x.key
        seen_it ne = inr (x.cur, x.next, rw (has ∙ want_key x.errand x.making x.key ne) at (b.2.was live))

        told : (a : Answer) → x.errand ≡ KEY → (a ≡ Yes → x.kind ≡ FIND) → (a ≡ No → x.kind ≡ INSERT) → number_of a ≢ number_of NoDummy → Told z tk a
        told a q f g l = record {
          yes = λ u k. seen_it (λ r. omega arith);
          no_there = λ u k. seen_it (λ r. omega arith);
          no_absent = λ u k. absurd (k (g u));
          done = λ u k. absurd (k (f u));
          undone = λ u. ne_eqb x.errand EXTRA (λ r. omega arith);
          dummies = l;
        }

        by_aim : AimOf x → G (pick (eqb x.errand EXTRA) (Going (to D6 x) Nothing) (pick (eqb x.errand KEY)
            (pick (eqb x.kind INSERT) (pick (eqb x.held 0) Damaged (Ended No Nothing)) (pick (eqb x.kind FIND) (Ended Yes Nothing) (Going (to D4A x) Nothing)))
            (pick (eqb x.dummy 0) Damaged (Going (to B8 (with_dummy x.cur x)) (Free x.dummy)))))
        by_aim (for_key q hs) = past G _ _ (ne_eqb x.errand EXTRA (λ r. omega arith)) (upon G _ _ (eq-eqb x.errand KEY q)
            (by_eq G x.kind INSERT
            (λ k. past G _ _ (ne_eqb x.held 0 (hs k)) (over z tk No c m (core z) unmoved
            (told No q (λ u. let f : ◌≡◌ {A = ℕ} 0 1 = cc in absurd (omega arith)) (λ u. k) (omega arith))))
            (λ nk. by_eq G x.kind FIND
            (λ k. over z tk Yes c m (core z) unmoved (told Yes q (λ u. k) (λ u. let f : ◌≡◌ {A = ℕ} 0 1 = cc in absurd (omega arith)) (omega arith)))
            (λ nf. looks z tk p₀ l (dummy_hand ∙ no_sought x (λ r. omega arith)) F.d4a (to D4A x) refl l.sane (sym (hand ∙ no_hand x nk)) refl refl refl
            (omega (arith, l.sane.some, l.sane.kind), q, low, b.0.1.safe, b.1, has ∙ want_key x.errand x.making x.key (λ r. omega arith)) (sym (ne_eqb x.errand EXTRA (λ r. omega arith)))
            ))))
          where
            low : Start D c m x.start (regular x.key)
            low = rw (want_key x.errand x.making x.key (λ r. omega arith)) at b.0.0.1
        by_aim (for_extra q k) = upon G _ _ (eq-eqb x.errand EXTRA q)
            (looks z tk p₀ l (dummy_hand ∙ no_sought x (λ r. omega arith)) F.d6 (to D6 x) refl l.sane (sym (hand ∙ no_hand x (λ r. omega arith))) refl refl refl k (sym (eq-eqb x.errand EXTRA q)))
        by_aim (for_dummy q hs way dn) = past G _ _ (ne_eqb x.errand EXTRA (λ r. omega arith)) (past G _ _ (ne_eqb x.errand KEY (λ r. omega arith))
            (past G _ _ (ne_eqb x.dummy 0 dn) (record {
              chain = c;
              next = record {
                k = held_key x;
                d = 0;
                rest = rw d_is at (free_dummy (core z));
                spot = F.b8;
                place = refl;
                sane = dummy_in l.sane l.sane.cur;
                key_same = sym hand;
                dummy_same = refl;
                key_has = λ y. key_of_standing m x.dummy 0 (held_key x) ∙ l.key_has y;
                dummy_has = λ y. absurd (y refl);
                at = (hs, way, root);
              };
              change = λ j. rw d_is at (free_same (core z) (held_dummy x) 0 D held (omega arith) j);
              kind = refl;
              same_key = refl;
              turned = sym (ne_eqb x.errand EXTRA (λ r. omega arith));
            })))
          where
            d_is : held_dummy x ≡ x.dummy
            d_is = dummy_hand ∙ some_sought x q

            held : Held 0 D c m (held_dummy x)
            held = (core z).dummy_held (λ y. dn (sym d_is ∙ y))

            split : key m x.cur ≡ dummy x.making
            split = has ∙ want_dummy x.errand x.making x.key q

            root : Root D c (put m x.dummy STANDING 0) x.making x.cur
            root = record {
              on = cur_on;
              sort = even_sort D N c m g₀ x.cur cur_on (rw split (dummy_is_even x.making (omega (arith, l.sane.making, z.inv.limits.buckets.1))));
              has = key_of_standing m x.dummy 0 x.cur ∙ split;
            }

    is_judged : Good z tk (judged (seen h x (link m x.prev) (key m x.cur)))
    unfolding judged
    is_judged = by_bool (Good z tk) x.marked
        (λ t. onward Nothing c m still x.prev x.cur l.sane.prev l.sane.cur passes F.f4 F4 refl (sym hand) (sym dummy_hand) (passes, b.1, b.2.dead t) refl refl refl)
        (λ t. past (Good z tk) _ _ (ne_eqb x.cur 0 some) (rw (want_is x)
        (by_lt (Good z tk) (key m x.cur) (want_by x)
        (λ lt. arrives Nothing c m still x.cur x.next l.sane.cur l.sane.next (b.0.0, record { safe = b.1; low = lt }) (b.2.live t)
        (λ q e. inr (x.cur, key m x.cur, rw q at (b.2.was t), rw (← e) lt)))
        (λ ge. by_eq (Good z tk) (key m x.cur) (want_by x) (λ q. is_found q t)
        (λ nq. not_found_lem Nothing c m still x.prev x.cur l.sane.prev l.sane.cur passes (record { safe = λ _. b.1; high = λ _. omega (arith, ge, nq) })
        (λ q. inl (gap D N c m g₀ x.prev x.key prev_on (rw q at b.0.1.low) (λ _. rw (np, ← q) (omega (arith, ge, nq))))))))))
      where
        passes : Passes h w c m (Qs w) x
        passes = b.0

  pub f3_good : F.At h w c m (Ps w) F.f3 x → Good z tk (f3 (seen h x (link m x.prev) (key m x.cur)))
  unfolding f3
  f3_good b =
      let some : x.prev ≢ 0 = safe_some D N c m g₀ w x.prev b.0.1.safe in
      let fits : x.prev ≤ N = safe_fits D N c m g₀ w x.prev b.0.1.safe in
      past (Good z tk) _ _ (sound_link h x x.prev (link m x.prev) (key m x.cur) some (g₀.links x.prev fits))
      (by_bool (Good z tk) (is_to (link m x.prev) x.cur) (λ t. is_judged b (is_to_true (link m x.prev) x.cur t)) (λ _. again b.0.0))

  -- ---- F4: the marked node after prev goes off the chain
  pub f4_good : F.At h w c m (Ps w) F.f4 x → Good z tk (f4 (seen h x (link m x.prev) 0))
  unfolding f4
  f4_good b =
      let some : x.prev ≢ 0 = safe_some D N c m g₀ w x.prev b.0.1.safe in
      let fits : x.prev ≤ N = safe_fits D N c m g₀ w x.prev b.0.1.safe in
      past (Good z tk) _ _ (sound_link h x x.prev (link m x.prev) 0 some (g₀.links x.prev fits))
      (by_bool (Good z tk) (is_to (link m x.prev) x.cur)
      (λ t. past (Good z tk) _ _ (ne_eqb x.cur 0 (safe_some D N c m g₀ w x.cur b.1)) (cuts (is_to_true (link m x.prev) x.cur t)))
      (λ _. again b.0.0))
    where
      cuts : link m x.prev ≡ x.cur * 2 → Good z tk (comes x x.prev x.next (Unlink x.prev x.next x.cur h.busy))
      cuts e = arrives (Unlink x.prev x.next x.cur h.busy) (cut_after i) m' o x.prev x.next l.sane.prev l.sane.next
          ((b.0.0.0, st.start later b.0.0.1), st.prev later b.0.1)
          (λ ne. inl (rw on'.1 at (succ_in m' x.prev 0 1 on'.0 core'.of_nodes.walk (rw on'.1 ne))))
          (λ q k. inl (λ r. gap D N (cut_after i) m' core'.of_nodes x.prev x.key on'.0 (rw k at (st.prev later b.0.1).low) (λ ne. absurd (ne (on'.1 ∙ q)))
          ((o.unchanged x.key).still r)))
        where
          some : x.cur ≢ 0
          some = safe_some D N c m g₀ w x.cur b.1

          i : In x.prev c
          i = live_on D N c m g₀ w x.prev b.0.1.safe (rw e (omega arith))

          m' : List ℕ
          m' = put (put m x.prev LINK (link_to x.next false)) x.cur STANDING h.busy

          later : Later D N w 0 c m (cut_after i) m'
          later = unlink_later (core z) x.prev x.cur x.next i e some b.2 w z.busy

          core' : Core h ws Ps w (held_key x) (held_dummy x) (cut_after i) m' β
          core' = unlinks (core z) x.prev x.cur x.next i e some b.2

          on' : In x.prev (cut_after i) × (next_in m' x.prev ≡ x.next)
          on' = unlink_prev (core z) x.prev x.cur x.next i e some b.2

          o : Onward (Unlink x.prev x.next x.cur h.busy) (cut_after i) m'
          o = record {
            rest = core';
            key_is = λ y. later.has D N (held_key x) y ((core z).key_held y) ∙ l.key_has y;
            dummy_is = λ y. later.has 0 D (held_dummy x) y ((core z).dummy_held y) ∙ l.dummy_has y;
            unchanged = unlink_same (core z) x.prev x.cur x.next i e some b.2;
            went = λ y q. q;
            finished = λ a q. q;
          }
