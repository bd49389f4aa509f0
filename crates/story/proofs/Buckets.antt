-- The places before a search: a bucket's dummy comes before all its keys, a parent's before its child's, and bucket 0 is always set.
-- Assumes nothing.
use mathlib.Core.Path.{◌≡◌, refl, sym, ◌∙◌}
use mathlib.Core.Logic.{◌≢◌}
use mathlib.Core.Bool.{false}
use mathlib.Core.List.{List}
use Prim.Native.Nat.{ℕ, ◌%◌, ◌≤◌, ◌<◌}
use native.Mathlib.Omega.{arith}
use native.Mathlib.Decide.{ℕ_discrete}
use native.Mathlib.Nat.{mod-lt}
use lib.Dec.{ltb}
use borrow.Author.Tests.{ne_eqb, le-ltb}
use Rattle.choice.specs.Choice.{pick}
use Rattle.choice.proofs.Cases.{by_eq}
use Rattle.split.specs.Split.{regular, dummy}
use Rattle.tree.specs.Tree.{parent_of, next_down}
use Rattle.split.proofs.Laws.{dummy_first}
use Rattle.tree.proofs.Laws.{parent_le, on_path_self, on_path_up, on_path_le, next_down_parent}
use Rattle.promises.proofs.Order.{parent_first}
use Rattle.scans.specs.Scans.{free_node}
use Rattle.scans.proofs.Laws.{free_node_lem}
use Rattle.names.specs.Names.{TB, B2, B4, F1, KEY, DUMMY}
use Rattle.header.specs.declared.Header.{Header}
use Rattle.header.specs.Header.{dummies_of, nodes_of}
use Rattle.record.specs.declared.Worker.{Worker}
use Rattle.record.specs.Fields.{to, with_errand, with_wanted, with_making, with_start, with_dummy}
use Rattle.record.specs.Worker.{ticked, held_key, held_dummy}
use Rattle.acts.specs.declared.Effect.TheVariants.{TakeDummy, Store}
use Rattle.acts.specs.declared.Move.{Move}
use Rattle.acts.specs.declared.Move.TheVariants.{Going}
use Rattle.moves.specs.Moves.{tb, b2, b4, b8, sz}
use Rattle.writes.specs.Writes.{taken}
use Rattle.register.specs.Registered.{standing}
use Rattle.story.proofs.Linked.{some_on}
use Rattle.story.proofs.Registers.{unmoved}
use Rattle.story.proofs.Sane.{errand_in, wanted_in, making_in, start_in, dummy_in}
use Rattle.story.proofs.Facts as F
use Rattle.story.proofs.Facts.{Nodes, for_key, for_dummy}
use Rattle.story.proofs.Stable as st
use Rattle.story.proofs.Core.{Pasts}
use Rattle.story.proofs.Acts.{take_dummy, take_later, take_same, take_key_is}
use Rattle.story.proofs.Ends.{stored}
use Rattle.story.proofs.Dummies.{some_free}
use Rattle.story.proofs.Steps.{took, Ctx, me, core, Good, Stands, looks, past, seen}

module _ {h : Header} {ws : List Worker} {Ps Qs : Pasts} {w : ℕ} {c m : List ℕ} {β : ℕ → ℕ} (z : Ctx h ws Ps Qs w c m β) where
  abbrev x : Worker
  x = me z

  abbrev N : ℕ
  N = nodes_of h

  abbrev D : ℕ
  D = dummies_of h

  g₀ : Nodes D N c m
  g₀ = z.inv.of_nodes

  abbrev G : Move → Type 0
  G = Good z false

  word_small : (b : ℕ) → b < h.m → b < 2147483648
  word_small b l = omega (arith, z.inv.limits.buckets.1)

  -- SZ: the size is a power of two, so the key's bucket comes before the key
  pub sz_good : Stands z F.sz → F.At h w c m (Ps w) F.sz x → G (sz (seen h x 0 0))
  unfolding sz
  sz_good s b = looks z false F.sz s s.dummy_hand F.tb (to TB (with_wanted (x.key % h.size) x)) refl
      (wanted_in s.sane fits)
      (sym s.hand) refl refl refl (b, below) refl
    where
      fits : x.key % h.size < h.m
      fits = omega (arith, mod-lt x.key {m = h.size} (omega (arith, z.inv.size.0)), z.inv.size.1)

      below : dummy (x.key % h.size) < regular x.key
      below = rw z.inv.size.2.2 (dummy_first z.inv.size.2.0 x.key (omega (arith, s.sane.key)))

  -- a bucket word is 0 or its dummy
  in_range : (b : ℕ) → b < h.m → Dec (β b ≡ 0) → ltb N (β b) ≡ false
  in_range b l (yes e) = rw e (le-ltb N 0 (omega arith))
  in_range b l (no ne) = le-ltb N (β b) (g₀.fits (β b) (z.inv.root b l ne).on)

  not_first : (b : ℕ) → β b ≡ 0 → b ≢ 0
  not_first b e q = z.inv.root₀ (rw q at e)

  -- TB
  pub tb_good : Stands z F.tb → F.At h w c m (Ps w) F.tb x → G (tb (seen h x (β x.wanted) 0))
  unfolding tb pick
  tb_good s b = past G _ _ (in_range x.wanted s.sane.wanted (ℕ_discrete (β x.wanted) 0))
      (by_eq G (β x.wanted) 0
      (λ e. looks z false F.tb s s.dummy_hand F.b2 (to B2 (with_making x.wanted x)) refl
      (making_in s.sane s.sane.wanted)
      (sym s.hand) refl refl refl (b.0, record { below = b.1; some = not_first x.wanted e; path = on_path_self x.wanted }) refl)
      (λ ne. let o = z.inv.root x.wanted s.sane.wanted ne in
      looks z false F.tb s s.dummy_hand F.f1 (to F1 (with_start (β x.wanted) (with_errand KEY x))) refl
      (start_in (errand_in s.sane (omega arith)) (g₀.fits (β x.wanted) o.on))
      (sym s.hand) refl refl refl (for_key refl b.0, record { on = o.on; sort = o.sort; low = rw o.has b.1 }) refl))

  -- B2
  pub b2_good : Stands z F.b2 → F.At h w c m (Ps w) F.b2 x → G (b2 (seen h x (β (parent_of x.making)) 0))
  unfolding b2
  b2_good s b = past G _ _ (in_range up fits (ℕ_discrete (β up) 0))
      (by_eq G (β up) 0
      (λ e. looks z false F.b2 s s.dummy_hand F.b2 (with_making up x) s.place
      (making_in s.sane fits)
      (sym s.hand) refl refl refl (b.0, record { below = b.1.below; some = not_first up e; path = on_path_up x.wanted x.making b.1.path }) refl)
      (λ ne. let o = z.inv.root up fits ne in
      looks z false F.b2 s s.dummy_hand F.b4 (to B4 (with_start (β up) x)) refl
      (start_in s.sane (g₀.fits (β up) o.on))
      (sym s.hand) refl refl refl (b.0, b.1, record { on = o.on; sort = o.sort; low = rw o.has first }) refl))
    where
      up : ℕ
      up = parent_of x.making

      fits : up < h.m
      fits = omega (arith, parent_le x.making, s.sane.making)

      first : dummy up < dummy x.making
      first = parent_first x.making (omega (arith, b.1.some)) (omega (arith, word_small x.making s.sane.making))

  -- B4: some dummy node is free, and it is taken
  pub b4_good : Stands z F.b4 → F.At h w c m (Ps w) F.b4 x → G (b4 (seen h x (free_node m 1 D) 0))
  unfolding b4 pick
  b4_good s b = by_eq G n 0 (λ e. absurd (some_free (core z) z.lt s.dummy_hand e)) takes
    where
      n : ℕ
      n = free_node m 1 D

      takes : n ≢ 0 → G (Going (to F1 (with_errand DUMMY (with_dummy n x))) (TakeDummy n (dummy x.making)))
      takes ne = record {
        chain = c;
        next = record {
          k = held_key x;
          d = n;
          rest = take_dummy (core z) n (dummy x.making) f.2 f.0 fits s.dummy_hand f.1;
          spot = F.f1;
          place = refl;
          sane = dummy_in (errand_in s.sane (omega arith)) fits;
          key_same = sym s.hand;
          dummy_same = refl;
          key_has = λ y. later.has D N (held_key x) y ((core z).key_held y) ∙ s.key_has y;
          dummy_has = λ y. take_key_is (core z) n (dummy x.making) f.2 f.0 fits;
          at = (for_dummy refl b.0 b.1 ne, st.start later b.2);
        };
        change = take_same (core z) n (dummy x.making) f.2 f.0 fits;
        kind = refl;
        same_key = refl;
        turned = refl;
      }
        where
          f : (1 ≤ n) × (n ≤ D) × (standing m n ≡ 0)
          f = free_node_lem m 1 D n refl ne (omega arith)

          fits : n ≤ N
          fits = omega (arith, f.1)

          later : F.Later D N w 0 c m c (taken n (dummy x.making) m)
          later = take_later (core z) n (dummy x.making) f.2 f.0 fits w

  -- B8: the bucket is set, and the next one down the path follows
  pub b8_good : Stands z F.b8 → F.At h w c m (Ps w) F.b8 x → G (b8 (seen h x 0 0))
  unfolding b8
  b8_good s b = past G _ _ (ne_eqb x.dummy 0 some)
      (by_eq G x.making x.wanted (λ e. stores F.tb TB x.making s.sane.making refl (sym s.hand) refl (b.0, b.1.below) refl)
      (λ ne. let d = next_down_parent x.wanted x.making b.1.path ne in
      stores F.b2 B2 (next_down x.wanted x.making) (omega (arith, on_path_le x.wanted (next_down x.wanted x.making) d.1, s.sane.wanted)) refl (sym s.hand) refl
      (b.0, record { below = b.1.below; some = omega (arith, d.2); path = d.1 }) refl))
    where
      some : x.dummy ≢ 0
      some e = omega (arith, some_on m 0 1 b.2.on g₀.walk)

      stores : (q : F.Spot) (p a : ℕ) → a < h.m → p ≡ F.number q → F.key_of q (ticked (to p (with_making a (with_dummy 0 x)))) ≡ held_key x → F.dummy_of q (ticked (to p (with_making a (with_dummy 0 x)))) ≡ 0
          → F.At h w c m (Qs w) q (ticked (to p (with_making a (with_dummy 0 x)))) → took q x.errand ≡ false → G (Going (to p (with_making a (with_dummy 0 x))) (Store x.making x.dummy))
      stores q p a l pl ek ed at t = record {
        chain = c;
        next = record {
          k = held_key x;
          d = held_dummy x;
          rest = stored (core z) x.making x.dummy s.sane.making some b.2;
          spot = q;
          place = pl;
          sane = dummy_in (making_in s.sane l) (omega arith);
          key_same = ek;
          dummy_same = ed ∙ sym s.dummy_hand;
          key_has = s.key_has;
          dummy_has = λ n. absurd (n s.dummy_hand);
          at = at;
        };
        change = unmoved;
        kind = refl;
        same_key = refl;
        turned = t;
      }
