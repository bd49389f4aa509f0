-- The few ways in which a step changes the nodes, by equations between the words before and after: each keeps what holds of the nodes, and what the workers know outlives it.
-- Assumes nothing.
use mathlib.Core.Path.{◌≡◌, refl, sym, ◌∙◌}
use mathlib.Core.Logic.{◌≢◌, ◌⊎◌, inl, inr}
use mathlib.Core.List.{List, Memᴰ as In}
use Prim.Native.Nat.{ℕ, zero, suc, ◌+◌, ◌*◌, ◌%◌, ◌≤◌, ◌<◌}
use native.Mathlib.Omega.{arith}
use native.Mathlib.Decide.{ℕ_discrete}
use lib.ListN.{length}
use Rattle.words.specs.Words.{TAKEN}
use Rattle.sets.specs.Sets.{bit, dropped}
use Rattle.sets.proofs.Laws.{bit_some, dropped_other}
use Rattle.scans.specs.Scans.{leave}
use Rattle.scans.proofs.Laws.{leave_set, leave_taken, leave_le}
use Rattle.words.proofs.Laws.{nothing}
use Rattle.register.specs.Registered.{key, link, standing, next_in, mark}
use Rattle.story.proofs.Linked.{put_after, cut_after, frame, insert, unlink, put_old, put_only, cut_old, cut_only, cut_gone, succ_in, some_on, root_on}
use Rattle.story.proofs.Facts.{Waits, Safe, Held, Nodes, Later}

-- a read
pub same : (D N v g : ℕ) (c m : List ℕ) → Later D N v g c m c m
same D N v g c m = record { safe = λ n p. p; keys = λ n p. refl; dead = λ n p d. refl; root = λ n i e. i; held = λ lo hi n ne b q. q; has = λ lo hi n ne q. refl }

module _ (D N : ℕ) (c m : List ℕ) (g : Nodes D N c m) where
  -- what a safe node is: unmarked, it is on the chain
  pub live_on : (v n : ℕ) → Safe N v c m n → mark m n ≡ 0 → In n c
  live_on v n (inl i) e = i
  live_on v n (inr w) e = absurd (omega (arith, g.left n w.fits (bit_some v (standing m n) w.has) w.small))

  pub safe_fits : (v n : ℕ) → Safe N v c m n → n ≤ N
  safe_fits v n (inl i) = g.fits n i
  safe_fits v n (inr w) = w.fits

  pub safe_some : (v n : ℕ) → Safe N v c m n → n ≢ 0
  safe_some v n (inl i) e = omega (arith, some_on m 0 1 i g.walk)
  safe_some v n (inr w) e = let z : standing m n ≡ 0 = rw e (nothing m 2) in omega (arith, bit_some v (standing m n) w.has)

  pub next_fits : (n : ℕ) → n ≤ N → next_in m n ≤ N
  next_fits n b = omega (arith, g.links n b)

-- a held node is not safe for anybody
pub held_free : (N v lo hi : ℕ) (c m : List ℕ) (n : ℕ) → Held lo hi c m n → Safe N v c m n → ⊥
held_free N v lo hi c m n h (inl i) = h.off i
held_free N v lo hi c m n h (inr w) = omega (arith, h.is, w.small)

-- L2: h, held, is linked after p
module _ (D N lo hi : ℕ) (c m m' : List ℕ) (p h cur most : ℕ) (g : Nodes D N c m) (hh : Held lo hi c m h) (bound : hi ≤ N) (i : In p c)
    (size : length m' ≡ length m) (ek : (n : ℕ) → key m' n ≡ key m n) (es : (n : ℕ) → standing m' n ≡ standing m n)
    (el : (n : ℕ) → n ≢ p → n ≢ h → link m' n ≡ link m n) (lp : link m' p ≡ h * 2) (lh : link m' h ≡ cur * 2)
    (was : link m p ≡ cur * 2) (has : key m h ≡ most) (low : key m p < most) (high : cur ≢ 0 → most < key m cur)
    (even : h ≤ D → most % 2 ≡ 0) (odd : D < h → most % 2 ≡ 1) where
  off_h : (n : ℕ) → In n c → n ≢ h
  off_h n j e = hh.off (rw e at j)

  kh : key m' h ≡ most
  kh = ek h ∙ has

  np : next_in m p ≡ cur
  np = rw was (omega arith)

  pub linked : Nodes D N (put_after i h) m'
  linked = record {
    size = rw size g.size;
    zero = ek 1 ∙ g.zero;
    walk = insert m m' p h (omega (arith, hh.low)) 0 1 i (λ n j. ek n) (λ n j ne. rw (el n ne (off_h n j)) refl)
        (rw lp (omega arith)) (rw (lh, np) (omega arith)) (rw kh low) (rw (np, kh) high) g.walk;
    fits = λ n j. fits n j (ℕ_discrete n h);
    is = λ n j. is n j (ℕ_discrete n h);
    dead = λ n j. dead n j (ℕ_discrete n p) (ℕ_discrete n h);
    even = λ n j b. evens n j b (ℕ_discrete n h);
    odd = λ n j b. odds n j b (ℕ_discrete n h);
    kinds = λ n b. rw (es n) (g.kinds n b);
    left = λ n f a b. left n f (rw (es n) at a) (rw (es n) at b) (ℕ_discrete n p) (ℕ_discrete n h);
    links = λ n b. links n b (ℕ_discrete n p) (ℕ_discrete n h);
  }
    where
      fits : (n : ℕ) → In n (put_after i h) → Dec (n ≡ h) → n ≤ N
      fits n j (yes e) = rw e (omega (arith, hh.high))
      fits n j (no ne) = g.fits n (put_only i h j ne)

      is : (n : ℕ) → In n (put_after i h) → Dec (n ≡ h) → standing m' n ≡ TAKEN
      is n j (yes e) = es n ∙ rw e hh.is
      is n j (no ne) = es n ∙ g.is n (put_only i h j ne)

      dead : (n : ℕ) → In n (put_after i h) → Dec (n ≡ p) → Dec (n ≡ h) → mark m' n ≡ 1 → D < n
      dead n j (yes e) d q = absurd (omega (arith, rw (e, lp) at q))
      dead n j (no ne) (yes e) q = absurd (omega (arith, rw (e, lh) at q))
      dead n j (no ne) (no nh) q = g.dead n (put_only i h j nh) (rw (el n ne nh) at q)

      evens : (n : ℕ) → In n (put_after i h) → n ≤ D → Dec (n ≡ h) → key m' n % 2 ≡ 0
      evens n j b (yes e) = rw (e, kh) (even (rw e at b))
      evens n j b (no nh) = rw (ek n) (g.even n (put_only i h j nh) b)

      odds : (n : ℕ) → In n (put_after i h) → D < n → Dec (n ≡ h) → key m' n % 2 ≡ 1
      odds n j b (yes e) = rw (e, kh) (odd (rw e at b))
      odds n j b (no nh) = rw (ek n) (g.odd n (put_only i h j nh) b)

      left : (n : ℕ) → n ≤ N → 1 ≤ standing m n → standing m n < 65536 → Dec (n ≡ p) → Dec (n ≡ h) → mark m' n ≡ 1
      left n f a b (yes e) d = absurd (omega (arith, rw e at b, g.is p i))
      left n f a b (no ne) (yes e) = absurd (omega (arith, rw e at b, hh.is))
      left n f a b (no ne) (no nh) = rw (el n ne nh) (g.left n f a b)

      links : (n : ℕ) → n ≤ N → Dec (n ≡ p) → Dec (n ≡ h) → link m' n ≤ N * 2 + 1
      links n b (yes e) d = rw (e, lp) (omega (arith, hh.high))
      links n b (no ne) (yes e) = rw (e, lh) (omega (arith, was, g.links p (g.fits p i)))
      links n b (no ne) (no nh) = rw (el n ne nh) (g.links n b)

  pub linked_later : (v : ℕ) → Later D N v h c m (put_after i h) m'
  linked_later v = record {
    safe = safe;
    keys = λ n q. ek n;
    dead = λ n q d. el n (λ e. omega (arith, rw (e, was) at d)) (λ e. held_free N v lo hi c m h hh (rw e at q));
    root = λ n j e. put_old i h j;
    held = λ lo' hi' n ne b q. record { low = q.low; high = q.high; is = es n ∙ q.is; off = λ j. q.off (put_only i h j ne) };
    has = λ lo' hi' n ne q. ek n;
  }
    where
      safe : (n : ℕ) → Safe N v c m n → Safe N v (put_after i h) m' n
      safe n (inl j) = inl (put_old i h j)
      safe n (inr w) = inr (record { fits = w.fits; small = rw (es n) w.small; has = rw (es n) w.has })

-- F4, D4b: the marked node after p is unlinked, and waits for all that are busy
module _ (D N : ℕ) (c m m' : List ℕ) (p cur nx busy : ℕ) (g : Nodes D N c m) (i : In p c)
    (size : length m' ≡ length m) (ek : (n : ℕ) → key m' n ≡ key m n) (es : (n : ℕ) → n ≢ cur → standing m' n ≡ standing m n)
    (sc : standing m' cur ≡ busy) (el : (n : ℕ) → n ≢ p → link m' n ≡ link m n) (lp : link m' p ≡ nx * 2)
    (was : link m p ≡ cur * 2) (some : cur ≢ 0) (dead : link m cur ≡ nx * 2 + 1) (small : busy < 65536) where
  np' : next_in m p ≡ cur
  np' = rw was (omega arith)

  ne0 : next_in m p ≢ 0
  ne0 = rw np' some

  pub on_cur : In cur c
  on_cur = rw np' at (succ_in m p 0 1 i g.walk ne0)

  gone : (n : ℕ) → In n (cut_after i) → n ≢ cur
  gone n j e = cut_gone m p 0 1 i g.walk ne0 (rw (np', ← e) j)

  pub kept : (n : ℕ) → In n c → n ≢ cur → In n (cut_after i)
  kept n j ne = cut_old m p 0 1 i g.walk (rw np' ne) j

  key_sort : D < cur
  key_sort = g.dead cur on_cur (rw dead (omega arith))

  pub unlinked : Nodes D N (cut_after i) m'
  unlinked = record {
    size = rw size g.size;
    zero = ek 1 ∙ g.zero;
    walk = unlink m m' p 0 1 i (λ n j. ek n) (λ n j ne. rw (el n ne) refl) ne0 (rw (lp, np', dead) (omega arith)) g.walk;
    fits = λ n j. g.fits n (cut_only i j);
    is = λ n j. es n (gone n j) ∙ g.is n (cut_only i j);
    dead = λ n j. deads n j (ℕ_discrete n p);
    even = λ n j b. rw (ek n) (g.even n (cut_only i j) b);
    odd = λ n j b. rw (ek n) (g.odd n (cut_only i j) b);
    kinds = λ n b. kinds n b (ℕ_discrete n cur);
    left = λ n f a b. left n f a b (ℕ_discrete n cur) (ℕ_discrete n p);
    links = λ n b. links n b (ℕ_discrete n p);
  }
    where
      deads : (n : ℕ) → In n (cut_after i) → Dec (n ≡ p) → mark m' n ≡ 1 → D < n
      deads n j (yes e) q = absurd (omega (arith, rw (e, lp) at q))
      deads n j (no ne) q = g.dead n (cut_only i j) (rw (el n ne) at q)

      kinds : (n : ℕ) → n ≤ N → Dec (n ≡ cur) → (standing m' n < 65536) ⊎ (standing m' n ≡ TAKEN)
      kinds n b (yes e) = inl (rw (e, sc) small)
      kinds n b (no ne) = rw (es n ne) (g.kinds n b)

      left : (n : ℕ) → n ≤ N → 1 ≤ standing m' n → standing m' n < 65536 → Dec (n ≡ cur) → Dec (n ≡ p) → mark m' n ≡ 1
      left n f a b (yes e) (yes q) = absurd (omega (arith, rw (sym e ∙ q) at dead, was))
      left n f a b (yes e) (no ne) = rw (el n ne, e, dead) (omega arith)
      left n f a b (no nc) (yes q) = absurd (omega (arith, rw (es n nc, q) at b, g.is p i))
      left n f a b (no nc) (no ne) = rw (el n ne) (g.left n f (rw (es n nc) at a) (rw (es n nc) at b))

      links : (n : ℕ) → n ≤ N → Dec (n ≡ p) → link m' n ≤ N * 2 + 1
      links n b (yes e) = rw (e, lp) (omega (arith, dead, g.links cur (g.fits cur on_cur)))
      links n b (no ne) = rw (el n ne) (g.links n b)

  pub unlinked_later : (v h : ℕ) → bit v busy ≡ 1 → Later D N v h c m (cut_after i) m'
  unlinked_later v h has = record {
    safe = λ n. safe n (ℕ_discrete n cur);
    keys = λ n q. ek n;
    dead = λ n q d. el n (λ e. omega (arith, rw (e, was) at d));
    root = λ n j e. kept n j (λ q. omega (arith, key_sort));
    held = λ lo hi n ne b q. record {
      low = q.low;
      high = q.high;
      is = es n (off_cur n q.off) ∙ q.is;
      off = λ j. q.off (cut_only i j);
    };
    has = λ lo hi n ne q. ek n;
  }
    where
      off_cur : (n : ℕ) → (In n c → ⊥) → n ≢ cur
      off_cur n f e = f (rw e on_cur)

      safe : (n : ℕ) → Dec (n ≡ cur) → Safe N v c m n → Safe N v (cut_after i) m' n
      safe n (yes e) q = inr (record { fits = rw e (g.fits cur on_cur); small = rw (e, sc) small; has = rw (e, sc) has })
      safe n (no ne) (inl j) = inl (kept n j ne)
      safe n (no ne) (inr w) = inr (record { fits = w.fits; small = rw (es n ne) w.small; has = rw (es n ne) w.has })

-- D4a: a node on the chain is marked
module _ (D N : ℕ) (c m m' : List ℕ) (cur nx : ℕ) (g : Nodes D N c m) (i : In cur c)
    (size : length m' ≡ length m) (ek : (n : ℕ) → key m' n ≡ key m n) (es : (n : ℕ) → standing m' n ≡ standing m n)
    (el : (n : ℕ) → n ≢ cur → link m' n ≡ link m n) (lc : link m' cur ≡ nx * 2 + 1)
    (was : link m cur ≡ nx * 2) (sort : D < cur) where
  pub marked : Nodes D N c m'
  marked = record {
    size = rw size g.size;
    zero = ek 1 ∙ g.zero;
    walk = frame m m' 0 1 c (λ n j. ek n) (λ n j. nexts n (ℕ_discrete n cur)) g.walk;
    fits = g.fits;
    is = λ n j. es n ∙ g.is n j;
    dead = λ n j q. dead n j (ℕ_discrete n cur) q;
    even = λ n j b. rw (ek n) (g.even n j b);
    odd = λ n j b. rw (ek n) (g.odd n j b);
    kinds = λ n b. rw (es n) (g.kinds n b);
    left = λ n f a b. left n f (rw (es n) at a) (rw (es n) at b) (ℕ_discrete n cur);
    links = λ n b. links n b (ℕ_discrete n cur);
  }
    where
      nexts : (n : ℕ) → Dec (n ≡ cur) → next_in m' n ≡ next_in m n
      nexts n (yes e) = rw (e, lc, was) (omega arith)
      nexts n (no ne) = rw (el n ne) refl

      dead : (n : ℕ) → In n c → Dec (n ≡ cur) → mark m' n ≡ 1 → D < n
      dead n j (yes e) q = rw e sort
      dead n j (no ne) q = g.dead n j (rw (el n ne) at q)

      left : (n : ℕ) → n ≤ N → 1 ≤ standing m n → standing m n < 65536 → Dec (n ≡ cur) → mark m' n ≡ 1
      left n f a b (yes e) = rw (e, lc) (omega arith)
      left n f a b (no ne) = rw (el n ne) (g.left n f a b)

      links : (n : ℕ) → n ≤ N → Dec (n ≡ cur) → link m' n ≤ N * 2 + 1
      links n b (yes e) = rw (e, lc) (omega (arith, was, g.links cur (g.fits cur i)))
      links n b (no ne) = rw (el n ne) (g.links n b)

  pub marked_later : (v h : ℕ) → Later D N v h c m c m'
  marked_later v h = record {
    safe = safe;
    keys = λ n q. ek n;
    dead = λ n q d. el n (λ e. omega (arith, rw (e, was) at d));
    root = λ n j e. j;
    held = λ lo hi n ne b q. record { low = q.low; high = q.high; is = es n ∙ q.is; off = q.off };
    has = λ lo hi n ne q. ek n;
  }
    where
      safe : (n : ℕ) → Safe N v c m n → Safe N v c m' n
      safe n (inl j) = inl j
      safe n (inr w) = inr (record { fits = w.fits; small = rw (es n) w.small; has = rw (es n) w.has })

-- L2 that fails: the held node's link is written
module _ (D N lo hi : ℕ) (c m m' : List ℕ) (h : ℕ) (g : Nodes D N c m) (hh : Held lo hi c m h)
    (size : length m' ≡ length m) (ek : (n : ℕ) → key m' n ≡ key m n) (es : (n : ℕ) → standing m' n ≡ standing m n)
    (el : (n : ℕ) → n ≢ h → link m' n ≡ link m n) (lh : link m' h ≤ N * 2 + 1) where
  on_ne : (n : ℕ) → In n c → n ≢ h
  on_ne n j e = hh.off (rw e at j)

  pub penned : Nodes D N c m'
  penned = record {
    size = rw size g.size;
    zero = ek 1 ∙ g.zero;
    walk = frame m m' 0 1 c (λ n j. ek n) (λ n j. rw (el n (on_ne n j)) refl) g.walk;
    fits = g.fits;
    is = λ n j. es n ∙ g.is n j;
    dead = λ n j q. g.dead n j (rw (el n (on_ne n j)) at q);
    even = λ n j b. rw (ek n) (g.even n j b);
    odd = λ n j b. rw (ek n) (g.odd n j b);
    kinds = λ n b. rw (es n) (g.kinds n b);
    left = λ n f a b. rw (el n (λ e. omega (arith, rw (es n, e) at b, hh.is))) (g.left n f (rw (es n) at a) (rw (es n) at b));
    links = λ n b. links n b (ℕ_discrete n h);
  }
    where
      links : (n : ℕ) → n ≤ N → Dec (n ≡ h) → link m' n ≤ N * 2 + 1
      links n b (yes e) = rw e lh
      links n b (no ne) = rw (el n ne) (g.links n b)

  pub penned_later : (v : ℕ) → Later D N v h c m c m'
  penned_later v = record {
    safe = safe;
    keys = λ n q. ek n;
    dead = λ n q d. el n (λ e. held_free N v lo hi c m h hh (rw e at q));
    root = λ n j e. j;
    held = λ lo' hi' n ne b q. record { low = q.low; high = q.high; is = es n ∙ q.is; off = q.off };
    has = λ lo' hi' n ne q. ek n;
  }
    where
      safe : (n : ℕ) → Safe N v c m n → Safe N v c m' n
      safe n (inl j) = inl j
      safe n (inr w) = inr (record { fits = w.fits; small = rw (es n) w.small; has = rw (es n) w.has })

-- I1, B4: a free node is taken
module _ (D N : ℕ) (c m m' : List ℕ) (h : ℕ) (g : Nodes D N c m) (free : standing m h ≡ 0)
    (size : length m' ≡ length m) (ek : (n : ℕ) → n ≢ h → key m' n ≡ key m n) (es : (n : ℕ) → n ≢ h → standing m' n ≡ standing m n)
    (el : (n : ℕ) → link m' n ≡ link m n) (sh : standing m' h ≡ TAKEN) where
  pub new_ne : (n : ℕ) → In n c → n ≢ h
  new_ne n j e = omega (arith, g.is n j, rw (← e) at free)

  wait_ne : (v n : ℕ) → Waits N v m n → n ≢ h
  wait_ne v n w e = omega (arith, bit_some v (standing m n) w.has, rw (← e) at free)

  safe_ne : (v n : ℕ) → Safe N v c m n → n ≢ h
  safe_ne v n (inl j) = new_ne n j
  safe_ne v n (inr w) = wait_ne v n w

  pub took : Nodes D N c m'
  took = record {
    size = rw size g.size;
    zero = ek 1 (new_ne 1 (root_on m 0 1 c (λ e. omega arith) g.walk)) ∙ g.zero;
    walk = frame m m' 0 1 c (λ n j. ek n (new_ne n j)) (λ n j. rw (el n) refl) g.walk;
    fits = g.fits;
    is = λ n j. es n (new_ne n j) ∙ g.is n j;
    dead = λ n j q. g.dead n j (rw (el n) at q);
    even = λ n j b. rw (ek n (new_ne n j)) (g.even n j b);
    odd = λ n j b. rw (ek n (new_ne n j)) (g.odd n j b);
    kinds = λ n b. kinds n b (ℕ_discrete n h);
    left = λ n f a b. rw (el n) (left n f a b (ℕ_discrete n h));
    links = λ n b. rw (el n) (g.links n b);
  }
    where
      kinds : (n : ℕ) → n ≤ N → Dec (n ≡ h) → (standing m' n < 65536) ⊎ (standing m' n ≡ TAKEN)
      kinds n b (yes e) = inr (rw e sh)
      kinds n b (no ne) = rw (es n ne) (g.kinds n b)

      left : (n : ℕ) → n ≤ N → 1 ≤ standing m' n → standing m' n < 65536 → Dec (n ≡ h) → mark m n ≡ 1
      left n f a b (yes e) = absurd (omega (arith, rw (e, sh) at b))
      left n f a b (no ne) = g.left n f (rw (es n ne) at a) (rw (es n ne) at b)

  pub took_later : (v o : ℕ) → Later D N v o c m c m'
  took_later v o = record {
    safe = safe;
    keys = λ n q. ek n (safe_ne v n q);
    dead = λ n q d. el n;
    root = λ n j e. j;
    held = λ lo hi n ne b q. record { low = q.low; high = q.high; is = es n (held_ne lo hi n q) ∙ q.is; off = q.off };
    has = λ lo hi n ne q. ek n (held_ne lo hi n q);
  }
    where
      held_ne : (lo hi n : ℕ) → Held lo hi c m n → n ≢ h
      held_ne lo hi n q e = omega (arith, q.is, rw (← e) at free)

      safe : (n : ℕ) → Safe N v c m n → Safe N v c m' n
      safe n (inl j) = inl j
      safe n (inr w) = inr (record { fits = w.fits; small = rw (es n (wait_ne v n w)) w.small; has = rw (es n (wait_ne v n w)) w.has })

-- a held node is free again
module _ (D N lo hi : ℕ) (c m m' : List ℕ) (h : ℕ) (g : Nodes D N c m) (hh : Held lo hi c m h)
    (size : length m' ≡ length m) (ek : (n : ℕ) → key m' n ≡ key m n) (es : (n : ℕ) → n ≢ h → standing m' n ≡ standing m n)
    (el : (n : ℕ) → link m' n ≡ link m n) (sh : standing m' h ≡ 0) where
  free_ne : (n : ℕ) → In n c → n ≢ h
  free_ne n j e = hh.off (rw e at j)

  pub freed : Nodes D N c m'
  freed = record {
    size = rw size g.size;
    zero = ek 1 ∙ g.zero;
    walk = frame m m' 0 1 c (λ n j. ek n) (λ n j. rw (el n) refl) g.walk;
    fits = g.fits;
    is = λ n j. es n (free_ne n j) ∙ g.is n j;
    dead = λ n j q. g.dead n j (rw (el n) at q);
    even = λ n j b. rw (ek n) (g.even n j b);
    odd = λ n j b. rw (ek n) (g.odd n j b);
    kinds = λ n b. kinds n b (ℕ_discrete n h);
    left = λ n f a b. rw (el n) (left n f a b (ℕ_discrete n h));
    links = λ n b. rw (el n) (g.links n b);
  }
    where
      kinds : (n : ℕ) → n ≤ N → Dec (n ≡ h) → (standing m' n < 65536) ⊎ (standing m' n ≡ TAKEN)
      kinds n b (yes e) = inl (rw (e, sh) (omega arith))
      kinds n b (no ne) = rw (es n ne) (g.kinds n b)

      left : (n : ℕ) → n ≤ N → 1 ≤ standing m' n → standing m' n < 65536 → Dec (n ≡ h) → mark m n ≡ 1
      left n f a b (yes e) = absurd (omega (arith, rw (e, sh) at a))
      left n f a b (no ne) = g.left n f (rw (es n ne) at a) (rw (es n ne) at b)

  pub freed_later : (v : ℕ) → Later D N v h c m c m'
  freed_later v = record {
    safe = safe;
    keys = λ n q. ek n;
    dead = λ n q d. el n;
    root = λ n j e. j;
    held = λ lo' hi' n ne b q. record { low = q.low; high = q.high; is = es n ne ∙ q.is; off = q.off };
    has = λ lo' hi' n ne q. ek n;
  }
    where
      ne_h : (n : ℕ) → Waits N v m n → n ≢ h
      ne_h n w e = held_free N v lo hi c m h hh (inr (rw e at w))

      safe : (n : ℕ) → Safe N v c m n → Safe N v c m' n
      safe n (inl j) = inl j
      safe n (inr w) = inr (record { fits = w.fits; small = rw (es n (ne_h n w)) w.small; has = rw (es n (ne_h n w)) w.has })

-- the sweep: worker w is waited for nowhere
leave_kinds : (w s : ℕ) → (s < 65536) ⊎ (s ≡ TAKEN) → (leave w s < 65536) ⊎ (leave w s ≡ TAKEN)
leave_kinds w s (inl a) = inl (omega (arith, leave_le w s))
leave_kinds w s (inr e) = inr (leave_taken w s (omega arith) ∙ e)

pub leave_was : (w s : ℕ) → (s < 65536) ⊎ (s ≡ TAKEN) → 1 ≤ leave w s → leave w s < 65536 → (1 ≤ s) × (s < 65536)
leave_was w s (inl a) b d = (omega (arith, leave_le w s), a)
leave_was w s (inr e) b d = absurd (omega (arith, leave_taken w s (omega arith)))

module _ (D N w : ℕ) (c m m' : List ℕ) (g : Nodes D N c m)
    (size : length m' ≡ length m) (ek : (n : ℕ) → key m' n ≡ key m n) (el : (n : ℕ) → link m' n ≡ link m n)
    (es : (n : ℕ) → 1 ≤ n → n ≤ N → standing m' n ≡ leave w (standing m n)) where
  pub stays_taken : (n : ℕ) → 1 ≤ n → n ≤ N → standing m n ≡ TAKEN → standing m' n ≡ TAKEN
  stays_taken n a b e = es n a b ∙ leave_taken w (standing m n) (omega arith) ∙ e

  pub swept : Nodes D N c m'
  swept = record {
    size = rw size g.size;
    zero = ek 1 ∙ g.zero;
    walk = frame m m' 0 1 c (λ n j. ek n) (λ n j. rw (el n) refl) g.walk;
    fits = g.fits;
    is = λ n j. stays_taken n (some_on m 0 1 j g.walk) (g.fits n j) (g.is n j);
    dead = λ n j q. g.dead n j (rw (el n) at q);
    even = λ n j b. rw (ek n) (g.even n j b);
    odd = λ n j b. rw (ek n) (g.odd n j b);
    kinds = λ n b. kinds n b;
    left = λ n f a b. rw (el n) (left n f a b);
    links = λ n b. rw (el n) (g.links n b);
  }
    where
      kinds : (n : ℕ) → n ≤ N → (standing m' n < 65536) ⊎ (standing m' n ≡ TAKEN)
      kinds zero b = inl (rw (nothing m' 2) (omega arith))
      kinds (suc n) b = rw (es (suc n) (omega arith) b) (leave_kinds w (standing m (suc n)) (g.kinds (suc n) b))

      left : (n : ℕ) → n ≤ N → 1 ≤ standing m' n → standing m' n < 65536 → mark m n ≡ 1
      left zero f a b = absurd (omega (arith, nothing m' 2))
      left (suc n) f a b =
          let e : standing m' (suc n) ≡ leave w (standing m (suc n)) = es (suc n) (omega arith) f in
          let q : (1 ≤ standing m (suc n)) × (standing m (suc n) < 65536) = leave_was w (standing m (suc n)) (g.kinds (suc n) f) (rw e at a) (rw e at b) in
          g.left (suc n) f q.0 q.1

  pub swept_later : (v o : ℕ) → v ≢ w → Later D N v o c m c m'
  swept_later v o vw = record {
    safe = safe;
    keys = λ n q. ek n;
    dead = λ n q d. el n;
    root = λ n j e. j;
    held = λ lo hi n ne b q. record { low = q.low; high = q.high; is = stays_taken n (omega (arith, q.low)) (omega (arith, q.high)) q.is; off = q.off };
    has = λ lo hi n ne q. ek n;
  }
    where
      safe : (n : ℕ) → Safe N v c m n → Safe N v c m' n
      safe n (inl j) = inl j
      safe n (inr x) =
          let some : 1 ≤ n = omega (arith, safe_some D N c m g v n (inr x)) in
          let e : standing m' n ≡ dropped w (standing m n) = es n some x.fits ∙ leave_set w (standing m n) (omega (arith, x.small)) in
          inr (record {
            fits = x.fits;
            small = rw (es n some x.fits) (omega (arith, leave_le w (standing m n), x.small));
            has = rw (e, dropped_other v w (standing m n) vw) x.has;
          })
