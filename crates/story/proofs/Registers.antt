-- What a change of the nodes does to the registered keys: a key is told by the one node of the sorted chain that can have its split key.
-- Assumes nothing.
use mathlib.Core.Path.{◌≡◌, sym, ap, ◌∙◌}
use mathlib.Core.Logic.{◌≢◌}
use mathlib.Core.List.{List, Memᴰ as In}
use Prim.Native.Nat.{ℕ, ◌+◌, ◌*◌, ◌%◌, ◌≤◌, ◌<◌}
use native.Mathlib.Omega.{arith}
use native.Mathlib.Decide.{ℕ_discrete}
use Rattle.split.specs.Split.{reverse, regular, dummy}
use Rattle.split.proofs.Laws.{regular_odd, regular_inj, dummy_even}
use Rattle.names.specs.Names.{KEY_LIMIT}
use Rattle.register.specs.Registered.{key, link, next_in, mark, On, Registered}
use Rattle.register.specs.Events.{Event, nothing, added, removed}
use Rattle.story.proofs.Linked.{put_after, put_new, put_old, put_only, same_key, between, on_in, in_on}
use Rattle.story.proofs.Facts.{Nodes}

-- a key is registered in the one as in the other
pub record Same (a b : List ℕ) (k : ℕ) : Type 0 where
  pub still : Registered a k → Registered b k
  pub already : Registered b k → Registered a k

pub record Added (a b : List ℕ) (k : ℕ) : Type 0 where
  pub before : Registered a k → ⊥
  pub after : Registered b k
  pub others : (j : ℕ) → j ≤ KEY_LIMIT → j ≢ k → Same a b j

pub record Removed (a b : List ℕ) (k : ℕ) : Type 0 where
  pub before : Registered a k
  pub after : Registered b k → ⊥
  pub others : (j : ℕ) → j ≤ KEY_LIMIT → j ≢ k → Same a b j

-- the registered keys of the one, by an event, are those of the other
abbrev pub Change : List ℕ → List ℕ → Event → Type 0
Change a b nothing = (k : ℕ) → Same a b k
Change a b (added k) = Added a b k
Change a b (removed k) = Removed a b k

-- a key's split key is that of its lowest 31 bits
cut : (k : ℕ) → regular (k % 2147483648) ≡ regular k
unfolding regular
cut k = ap (λ (x : ℕ). reverse (x + 2147483648)) (omega arith)

-- so a regular split key is odd, whatever the key
pub regular_odd_all : (k : ℕ) → regular k % 2 ≡ 1
regular_odd_all k = rw (sym (cut k)) (omega (arith, regular_odd (k % 2147483648) (omega arith)))

pub dummy_is_even : (b : ℕ) → b < 2147483648 → dummy b % 2 ≡ 0
dummy_is_even b l = omega (arith, dummy_even b l)

module _ (D N : ℕ) (c m : List ℕ) (g : Nodes D N c m) where
  -- the node that has a registered key, on the chain that the invariant names
  pub on_it : {k : ℕ} (r : Registered m k) → In r.node c
  on_it r = on_in m c g.walk r.on

  pub on : {n : ℕ} → In n c → On m n
  on i = in_on m c g.walk i

  -- between two neighbours of the chain, or after its last node, there is no key
  pub gap : (p k : ℕ) → In p c → key m p < regular k → (next_in m p ≢ 0 → regular k < key m (next_in m p)) → Registered m k → ⊥
  gap p k i lo hi r = between m p 0 1 (regular k) i (on_it r) g.walk lo hi r.has

-- the same words
pub unmoved : {m : List ℕ} (j : ℕ) → Same m m j
unmoved j = record { still = λ r. r; already = λ r. r }

-- a key for which the unmarked nodes of the one chain are those of the other
pub same_for : (D N : ℕ) (c m c' m' : List ℕ) (k : ℕ) → Nodes D N c m → Nodes D N c' m'
    → ((n : ℕ) → In n c → key m n ≡ regular k → mark m n ≡ 0 → In n c' × (mark m' n ≡ 0) × (key m' n ≡ regular k))
    → ((n : ℕ) → In n c' → key m' n ≡ regular k → mark m' n ≡ 0 → In n c × (mark m n ≡ 0) × (key m n ≡ regular k)) → Same m m' k
same_for D N c m c' m' k g g' to from = record {
  still = λ r. let q = to r.node (on_it D N c m g r) r.has r.live in
      record { node = r.node; on = in_on m' c' g'.walk q.0; live = q.1; has = q.2 };
  already = λ r. let q = from r.node (on_it D N c' m' g' r) r.has r.live in
      record { node = r.node; on = in_on m c g.walk q.0; live = q.1; has = q.2 };
}

-- the unmarked nodes of the one chain are those of the other, with their keys: nothing is added or removed
pub unchanged : (D N : ℕ) (c m c' m' : List ℕ) → Nodes D N c m → Nodes D N c' m' → ((n : ℕ) → In n c → key m' n ≡ key m n)
    → ((n : ℕ) → In n c → mark m n ≡ 0 → In n c' × (mark m' n ≡ 0)) → ((n : ℕ) → In n c' → mark m' n ≡ 0 → In n c × (mark m n ≡ 0)) → (k : ℕ) → Same m m' k
unchanged D N c m c' m' g g' ek to from k = same_for D N c m c' m' k g g'
    (λ n i e l. let q = to n i l in (q.0, q.1, ek n i ∙ e))
    (λ n i e l. let q = from n i l in (q.0, q.1, sym (ek n q.0) ∙ e))

-- L2: h is linked after p
module _ (D N : ℕ) (c m m' : List ℕ) (p h cur most : ℕ) (g : Nodes D N c m) (i : In p c) (g' : Nodes D N (put_after i h) m') (ek : (n : ℕ) → key m' n ≡ key m n)
    (el : (n : ℕ) → n ≢ p → n ≢ h → link m' n ≡ link m n) (lp : link m' p ≡ h * 2) (lh : link m' h ≡ cur * 2) (was : link m p ≡ cur * 2)
    (off : In h c → ⊥) (kh : key m h ≡ most) where
  off_h : (n : ℕ) → In n c → n ≢ h
  off_h n o e = off (rw e at o)

  live : (n : ℕ) → In n c → mark m n ≡ 0 → Dec (n ≡ p) → mark m' n ≡ 0
  live n o e (yes q) = rw (q, lp) (omega arith)
  live n o e (no ne) = rw (el n ne (off_h n o)) e

  was_live : (n : ℕ) → In n c → mark m' n ≡ 0 → Dec (n ≡ p) → mark m n ≡ 0
  was_live n o e (yes q) = rw (q, was) (omega arith)
  was_live n o e (no ne) = rw (el n ne (off_h n o)) at e

  pub linked_same : (j : ℕ) → regular j ≢ most → Same m m' j
  linked_same j ne = same_for D N c m (put_after i h) m' j g g'
      (λ n o e l. (put_old i h o, live n o l (ℕ_discrete n p), ek n ∙ e))
      (λ n o e l. let o₀ = put_only i h o (λ q. ne (sym e ∙ ek n ∙ rw q kh)) in (o₀, was_live n o₀ l (ℕ_discrete n p), sym (ek n) ∙ e))

  pub linked_adds : (k : ℕ) → most ≡ regular k → k ≤ KEY_LIMIT → key m p < most → (cur ≢ 0 → most < key m cur) → Added m m' k
  linked_adds k e b lo hi = record {
    before = gap D N c m g p k i (rw (← e) lo) (rw (np, ← e) hi);
    after = record { node = h; on = in_on m' (put_after i h) g'.walk (put_new i h); live = rw lh (omega arith); has = ek h ∙ kh ∙ e };
    others = λ j bj ne. linked_same j (λ q. ne (regular_inj j k (omega arith) (omega arith) (q ∙ e)));
  }
    where
      np : next_in m p ≡ cur
      np = rw was (omega arith)

-- D4a: cur is marked
module _ (D N : ℕ) (c m m' : List ℕ) (cur nx k : ℕ) (g : Nodes D N c m) (i : In cur c) (g' : Nodes D N c m') (ek : (n : ℕ) → key m' n ≡ key m n)
    (el : (n : ℕ) → n ≢ cur → link m' n ≡ link m n) (lc : link m' cur ≡ nx * 2 + 1) (was : link m cur ≡ nx * 2) (kc : key m cur ≡ regular k) (b : k ≤ KEY_LIMIT) where
  dead : (n : ℕ) → mark m' n ≡ 0 → n ≡ cur → ⊥
  dead n l e = omega (arith, rw (e, lc) at l)

  pub marked_removes : Removed m m' k
  marked_removes = record {
    before = record { node = cur; on = in_on m c g.walk i; live = rw was (omega arith); has = kc };
    after = λ r. dead r.node r.live (same_key m 0 1 (on_it D N c m' g' r) i g.walk (sym (ek r.node) ∙ r.has ∙ sym kc));
    others = λ j bj ne. same_for D N c m c m' j g g'
        (λ n o e l. (o, rw (el n (λ q. ne (regular_inj j k (omega arith) (omega arith) (sym e ∙ rw q kc)))) l, ek n ∙ e))
        (λ n o e l. (o, rw (el n (λ q. dead n l q)) at l, sym (ek n) ∙ e));
  }
