-- The registered keys make a list that events lengthen and shorten; each has a node of its own on the chain, so there are at most as many as nodes.
-- Assumes nothing.
use mathlib.Core.Path.{◌≡◌, refl, sym, ap, ◌∙◌}
use mathlib.Core.Logic.{◌≢◌, inl, inr}
use mathlib.Core.Bool.{Bool}
use mathlib.Core.List.Memᴰ
use mathlib.Core.List.Memᴰ.{head as here}
use mathlib.Core.List.Memᴰ.{tail as there}
use mathlib.Core.List.{List, [], ◌∷◌, Memᴰ as In}
use Prim.Native.Nat.{ℕ, zero, suc, ◌+◌, ◌≤◌, ◌<◌}
use native.Mathlib.Omega.{arith}
use native.Mathlib.Decide.{ℕ_discrete}
use lib.ListN.{length}
use Rattle.split.specs.Split.{regular}
use Rattle.split.proofs.Laws.{regular_inj}
use Rattle.names.specs.Names.{IDLE, KEY_LIMIT}
use Rattle.header.specs.Header.{nodes_of, dummies_of}
use Rattle.record.specs.declared.Worker.{Worker}
use Rattle.register.specs.Registered.{key, Registered}
use Rattle.register.specs.Events.{Event, nothing, added, removed, adds, removes, all, took_effect}
use Rattle.story.specs.Shared.{worker_of}
use Rattle.story.specs.Story.{tallied}
use Rattle.story.specs.Trace.{Trace, state, answer_at, event_at}
use Rattle.story.proofs.Registers.{Change}
use Rattle.slots.proofs.Distinct.{without, Distinct, was_in, stays_in, still_distinct, gone, one_less, pigeonhole}
use Rattle.story.proofs.Linked.{on_in, some_on}
use Rattle.story.proofs.Facts.{Nodes, Fact}
use Rattle.story.proofs.Steps.{Turned}
use Rattle.story.proofs.Tally.{one}
use Rattle.story.proofs.Calls.{Tale, refused, begins, goes, ends}
use Rattle.story.proofs.Theorem.{Past, good, made_at, changes, none_yet}

-- ---- the nodes of a list of registered keys
module _ (D N : ℕ) (c m : List ℕ) (g : Nodes D N c m) where
  nodes : (ks : List ℕ) → ((k : ℕ) → In k ks → Registered m k) → List ℕ
  nodes [] f = []
  nodes (k ∷ ks) f = (f k (here refl)).node ∷ nodes ks (λ j i. f j (there i))

  as_many : (ks : List ℕ) (f : (k : ℕ) → In k ks → Registered m k) → length (nodes ks f) ≡ length ks
  unfolding nodes
  as_many [] f = refl
  as_many (k ∷ ks) f = ap suc (as_many ks (λ j i. f j (there i)))

  -- each is the node of one of the keys
  record Of (ks : List ℕ) (n : ℕ) : Type 0 where
    whose : ℕ
    among : In whose ks
    on : In n c
    has : key m n ≡ regular whose

  of : (ks : List ℕ) (f : (k : ℕ) → In k ks → Registered m k) {n : ℕ} → In n (nodes ks f) → Of ks n
  unfolding nodes
  of [] f {n = n} x = elim x [ ]
  of (k ∷ ks) f {n} (here e) = let r = f k (here refl) in record { whose = k; among = here refl; on = rw e (on_in m c g.walk r.on); has = rw e r.has }
  of (k ∷ ks) f (there i) = let o = of ks (λ j i. f j (there i)) i in record { whose = o.whose; among = there o.among; on = o.on; has = o.has }

  apart : (ks : List ℕ) (f : (k : ℕ) → In k ks → Registered m k) → ((k : ℕ) → In k ks → k ≤ KEY_LIMIT) → Distinct ks → Distinct (nodes ks f)
  unfolding nodes
  apart [] f l d = tt
  apart (k ∷ ks) f l d = (λ i. clash (of ks (λ j i. f j (there i)) i), apart ks (λ j i. f j (there i)) (λ j i. l j (there i)) d.1)
    where
      clash : Of ks (f k (here refl)).node → ⊥
      clash o =
          let e : k ≡ o.whose = regular_inj k o.whose (omega (arith, l k (here refl))) (omega (arith, l o.whose (there o.among))) (sym (f k (here refl)).has ∙ o.has) in
          d.0 (Memᴰ.cast e o.among)

  pub no_more : (ks : List ℕ) (f : (k : ℕ) → In k ks → Registered m k) → ((k : ℕ) → In k ks → k ≤ KEY_LIMIT) → Distinct ks → length ks ≤ N
  no_more ks f l d = rw (← as_many ks f) (pigeonhole N (nodes ks f) (apart ks f l d) (λ n i. let o = of ks f i in (some_on m 0 1 o.on g.walk, g.fits n o.on)))

-- ---- the registered keys along a run
-- an event's key is one that a call may name
abbrev Limited : Event → Type 0
Limited nothing = Unit {0}
Limited (added k) = k ≤ KEY_LIMIT
Limited (removed k) = k ≤ KEY_LIMIT

limited : (r : Trace) (i : ℕ) → Limited (event_at r i)
limited r i = by (made_at r i (good r i)).tale
  where
    low : (v : ℕ) → v < (state r i).header.w → (worker_of (state r i) v).place ≢ IDLE → (worker_of (state r i) v).key ≤ KEY_LIMIT
    low v l nb = of_fact ((good r i).inv.fact v l (omega arith))
      where
        of_fact : Fact (state r i).header v (good r i).chain (state r i).nodes (Past r i v) (worker_of (state r i) v) → (worker_of (state r i) v).key ≤ KEY_LIMIT
        of_fact (inl e) = absurd (nb (rw e refl))
        of_fact (inr b) = b.sane.key

    by_event : (x : Worker) (a b : Bool) (ev : Event) → Turned x a b ev → x.key ≤ KEY_LIMIT → Limited ev
    by_event x a b nothing t l = tt
    by_event x a b (added k) t l = rw t.3 l
    by_event x a b (removed k) t l = rw t.3 l

    by : Tale (state r i) (Past r i) (r.call i) (answer_at r i) (state r (suc i)) (event_at r i) → Limited (event_at r i)
    by (refused ew en rf hc) = rw en tt
    by (begins v kind k q l ew en ea hc xi) = rw en tt
    by (goes v q l y ew ek ey nb tn ea ty) = by_event (worker_of (state r i) v) (took_effect (worker_of (state r i) v)) (took_effect y) (event_at r i) tn (low v l nb)
    by (ends v q l ew en nb td ty) = rw en tt

-- the list after one event, over any tables and any sums
record Listed (ns ks : List ℕ) (up down : ℕ) : Type 0 where
  distinct : Distinct ks
  there_all : (k : ℕ) → In k ks → Registered ns k × (k ≤ KEY_LIMIT)
  all_there : (k : ℕ) → k ≤ KEY_LIMIT → Registered ns k → In k ks
  total : up ≡ down + length ks

abbrev list_by : Event → List ℕ → List ℕ
list_by nothing ks = ks
list_by (added k) ks = k ∷ ks
list_by (removed k) ks = without k ks

listed : (a b ks : List ℕ) (up down : ℕ) (ev : Event) → Change a b ev → Limited ev → Listed a ks up down → Listed b (list_by ev ks) (adds all ev + up) (removes all ev + down)
listed a b ks up down nothing c l o = record {
  distinct = o.distinct;
  there_all = λ k i. ((c k).still (o.there_all k i).0, (o.there_all k i).1);
  all_there = λ k p q. o.all_there k p ((c k).already q);
  total = omega (arith, o.total);
}
listed a b ks up down (added j) c l o = record {
  distinct = (λ i. c.before (o.there_all j i).0, o.distinct);
  there_all = there_all;
  all_there = λ k p q. by k p q (ℕ_discrete k j);
  total = omega (arith, o.total, one);
}
  where
    there_all : (k : ℕ) → In k (j ∷ ks) → Registered b k × (k ≤ KEY_LIMIT)
    there_all k (here e) = rw e (c.after, l)
    there_all k (there i) = let q = o.there_all k i in ((c.others k q.1 (λ e. c.before (rw e at q.0))).still q.0, q.1)

    by : (k : ℕ) → k ≤ KEY_LIMIT → Registered b k → Dec (k ≡ j) → In k (j ∷ ks)
    by k p q (yes e) = here e
    by k p q (no ne) = there (o.all_there k p ((c.others k p ne).already q))
listed a b ks up down (removed j) c l o = record {
  distinct = still_distinct j ks o.distinct;
  there_all = λ k i. let q = o.there_all k (was_in j ks i) in
      ((c.others k q.1 (λ e. gone j ks o.distinct (Memᴰ.cast (sym e) i))).still q.0, q.1);
  all_there = λ k p q. let ne : k ≢ j = λ e. c.after (rw e at q) in stays_in j ks ne (o.all_there k p ((c.others k p ne).already q));
  total = omega (arith, o.total, one, one_less j ks (o.all_there j l c.before));
}

-- inserts and deletes in effect in the first i calls
abbrev pub additions : Trace → ℕ → ℕ
additions r i = tallied (adds all) (event_at r) i

abbrev pub removals : Trace → ℕ → ℕ
removals r i = tallied (removes all) (event_at r) i

pub record Listing (r : Trace) (i : ℕ) : Type 0 where
  ks : List ℕ
  is : Listed (state r i).nodes ks (additions r i) (removals r i)

listing : (r : Trace) (i : ℕ) → Listing r i
listing r zero = record { ks = []; is = record { distinct = tt; there_all = λ k i. absurd (nobody i); all_there = λ k p q. absurd (none_yet r k q); total = refl } }
  where
    nobody : {k : ℕ} → In k [] → ⊥
    nobody i = Memᴰ.not-nil i
listing r (suc i) =
    let o = listing r i in
    record { ks = list_by (event_at r i) o.ks; is = listed (state r i).nodes (state r (suc i)).nodes o.ks (additions r i) (removals r i) (event_at r i) (changes r i) (limited r i) o.is }

-- inserts in effect less deletes in effect: not below 0, and not above the nodes
pub bounded : (r : Trace) (i : ℕ) → (removals r i ≤ additions r i) × (additions r i ≤ removals r i + nodes_of (state r i).header)
bounded r i =
    let o = listing r i in
    let g = good r i in
    let b = no_more (dummies_of (state r i).header) (nodes_of (state r i).header) g.chain (state r i).nodes g.inv.of_nodes o.ks (λ k p. (o.is.there_all k p).0) (λ k p. (o.is.there_all k p).1) o.is.distinct in
    (omega (arith, o.is.total), omega (arith, o.is.total, b))
