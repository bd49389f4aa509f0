-- A header's words, a bucket, the sweep, the end of an operation and its start: each leaves the chain as it is.
-- Assumes nothing.
use mathlib.Core.Path.{◌≡◌, refl, sym, ap, ◌∙◌}
use mathlib.Core.Logic.{◌≢◌, inl, inr, ⊎_elim}
use mathlib.Core.List.{List}
use Prim.Native.Nat.{ℕ, zero, suc, ◌^◌, ◌≤◌, ◌<◌}
use native.Mathlib.Omega.{arith}
use native.Mathlib.Decide.{ℕ_discrete}
use lib.Dec.{eqb}
use lib.ListN.{set}
use borrow.Author.Tests.{eq-eqb, ne_eqb}
use Rattle.choice.specs.Choice.{pick}
use Rattle.choice.proofs.Auto.{pick_true, pick_false}
use Rattle.choice.proofs.Cases.{by_eq, both}
use Rattle.words.specs.Words.{SPLIT_KEY, LINK, STANDING, TAKEN, put}
use Rattle.words.proofs.Laws.{nothing}
use Rattle.sets.specs.Sets.{bit, dropped, raised}
use Rattle.sets.proofs.Laws.{bit_some, dropped_same, dropped_other, dropped_lt, raised_same, raised_other, raised_lt}
use Rattle.scans.specs.Scans.{leave, sweep}
use Rattle.scans.proofs.Laws.{leave_set, leave_taken, leave_le, sweep_length, sweep_word, sweep_standing}
use Rattle.names.specs.Names.{I1, SZ, INSERT, DELETE, KEY_LIMIT}
use Rattle.header.specs.declared.Header.{Header}
use Rattle.header.specs.Header.{dummies_of, nodes_of, busied}
use Rattle.header.specs.Rows.{PowerFromTo}
use Rattle.record.specs.declared.Worker.{Worker}
use Rattle.record.specs.Worker.{fresh, idle, begun, held_key, held_dummy}
use Rattle.writes.specs.Writes.{Stores, none, into}
use Rattle.register.specs.Registered.{key, link, standing}
use Rattle.story.specs.Trace.{Quiet, Keeps}
use Rattle.story.proofs.Memory
use Rattle.story.proofs.Sane.{Sane}
use Rattle.story.proofs.Facts.{Root, Spot, i1, sz, tb, b2, b4, f1, f2, f3, f4, l2, b8, i8, i9, i10, d4a, d4b, d6, At, Busy, Fact}
use Rattle.story.proofs.Stable.{Grows}
use Rattle.story.proofs.Hands.{idle_key, idle_dummy}
use Rattle.story.proofs.Core.{Pasts, record_of, Core, Inv, shift, aside, back, not_idle}
use Rattle.story.proofs.Effects.{leave_was, swept, swept_later}
use Rattle.story.proofs.Registers.{Same, unchanged}
use Rattle.story.proofs.Acts.{free_key, free_dummy}

-- ---- the header's words that calls change
abbrev pub headed : ℕ → ℕ → ℕ → Header → Header
headed z n b h = record { m = h.m; k = h.k; w = h.w; l = h.l; size = z; count = n; busy = b }

-- no fact is about them
module _ (h : Header) (z n b v : ℕ) (c m : List ℕ) (P : ℕ → ℕ → ℕ → Type 0) where
  at_headed : (p : Spot) (x : Worker) → At h v c m P p x → At (headed z n b h) v c m P p x
  at_headed i1 x a = a
  at_headed sz x a = a
  at_headed tb x a = a
  at_headed b2 x a = a
  at_headed b4 x a = a
  at_headed f1 x a = a
  at_headed f2 x a = a
  at_headed f3 x a = a
  at_headed f4 x a = a
  at_headed l2 x a = a
  at_headed b8 x a = a
  at_headed i8 x a = a
  at_headed i9 x a = a
  at_headed i10 x a = a
  at_headed d4a x a = a
  at_headed d4b x a = a
  at_headed d6 x a = a

  pub fact_headed : (x : Worker) → Fact h v c m P x → Fact (headed z n b h) v c m P x
  fact_headed x (inl e) = inl e
  fact_headed x (inr f) = inr (record { spot = f.spot; place = f.place; sane = f.sane; held = f.held; dummy_held = f.dummy_held; at = at_headed f.spot x f.at })

-- ---- the values once a node is stored in a bucket
abbrev pub valued : Stores → (ℕ → ℕ) → ℕ → ℕ
valued none β = β
valued (into b n) β = λ i. pick (eqb i b) n (β i)

valued_same : (b n : ℕ) (β : ℕ → ℕ) → valued (into b n) β b ≡ n
valued_same b n β = pick_true (eqb b b) n (β b) (eq-eqb b b refl)

valued_other : (b n : ℕ) (β : ℕ → ℕ) (i : ℕ) → i ≢ b → valued (into b n) β i ≡ β i
valued_other b n β i ne = pick_false (eqb i b) n (β i) (ne_eqb i b ne)

-- these values keep the laws, and whatever keeps them has these values
pub keeps_valued : (M : ℕ) (st : Stores) (β : ℕ → ℕ) → Keeps M st β (valued st β)
keeps_valued M none β = λ i l. refl
keeps_valued M (into b n) β = (λ l. valued_same b n β, λ i l ne. valued_other b n β i ne)

pub by_laws : (M : ℕ) (st : Stores) (β β' : ℕ → ℕ) → Keeps M st β β' → Quiet M (valued st β) β'
by_laws M none β β' k = k
by_laws M (into b n) β β' k = λ i l. by i l (ℕ_discrete i b)
  where
    by : (i : ℕ) → i < M → Dec (i ≡ b) → β' i ≡ valued (into b n) β i
    by i l (yes e) = rw e (k.0 (rw e at l) ∙ sym (valued_same b n β))
    by i l (no ne) = k.1 i l ne ∙ sym (valued_other b n β i ne)

module _ {h : Header} {ws : List Worker} {Ps : Pasts} {w k d : ℕ} {c m : List ℕ} {β : ℕ → ℕ} (core : Core h ws Ps w k d c m β) where
  pub reheaded : (z n b : ℕ) → PowerFromTo 2 h.m z → b < 2 ^ h.w → ((v : ℕ) → v < h.w → v ≢ w → bit v b ≡ bit v h.busy)
      → ((i v : ℕ) → i ≤ nodes_of h → standing m i < 65536 → bit v (standing m i) ≡ 1 → bit v b ≡ 1) → Core (headed z n b h) ws Ps w k d c m β
  reheaded z n b size few bits waits = record {
    limits = record { buckets = core.limits.buckets; keys = core.limits.keys; workers = core.limits.workers; load = core.limits.load };
    size = size;
    few = few;
    long = core.long;
    of_nodes = core.of_nodes;
    key_held = core.key_held;
    dummy_held = core.dummy_held;
    fact = λ v l ne. fact_headed h z n b v c m (Ps v) (record_of ws v) (core.fact v l ne);
    bits = λ v l ne. rw (bits v l ne) (core.bits v l ne);
    apart = core.apart;
    key_mine = core.key_mine;
    dummy_mine = core.dummy_mine;
    whole = core.whole;
    waits = waits;
    keyed = core.keyed;
    exact = core.exact;
    root₀ = core.root₀;
    root = core.root;
  }

  -- I9, D6: the count; I10: the size
  pub recounted : (n : ℕ) → Core (headed h.size n h.busy h) ws Ps w k d c m β
  recounted n = reheaded h.size n h.busy core.size core.few (λ v l ne. refl) core.waits

  pub resized : (z : ℕ) → PowerFromTo 2 h.m z → Core (headed z h.count h.busy h) ws Ps w k d c m β
  resized z p = reheaded z h.count h.busy p core.few (λ v l ne. refl) core.waits

  -- values that are the same below M are as good
  pub reread : {β' : ℕ → ℕ} → Quiet h.m β β' → Core h ws Ps w k d c m β'
  reread {β'} same = record {
    limits = core.limits;
    size = core.size;
    few = core.few;
    long = core.long;
    of_nodes = core.of_nodes;
    key_held = core.key_held;
    dummy_held = core.dummy_held;
    fact = core.fact;
    bits = core.bits;
    apart = core.apart;
    key_mine = core.key_mine;
    dummy_mine = core.dummy_mine;
    whole = core.whole;
    waits = core.waits;
    keyed = core.keyed;
    exact = core.exact;
    root₀ = λ z. core.root₀ (sym (same 0 (omega (arith, core.limits.buckets.0))) ∙ z);
    root = λ i l z. rw (same i l) (core.root i l (λ e. z (same i l ∙ e)));
  }

  -- B8: a bucket is set to its dummy
  pub stored : (b n : ℕ) → b < h.m → n ≢ 0 → Root (dummies_of h) c m b n → Core h ws Ps w k d c m (valued (into b n) β)
  stored b n lt ne o = record {
    limits = core.limits;
    size = core.size;
    few = core.few;
    long = core.long;
    of_nodes = core.of_nodes;
    key_held = core.key_held;
    dummy_held = core.dummy_held;
    fact = core.fact;
    bits = core.bits;
    apart = core.apart;
    key_mine = core.key_mine;
    dummy_mine = core.dummy_mine;
    whole = core.whole;
    waits = core.waits;
    keyed = core.keyed;
    exact = core.exact;
    root₀ = first (ℕ_discrete 0 b);
    root = λ i l. root i l (ℕ_discrete i b);
  }
    where
      here : valued (into b n) β b ≡ n
      here = valued_same b n β

      first : Dec (0 ≡ b) → valued (into b n) β 0 ≢ 0
      first (yes e) z = ne (sym here ∙ ap (valued (into b n) β) (sym e) ∙ z)
      first (no q) z = core.root₀ (sym (valued_other b n β 0 q) ∙ z)

      root : (i : ℕ) → i < h.m → Dec (i ≡ b) → valued (into b n) β i ≢ 0 → Root (dummies_of h) c m i (valued (into b n) β i)
      root i l (yes e) z = rw (e, here) o
      root i l (no q) z = rw (valued_other b n β i q) (core.root i l (rw (valued_other b n β i q) at z))

-- ---- the sweep
module _ {h : Header} {ws : List Worker} {Ps : Pasts} {w : ℕ} {c m : List ℕ} {β : ℕ → ℕ} (core : Core h ws Ps w 0 0 c m β) where
  abbrev m' : List ℕ
  m' = sweep w (nodes_of h) m

  sk : (n : ℕ) → key m' n ≡ key m n
  sk n = sweep_word w (nodes_of h) m n SPLIT_KEY (omega arith) (omega arith)

  sl : (n : ℕ) → link m' n ≡ link m n
  sl n = sweep_word w (nodes_of h) m n LINK (omega arith) (omega arith)

  ss : (n : ℕ) → 1 ≤ n → n ≤ nodes_of h → standing m' n ≡ leave w (standing m n)
  ss n a b = sweep_standing w (nodes_of h) m n a b (omega (arith, core.of_nodes.size))

  was_taken : (n : ℕ) → n ≤ nodes_of h → standing m' n ≡ TAKEN → standing m n ≡ TAKEN
  was_taken zero b t = let z : standing m' 0 ≡ 0 = nothing m' 2 in absurd (omega arith)
  was_taken (suc n) b t = ⊎_elim (λ a. absurd (omega (arith, leave_le w (standing m (suc n)), ss (suc n) (omega arith) b))) (λ e. e) (core.of_nodes.kinds (suc n) b)

  -- who is waited for afterwards was before, and is not w
  still : (n v : ℕ) → n ≤ nodes_of h → standing m' n < 65536 → bit v (standing m' n) ≡ 1 → (bit v h.busy ≡ 1) × (v ≢ w)
  still zero v b a e = let z : standing m' 0 ≡ 0 = nothing m' 2 in absurd (omega (arith, bit_some v (standing m' 0) e))
  still (suc n) v b a e = ⊎_elim set taken (core.of_nodes.kinds (suc n) b)
    where
      is : standing m' (suc n) ≡ leave w (standing m (suc n))
      is = ss (suc n) (omega arith) b

      taken : standing m (suc n) ≡ TAKEN → (bit v h.busy ≡ 1) × (v ≢ w)
      taken q = absurd (omega (arith, is, leave_taken w (standing m (suc n)) (omega arith)))

      set : standing m (suc n) < 65536 → (bit v h.busy ≡ 1) × (v ≢ w)
      set q = by (ℕ_discrete v w)
        where
          drop : standing m' (suc n) ≡ dropped w (standing m (suc n))
          drop = is ∙ leave_set w (standing m (suc n)) (omega arith)

          by : Dec (v ≡ w) → (bit v h.busy ≡ 1) × (v ≢ w)
          by (yes y) = absurd (omega (arith, dropped_same w (standing m (suc n)), rw (drop, y) at e))
          by (no y) = (core.waits (suc n) v b q (sym (dropped_other v w (standing m (suc n)) y) ∙ (rw drop at e)), y)

  -- a node that waits afterwards waited before
  keyed : (n : ℕ) → n ≤ nodes_of h → 1 ≤ standing m' n → standing m' n < 65536 → dummies_of h < n
  keyed zero b lo hi = absurd (omega (arith, nothing m' 2))
  keyed (suc n) b lo hi =
      let e = ss (suc n) (omega arith) b in
      let q = leave_was w (standing m (suc n)) (core.of_nodes.kinds (suc n) b) (rw e at lo) (rw e at hi) in
      core.keyed (suc n) b q.0 q.1

  pub sweeps : Core h ws Ps w 0 0 c m' β
  sweeps = shift core {g = 0} (record {
    of_nodes = swept (dummies_of h) (nodes_of h) w c m m' core.of_nodes (sweep_length w (nodes_of h) m) sk sl ss;
    later = λ v ne t. swept_later (dummies_of h) (nodes_of h) w c m m' core.of_nodes (sweep_length w (nodes_of h) m) sk sl ss v 0 ne;
    touch = inl refl;
    key_held = λ y. absurd (y refl);
    dummy_held = λ y. absurd (y refl);
    key_from = inl refl;
    dummy_from = inl refl;
    was = λ n b t. inl (was_taken n b t);
    stays = λ n t i. i;
    own = λ n t o. inr o;
    waits = λ n v b a e. (still n v b a e).0;
    keyed = keyed;
    exact = λ n i b. rw (sk n) (core.exact n i b);
    roots = λ n i b. (i, sk n);
  })

  pub leaves : Core (headed h.size h.count (dropped w h.busy) h) ws Ps w 0 0 c m' β
  leaves = reheaded sweeps h.size h.count (dropped w h.busy) core.size (dropped_lt w h.w h.busy core.few)
      (λ v l ne. dropped_other v w h.busy ne)
      (λ n v b a e. let q = still n v b a e in dropped_other v w h.busy q.1 ∙ q.0)

-- ---- the end of an operation
module _ {h : Header} {ws : List Worker} {Ps : Pasts} {w k d : ℕ} {c m : List ℕ} {β : ℕ → ℕ} (core : Core h ws Ps w k d c m β) where
  abbrev pub freed_both : List ℕ
  freed_both = put (put m k STANDING 0) d STANDING 0

  quiet : Core (headed h.size h.count (dropped w h.busy) h) ws Ps w 0 0 c (sweep w (nodes_of h) freed_both) β
  quiet = leaves (free_dummy (free_key core))

  pub ends : w < h.w → (Qs : Pasts) → ((v : ℕ) → v ≢ w → Grows (Ps v) (Qs v))
      → Inv (busied (dropped w h.busy) h) (set ws w idle) Qs c (sweep w (nodes_of h) freed_both) β
  ends lt Qs up = back quiet lt idle Qs up (inl refl) (inl (refl, dropped_same w h.busy)) idle_key idle_dummy

  pub ends_same : (j : ℕ) → Same m (sweep w (nodes_of h) freed_both) j
  ends_same = unchanged (dummies_of h) (nodes_of h) c m c (sweep w (nodes_of h) freed_both) core.of_nodes quiet.of_nodes
      (λ n i. ek n) (λ n i l. (i, rw (el n) l)) (λ n i l. (i, rw (el n) at l))
    where
      ek : (n : ℕ) → key (sweep w (nodes_of h) freed_both) n ≡ key m n
      ek n = sweep_word w (nodes_of h) freed_both n SPLIT_KEY (omega arith) (omega arith) ∙ Memory.key_of_standing (put m k STANDING 0) d 0 n ∙ Memory.key_of_standing m k 0 n

      el : (n : ℕ) → link (sweep w (nodes_of h) freed_both) n ≡ link m n
      el n = sweep_word w (nodes_of h) freed_both n LINK (omega arith) (omega arith) ∙ Memory.link_of_standing (put m k STANDING 0) d 0 n ∙ Memory.link_of_standing m k 0 n

-- ---- the start of an operation
begun_key : (kind k : ℕ) → held_key (begun kind k) ≡ 0
unfolding held_key begun
begun_key kind k = both (λ (y : ℕ). y ≡ 0) _ refl refl

begun_dummy : (kind k : ℕ) → held_dummy (begun kind k) ≡ 0
unfolding held_dummy begun
begun_dummy kind k = both (λ (y : ℕ). y ≡ 0) _ refl refl

module _ {h : Header} {ws : List Worker} {Ps : Pasts} {c m : List ℕ} {β : ℕ → ℕ} (inv : Inv h ws Ps c m β) (w kind k : ℕ) (lt : w < h.w) (rest : record_of ws w ≡ idle)
    (known : (INSERT ≤ kind) × (kind ≤ DELETE)) (low : k ≤ KEY_LIMIT) where
  abbrev h' : Header
  h' = busied (raised w h.busy) h

  w32 : w < 32
  w32 = omega (arith, inv.limits.workers.1)

  ready : Core h ws Ps w 0 0 c m β
  ready = rw (rest, idle_key, idle_dummy) at (aside inv w lt)

  opened : Core h' ws Ps w 0 0 c m β
  opened = reheaded ready h.size h.count (raised w h.busy) inv.size (raised_lt w h.w h.busy lt inv.few)
      (λ v l ne. raised_other v w h.busy ne) (λ n v b a e. up v (ℕ_discrete v w) (inv.waits n v b a e))
    where
      up : (v : ℕ) → Dec (v ≡ w) → bit v h.busy ≡ 1 → bit v (raised w h.busy) ≡ 1
      up v (yes e) b = rw e (raised_same w h.busy w32)
      up v (no ne) b = raised_other v w h.busy ne ∙ b

  module _ (Q : ℕ → ℕ → ℕ → Type 0) where
    Fits : ℕ → Type 0
    Fits p = Busy h' w c m Q (fresh p kind k)

    begins : Busy h' w c m Q (begun kind k)
    unfolding begun Fits
    begins = by_eq (λ (p : ℕ). Fits p) kind INSERT
        (λ e. record { spot = i1; place = refl; sane = sane I1; held = λ z. absurd (z refl); dummy_held = λ z. absurd (z refl); at = e })
        (λ ne. record { spot = sz; place = refl; sane = sane SZ; held = λ z. absurd (z (by_eq (λ (y : ℕ). y ≡ 0) kind INSERT (λ e. absurd (ne e)) (λ _. refl))); dummy_held = λ z. absurd (z refl); at = λ e. absurd (ne e) })
      where
        some : 0 < h.m
        some = omega (arith, inv.limits.buckets.0)

        sane : (p : ℕ) → Sane h' (fresh p kind k)
        sane p = record { some = omega arith; kind = omega arith; errand = omega arith; key = low; wanted = some; making = some; start = omega arith; prev = omega arith; cur = omega arith; next = omega arith; held = omega arith; dummy = omega arith }

  pub starts : (Qs : Pasts) → ((v : ℕ) → v ≢ w → Grows (Ps v) (Qs v)) → Inv h' (set ws w (begun kind k)) Qs c m β
  starts Qs up = back opened lt (begun kind k) Qs up (inr b) (inr (λ e. not_idle b.spot (sym b.place ∙ e), raised_same w h.busy w32))
      (begun_key kind k) (begun_dummy kind k)
    where
      b : Busy h' w c m (Qs w) (begun kind k)
      b = begins (Qs w)
