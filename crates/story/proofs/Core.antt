-- The invariant of the register with one worker set aside, so that a change of the nodes is proved once and the worker's own new fact apart.
-- Assumes nothing.
use mathlib.Core.Path.{◌≡◌, refl, sym, ◌∙◌}
use mathlib.Core.Logic.{◌≢◌, ◌⊎◌, inl, inr, ⊎_elim}
use mathlib.Core.List.{List, Memᴰ as In}
use Prim.Native.Nat.{ℕ, ◌^◌, ◌≤◌, ◌<◌}
use native.Mathlib.Omega.{arith}
use native.Mathlib.Decide.{ℕ_discrete}
use lib.ListN.{length, get_or, set, length-set}
use lib.Seq.{get_or-set_same, get_or-set_other}
use Rattle.words.specs.Words.{TAKEN}
use Rattle.sets.specs.Sets.{bit}
use Rattle.names.specs.Names.{IDLE}
use Rattle.header.specs.declared.Header.{Header}
use Rattle.header.specs.Header.{dummies_of, nodes_of}
use Rattle.header.specs.Rows.{Limits, PowerFromTo}
use Rattle.record.specs.declared.Worker.{Worker}
use Rattle.record.specs.Worker.{idle, held_key, held_dummy}
use Rattle.register.specs.Registered.{key, standing}
use Rattle.words.proofs.Laws.{nothing}
use Rattle.story.proofs.Facts.{Held, Nodes, OfBucket, Root, Spot, number, i1, sz, tb, b2, b4, f1, f2, f3, f4, l2, b8, i8, i9, i10, d4a, d4b, d6, key_of, dummy_of, Fact, Later}
use Rattle.story.proofs.Stable as st
use Rattle.story.proofs.Effects.{same}
use Rattle.story.proofs.Hands.{key_is, dummy_is, idle_key, idle_dummy}

-- what own steps saw, for each worker
abbrev pub Pasts : Type 1
Pasts = ℕ → ℕ → ℕ → ℕ → Type 0

abbrev pub record_of : List Worker → ℕ → Worker
record_of ws v = get_or ws v idle

-- a record and its busy bit
abbrev pub Agrees : Worker → ℕ → Type 0
Agrees x b = ((x.place ≡ IDLE) × (b ≡ 0)) ⊎ ((x.place ≢ IDLE) × (b ≡ 1))

-- no two of them hold one node
abbrev pub Apart : Worker → Worker → Type 0
Apart x y = (held_key x ≢ 0 → held_key x ≢ held_key y) × (held_dummy x ≢ 0 → held_dummy x ≢ held_dummy y)

-- another worker than w holds node n
pub record Holder (W : ℕ) (ws : List Worker) (w n : ℕ) : Type 0 where
  pub who : ℕ
  pub real : who < W
  pub other : who ≢ w
  pub has : (held_key (record_of ws who) ≡ n) ⊎ (held_dummy (record_of ws who) ≡ n)

-- worker w, whose record is not looked at, holds nodes k and d, 0 for none; β is the value of each bucket
pub record Core (h : Header) (ws : List Worker) (Ps : Pasts) (w k d : ℕ) (c m : List ℕ) (β : ℕ → ℕ) : Type 0 where
  pub limits : Limits h
  pub size : PowerFromTo 2 h.m h.size
  pub few : h.busy < 2 ^ h.w
  pub long : h.w ≤ length ws
  pub of_nodes : Nodes (dummies_of h) (nodes_of h) c m
  pub key_held : k ≢ 0 → Held (dummies_of h) (nodes_of h) c m k
  pub dummy_held : d ≢ 0 → Held 0 (dummies_of h) c m d
  pub fact : (v : ℕ) → v < h.w → v ≢ w → Fact h v c m (Ps v) (record_of ws v)
  pub bits : (v : ℕ) → v < h.w → v ≢ w → Agrees (record_of ws v) (bit v h.busy)
  pub apart : (u v : ℕ) → u < h.w → v < h.w → u ≢ w → v ≢ w → u ≢ v → Apart (record_of ws u) (record_of ws v)
  pub key_mine : (v : ℕ) → v < h.w → v ≢ w → k ≢ 0 → held_key (record_of ws v) ≢ k
  pub dummy_mine : (v : ℕ) → v < h.w → v ≢ w → d ≢ 0 → held_dummy (record_of ws v) ≢ d
  pub whole : (n : ℕ) → n ≤ nodes_of h → standing m n ≡ TAKEN → In n c ⊎ ((k ≡ n) ⊎ (d ≡ n)) ⊎ Holder h.w ws w n
  pub waits : (n v : ℕ) → n ≤ nodes_of h → standing m n < 65536 → bit v (standing m n) ≡ 1 → bit v h.busy ≡ 1
  pub keyed : (n : ℕ) → n ≤ nodes_of h → 1 ≤ standing m n → standing m n < 65536 → dummies_of h < n
  pub exact : (n : ℕ) → In n c → n ≤ dummies_of h → OfBucket h.m (key m n)
  pub root₀ : β 0 ≢ 0
  pub root : (b : ℕ) → b < h.m → β b ≢ 0 → Root (dummies_of h) c m b (β b)

-- the invariant: nobody is set aside
abbrev pub Inv : Header → List Worker → Pasts → List ℕ → List ℕ → (ℕ → ℕ) → Type 0
Inv h ws Ps c m β = Core h ws Ps h.w 0 0 c m β

-- a busy record's place is none of an idle one
pub not_idle : (p : Spot) → number p ≢ 0
not_idle i1 e = omega arith
not_idle sz e = omega arith
not_idle tb e = omega arith
not_idle b2 e = omega arith
not_idle b4 e = omega arith
not_idle f1 e = omega arith
not_idle f2 e = omega arith
not_idle f3 e = omega arith
not_idle f4 e = omega arith
not_idle l2 e = omega arith
not_idle b8 e = omega arith
not_idle i8 e = omega arith
not_idle i9 e = omega arith
not_idle i10 e = omega arith
not_idle d4a e = omega arith
not_idle d4b e = omega arith
not_idle d6 e = omega arith

-- what is held by a record whose fact is known
module _ (h : Header) (v : ℕ) (c m : List ℕ) (P : ℕ → ℕ → ℕ → Type 0) (x : Worker) where
  pub fact_key : Fact h v c m P x → held_key x ≢ 0 → Held (dummies_of h) (nodes_of h) c m (held_key x)
  fact_key (inl e) z = absurd (z (rw e idle_key))
  fact_key (inr b) z = rw (key_is h v c m P x b) (b.held (λ q. z (key_is h v c m P x b ∙ q))).held

  pub fact_dummy : Fact h v c m P x → held_dummy x ≢ 0 → Held 0 (dummies_of h) c m (held_dummy x)
  fact_dummy (inl e) z = absurd (z (rw e idle_dummy))
  fact_dummy (inr b) z = rw (dummy_is h v c m P x b) (b.dummy_held (λ q. z (dummy_is h v c m P x b ∙ q))).held

-- what own steps saw may grow
pub grown : (h : Header) (v : ℕ) (c m : List ℕ) (P Q : ℕ → ℕ → ℕ → Type 0) → st.Grows P Q → (x : Worker) → Fact h v c m P x → Fact h v c m Q x
grown h v c m P Q up x (inl e) = inl e
grown h v c m P Q up x (inr b) = inr (st.busy h v 0 c m c m (same (dummies_of h) (nodes_of h) v 0 c m) P Q up x b (λ z. z) (λ z. z))

-- ---- a worker is set aside, and comes back
module _ {h : Header} {ws : List Worker} {Ps : Pasts} {c m : List ℕ} {β : ℕ → ℕ} (inv : Inv h ws Ps c m β) (w : ℕ) (lt : w < h.w) where
  pub whose : Fact h w c m (Ps w) (record_of ws w)
  whose = inv.fact w lt (omega arith)

  pub aside : Core h ws Ps w (held_key (record_of ws w)) (held_dummy (record_of ws w)) c m β
  aside = record {
    limits = inv.limits;
    size = inv.size;
    few = inv.few;
    long = inv.long;
    of_nodes = inv.of_nodes;
    key_held = fact_key h w c m (Ps w) (record_of ws w) whose;
    dummy_held = fact_dummy h w c m (Ps w) (record_of ws w) whose;
    fact = λ v l ne. inv.fact v l (omega arith);
    bits = λ v l ne. inv.bits v l (omega arith);
    apart = λ u v a b p q. inv.apart u v a b (omega arith) (omega arith);
    key_mine = λ v l ne z e. (inv.apart w v lt l (omega arith) (omega arith) (λ q. ne (sym q))).0 z (sym e);
    dummy_mine = λ v l ne z e. (inv.apart w v lt l (omega arith) (omega arith) (λ q. ne (sym q))).1 z (sym e);
    whole = λ n f t. ⊎_elim inl (λ o. inr (⊎_elim (⊎_elim (nobody n t) (nobody n t)) (λ a. by_who n a (ℕ_discrete a.who w)) o)) (inv.whole n f t);
    waits = inv.waits;
    keyed = inv.keyed;
    exact = inv.exact;
    root₀ = inv.root₀;
    root = inv.root;
  }
    where
      nobody : {A : Type 0} (n : ℕ) → standing m n ≡ TAKEN → 0 ≡ n → A
      nobody n t e = let z : standing m n ≡ 0 = rw (← e) (nothing m 2) in absurd (omega arith)

      by_who : (n : ℕ) → (a : Holder h.w ws h.w n) → Dec (a.who ≡ w) → ((held_key (record_of ws w) ≡ n) ⊎ (held_dummy (record_of ws w) ≡ n)) ⊎ Holder h.w ws w n
      by_who n a (yes e) = inl (rw e at a.has)
      by_who n a (no ne) = inr (record { who = a.who; real = a.real; other = ne; has = a.has })

module _ {h : Header} {ws : List Worker} {Ps : Pasts} {w k d : ℕ} {c m : List ℕ} {β : ℕ → ℕ} (core : Core h ws Ps w k d c m β) (lt : w < h.w) (y : Worker)
    (Qs : Pasts) (up : (v : ℕ) → v ≢ w → st.Grows (Ps v) (Qs v)) (f : Fact h w c m (Qs w) y) (ag : Agrees y (bit w h.busy))
    (ek : held_key y ≡ k) (ed : held_dummy y ≡ d) where
  abbrev ws' : List Worker
  ws' = set ws w y

  here_is : record_of ws' w ≡ y
  here_is = get_or-set_same ws w y idle (omega (arith, core.long))

  there_is : (v : ℕ) → v ≢ w → record_of ws' v ≡ record_of ws v
  there_is v ne = get_or-set_other ws w v y idle ne

  pub back : Inv h ws' Qs c m β
  back = record {
    limits = core.limits;
    size = core.size;
    few = core.few;
    long = rw (length-set ws w y) core.long;
    of_nodes = core.of_nodes;
    key_held = λ z. absurd (z refl);
    dummy_held = λ z. absurd (z refl);
    fact = λ v l ne. fact v l (ℕ_discrete v w);
    bits = λ v l ne. bits v l (ℕ_discrete v w);
    apart = λ u v a b p q ne. apart u v a b ne (ℕ_discrete u w) (ℕ_discrete v w);
    key_mine = λ v l ne z. absurd (z refl);
    dummy_mine = λ v l ne z. absurd (z refl);
    whole = λ n f t. ⊎_elim inl (λ o. inr (inr (⊎_elim (own n) (other n) o))) (core.whole n f t);
    waits = core.waits;
    keyed = core.keyed;
    exact = core.exact;
    root₀ = core.root₀;
    root = core.root;
  }
    where
      fact : (v : ℕ) → v < h.w → Dec (v ≡ w) → Fact h v c m (Qs v) (record_of ws' v)
      fact v l (yes e) = rw (e, here_is) f
      fact v l (no ne) = rw (there_is v ne) (grown h v c m (Ps v) (Qs v) (up v ne) (record_of ws v) (core.fact v l ne))

      bits : (v : ℕ) → v < h.w → Dec (v ≡ w) → Agrees (record_of ws' v) (bit v h.busy)
      bits v l (yes e) = rw (e, here_is) ag
      bits v l (no ne) = rw (there_is v ne) (core.bits v l ne)

      key_other : (v : ℕ) → v < h.w → v ≢ w → held_key (record_of ws v) ≡ held_key y → held_key (record_of ws v) ≡ 0
      key_other v l ne e = zero (ℕ_discrete k 0)
        where
          zero : Dec (k ≡ 0) → held_key (record_of ws v) ≡ 0
          zero (yes z) = e ∙ ek ∙ z
          zero (no z) = absurd (core.key_mine v l ne z (e ∙ ek))

      dummy_other : (v : ℕ) → v < h.w → v ≢ w → held_dummy (record_of ws v) ≡ held_dummy y → held_dummy (record_of ws v) ≡ 0
      dummy_other v l ne e = zero (ℕ_discrete d 0)
        where
          zero : Dec (d ≡ 0) → held_dummy (record_of ws v) ≡ 0
          zero (yes z) = e ∙ ed ∙ z
          zero (no z) = absurd (core.dummy_mine v l ne z (e ∙ ed))

      apart : (u v : ℕ) → u < h.w → v < h.w → u ≢ v → Dec (u ≡ w) → Dec (v ≡ w) → Apart (record_of ws' u) (record_of ws' v)
      apart u v a b ne (yes p) (yes q) = absurd (ne (p ∙ sym q))
      apart u v a b ne (yes p) (no q) =
          rw (p, here_is, there_is v q) (λ z e. z (e ∙ key_other v b q (sym e)), λ z e. z (e ∙ dummy_other v b q (sym e)))
      apart u v a b ne (no p) (yes q) =
          rw (q, here_is, there_is u p) (λ z e. z (key_other u a p e), λ z e. z (dummy_other u a p e))
      apart u v a b ne (no p) (no q) = rw (there_is u p, there_is v q) (core.apart u v a b p q ne)

      own : (n : ℕ) → (k ≡ n) ⊎ (d ≡ n) → Holder h.w ws' h.w n
      own n o = record { who = w; real = lt; other = omega arith; has = rw here_is (⊎_elim (λ e. inl (ek ∙ e)) (λ e. inr (ed ∙ e)) o) }

      other : (n : ℕ) → Holder h.w ws w n → Holder h.w ws' h.w n
      other n a = record { who = a.who; real = a.real; other = omega (arith, a.real); has = rw (there_is a.who a.other) a.has }

-- ---- the nodes change: what is to be shown of it; g is the node that the worker has in hand there, 0 for none
pub record Shift (h : Header) (w k d k' d' g : ℕ) (c m c' m' : List ℕ) : Type 0 where
  pub of_nodes : Nodes (dummies_of h) (nodes_of h) c' m'
  pub later : (v : ℕ) → v ≢ w → bit v h.busy ≡ 1 → Later (dummies_of h) (nodes_of h) v g c m c' m'
  pub touch : (g ≡ 0) ⊎ ((g ≡ k) ⊎ (g ≡ d))
  pub key_held : k' ≢ 0 → Held (dummies_of h) (nodes_of h) c' m' k'
  pub dummy_held : d' ≢ 0 → Held 0 (dummies_of h) c' m' d'
  pub key_from : (k' ≡ 0) ⊎ ((k' ≡ k) ⊎ (standing m k' ≡ 0))
  pub dummy_from : (d' ≡ 0) ⊎ ((d' ≡ d) ⊎ (standing m d' ≡ 0))
  pub was : (n : ℕ) → n ≤ nodes_of h → standing m' n ≡ TAKEN → (standing m n ≡ TAKEN) ⊎ ((k' ≡ n) ⊎ (d' ≡ n))
  pub stays : (n : ℕ) → standing m' n ≡ TAKEN → In n c → In n c'
  pub own : (n : ℕ) → standing m' n ≡ TAKEN → (k ≡ n) ⊎ (d ≡ n) → In n c' ⊎ ((k' ≡ n) ⊎ (d' ≡ n))
  pub waits : (n v : ℕ) → n ≤ nodes_of h → standing m' n < 65536 → bit v (standing m' n) ≡ 1 → bit v h.busy ≡ 1
  pub keyed : (n : ℕ) → n ≤ nodes_of h → 1 ≤ standing m' n → standing m' n < 65536 → dummies_of h < n
  pub exact : (n : ℕ) → In n c' → n ≤ dummies_of h → OfBucket h.m (key m' n)
  pub roots : (n : ℕ) → In n c → n ≤ dummies_of h → In n c' × (key m' n ≡ key m n)

module _ {h : Header} {ws : List Worker} {Ps : Pasts} {w k d : ℕ} {c m : List ℕ} {β : ℕ → ℕ} (core : Core h ws Ps w k d c m β)
    {k' d' g : ℕ} {c' m' : List ℕ} (s : Shift h w k d k' d' g c m c' m') where
  abbrev x : ℕ → Worker
  x v = record_of ws v

  key_of_lem : (v : ℕ) → v < h.w → v ≢ w → held_key (x v) ≢ 0 → Held (dummies_of h) (nodes_of h) c m (held_key (x v))
  key_of_lem v l ne z = fact_key h v c m (Ps v) (x v) (core.fact v l ne) z

  dummy_of_lem : (v : ℕ) → v < h.w → v ≢ w → held_dummy (x v) ≢ 0 → Held 0 (dummies_of h) c m (held_dummy (x v))
  dummy_of_lem v l ne z = fact_dummy h v c m (Ps v) (x v) (core.fact v l ne) z

  -- no other worker has it in hand
  key_away : (v : ℕ) → v < h.w → v ≢ w → held_key (x v) ≢ 0 → held_key (x v) ≢ g
  key_away v l ne z e = ⊎_elim (λ q. z (e ∙ q))
      (⊎_elim (λ q. core.key_mine v l ne (λ y. z (e ∙ q ∙ y)) (e ∙ q))
      (λ q. omega (arith, (key_of_lem v l ne z).low, (core.dummy_held (λ y. z (e ∙ q ∙ y))).high, e ∙ q))) s.touch

  dummy_away : (v : ℕ) → v < h.w → v ≢ w → held_dummy (x v) ≢ 0 → held_dummy (x v) ≢ g
  dummy_away v l ne z e = ⊎_elim (λ q. z (e ∙ q))
      (⊎_elim (λ q. omega (arith, (dummy_of_lem v l ne z).high, (core.key_held (λ y. z (e ∙ q ∙ y))).low, e ∙ q))
      (λ q. core.dummy_mine v l ne (λ y. z (e ∙ q ∙ y)) (e ∙ q))) s.touch

  fact : (v : ℕ) → v < h.w → v ≢ w → Fact h v c m (Ps v) (x v) → Agrees (x v) (bit v h.busy) → Fact h v c' m' (Ps v) (x v)
  fact v l ne (inl e) ag = inl e
  fact v l ne (inr b) (inl p) = absurd (not_idle b.spot (sym b.place ∙ p.0))
  fact v l ne (inr b) (inr p) = inr (st.busy h v g c m c' m' (s.later v ne p.1) (Ps v) (Ps v) (λ a b k z. z) (x v) b
      (rw (← kb) (key_away v l ne)) (rw (← db) (dummy_away v l ne)))
    where
      kb : held_key (x v) ≡ key_of b.spot (x v)
      kb = key_is h v c m (Ps v) (x v) b

      db : held_dummy (x v) ≡ dummy_of b.spot (x v)
      db = dummy_is h v c m (Ps v) (x v) b

  pub shift : Core h ws Ps w k' d' c' m' β
  shift = record {
    limits = core.limits;
    size = core.size;
    few = core.few;
    long = core.long;
    of_nodes = s.of_nodes;
    key_held = s.key_held;
    dummy_held = s.dummy_held;
    fact = λ v l ne. fact v l ne (core.fact v l ne) (core.bits v l ne);
    bits = core.bits;
    apart = core.apart;
    key_mine = λ v l ne z e. ⊎_elim z (⊎_elim (λ q. core.key_mine v l ne (λ y. z (q ∙ y)) (e ∙ q))
        (λ q. let f : standing m (held_key (x v)) ≡ TAKEN = (key_of_lem v l ne (λ y. z (sym e ∙ y))).is in omega (arith, rw e at f))) s.key_from;
    dummy_mine = λ v l ne z e. ⊎_elim z (⊎_elim (λ q. core.dummy_mine v l ne (λ y. z (q ∙ y)) (e ∙ q))
        (λ q. let f : standing m (held_dummy (x v)) ≡ TAKEN = (dummy_of_lem v l ne (λ y. z (sym e ∙ y))).is in omega (arith, rw e at f))) s.dummy_from;
    whole = λ n f t. ⊎_elim (λ t₀. ⊎_elim (λ i. inl (s.stays n t i)) (⊎_elim (λ o. mine (s.own n t o)) (λ o. inr (inr o))) (core.whole n f t₀)) (λ o. inr (inl o)) (s.was n f t);
    waits = s.waits;
    keyed = s.keyed;
    exact = s.exact;
    root₀ = core.root₀;
    root = λ b l ne. let o : Root (dummies_of h) c m b (β b) = core.root b l ne in
        record { on = (s.roots (β b) o.on o.sort).0; sort = o.sort; has = (s.roots (β b) o.on o.sort).1 ∙ o.has };
  }
    where
      mine : {n : ℕ} → In n c' ⊎ ((k' ≡ n) ⊎ (d' ≡ n)) → In n c' ⊎ ((k' ≡ n) ⊎ (d' ≡ n)) ⊎ Holder h.w ws w n
      mine (inl i) = inl i
      mine (inr o) = inr (inl o)
