-- The stores of each effect meet the equations under which it keeps the invariant of the others and what the worker itself knows.
-- Assumes nothing.
use mathlib.Core.Path.{◌≡◌, refl, sym, ap, ◌∙◌}
use mathlib.Core.Logic.{◌≢◌, ◌⊎◌, inl, inr, ⊎_elim}
use mathlib.Core.Bool.{true, false}
use mathlib.Core.List.Memᴰ
use mathlib.Core.List.{List, Memᴰ as In}
use Prim.Native.Nat.{ℕ, ◌+◌, ◌*◌, ◌%◌, ◌≤◌, ◌<◌}
use native.Mathlib.Omega.{arith}
use native.Mathlib.Decide.{ℕ_discrete}
use lib.Pow.{pow_mono}
use lib.ListN.{length}
use Rattle.split.specs.Split.{regular}
use Rattle.words.specs.Words.{SPLIT_KEY, LINK, STANDING, TAKEN, put, link_to}
use Rattle.words.proofs.Laws.{nothing, put_nothing, put_length, link_to_unmarked, link_to_marked}
use Rattle.sets.specs.Sets.{bit}
use Rattle.sets.proofs.Laws.{bit_some}
use Rattle.header.specs.declared.Header.{Header}
use Rattle.header.specs.Header.{dummies_of, nodes_of}
use Rattle.header.specs.Rows.{Limits}
use Rattle.record.specs.declared.Worker.{Worker}
use Rattle.names.specs.Names.{KEY_LIMIT}
use Rattle.register.specs.Registered.{key, link, standing, next_in, mark}
use Rattle.story.proofs.Memory
use Rattle.story.proofs.Linked.{put_after, cut_after, put_new, put_old, put_only, cut_only, cut_self, some_on, succ_in}
use Rattle.story.proofs.Facts.{Held, Nodes, OfBucket, Later}
use Rattle.story.proofs.Core.{Pasts, Core, shift}
use Rattle.story.proofs.Effects.{linked, linked_later, kept, unlinked, unlinked_later, marked, marked_later, penned, penned_later, took, took_later, freed, freed_later}
use Rattle.story.proofs.Registers.{Same, Added, Removed, dummy_is_even, unchanged, linked_same, linked_adds, marked_removes}

-- no register has more nodes than a link can name
pub few_nodes : (h : Header) → Limits h → nodes_of h < 2147483648
few_nodes h l = omega (arith, l.buckets.1, l.workers.1, l.keys.1)

-- a node in hand afterwards is none, or was in hand
from : {a b n : ℕ} {A : Type 0} → Dec (a ≡ 0) → (a ≢ 0 → (a ≡ b) × (a ≢ n)) → (a ≡ 0) ⊎ ((a ≡ b) ⊎ A)
from (yes e) f = inl e
from (no ne) f = inr (inl (f ne).0)

module _ {h : Header} {ws : List Worker} {Ps : Pasts} {w k d : ℕ} {c m : List ℕ} {β : ℕ → ℕ} (core : Core h ws Ps w k d c m β) where
  abbrev D : ℕ
  D = dummies_of h

  abbrev N : ℕ
  N = nodes_of h

  g₀ : Nodes D N c m
  g₀ = core.of_nodes

  in_table : (n : ℕ) → n ≤ N → 3 * n ≤ length m
  in_table n b = omega (arith, g₀.size)

  on_some : (n : ℕ) → In n c → 1 ≤ n
  on_some n i = some_on m 0 1 i g₀.walk

  unmarked : (n : ℕ) → n ≤ N → link_to n false ≡ n * 2
  unmarked n b = link_to_unmarked n (omega (arith, few_nodes h core.limits))

  busy_small : h.busy < 65536
  busy_small = omega (arith, core.few, pow_mono {i = h.w} {j = 16} core.limits.workers.1)

  -- the node in hand is not the other one in hand
  two : k ≢ 0 → d ≢ 0 → d ≢ k
  two a b e = omega (arith, (core.key_held a).low, (core.dummy_held b).high)

  -- ---- I1, B4: a free node is taken
  module _ (n split : ℕ) (free : standing m n ≡ 0) (some : 1 ≤ n) (fits : n ≤ N) where
    abbrev m₁ : List ℕ
    m₁ = put m n SPLIT_KEY split

    abbrev m₂ : List ℕ
    m₂ = put m₁ n STANDING TAKEN

    size : length m₂ ≡ length m
    size = put_length m₁ n STANDING TAKEN ∙ put_length m n SPLIT_KEY split

    ek : (i : ℕ) → i ≢ n → key m₂ i ≡ key m i
    ek i ne = Memory.key_of_standing m₁ n TAKEN i ∙ Memory.key_other m n split i ne

    es : (i : ℕ) → i ≢ n → standing m₂ i ≡ standing m i
    es i ne = Memory.standing_other m₁ n TAKEN i ne ∙ Memory.standing_of_key m n split i

    el : (i : ℕ) → link m₂ i ≡ link m i
    el i = Memory.link_of_standing m₁ n TAKEN i ∙ Memory.link_of_key m n split i

    sh : standing m₂ n ≡ TAKEN
    sh = Memory.standing_same m₁ n TAKEN some (rw (put_length m n SPLIT_KEY split) (in_table n fits))

    pub take_key_is : key m₂ n ≡ split
    take_key_is = Memory.key_of_standing m₁ n TAKEN n ∙ Memory.key_same m n split some (in_table n fits)

    g' : Nodes D N c m₂
    g' = took D N c m m₂ n g₀ free size ek es el sh

    pub take_later : (v : ℕ) → Later D N v 0 c m c m₂
    take_later v = took_later D N c m m₂ n g₀ free size ek es el sh v 0

    new : (i : ℕ) → In i c → i ≢ n
    new i j q = omega (arith, g₀.is i j, rw (← q) at free)

    pub take_same : (j : ℕ) → Same m m₂ j
    take_same = unchanged D N c m c m₂ g₀ g' (λ i j. ek i (new i j)) (λ i j l. (j, rw (el i) l)) (λ i j l. (j, rw (el i) at l))

    pub take_held : (lo hi : ℕ) → lo < n → n ≤ hi → Held lo hi c m₂ n
    take_held lo hi a b = record { low = a; high = b; is = sh; off = λ j. new n j refl }

    lost : {A : Type 0} (i : ℕ) → standing m₂ i ≡ TAKEN → i ≡ 0 → A
    lost i t q = let z : standing m₂ i ≡ 0 = rw q (nothing m₂ 2) in absurd (omega (arith, t))

    was : (i : ℕ) → standing m₂ i ≡ TAKEN → Dec (i ≡ n) → (standing m i ≡ TAKEN) ⊎ (n ≡ i)
    was i t (yes q) = inr (sym q)
    was i t (no ne) = inl (sym (es i ne) ∙ t)

    waits : (i v : ℕ) → i ≤ N → standing m₂ i < 65536 → bit v (standing m₂ i) ≡ 1 → Dec (i ≡ n) → bit v h.busy ≡ 1
    waits i v f a b (yes q) = absurd (omega (arith, rw (q, sh) at a))
    waits i v f a b (no ne) = core.waits i v f (rw (es i ne) at a) (rw (es i ne) at b)

    take_keyed : (i : ℕ) → i ≤ N → 1 ≤ standing m₂ i → standing m₂ i < 65536 → Dec (i ≡ n) → D < i
    take_keyed i f lo hi (yes q) = absurd (omega (arith, rw (q, sh) at hi))
    take_keyed i f lo hi (no ne) = core.keyed i f (rw (es i ne) at lo) (rw (es i ne) at hi)

    take_exact : (i : ℕ) → In i c → i ≤ D → OfBucket h.m (key m₂ i)
    take_exact i j b = rw (ek i (new i j)) (core.exact i j b)

    pub take_key : k ≡ 0 → D < n → Core h ws Ps w n d c m₂ β
    take_key z low = shift core {g = 0} (record {
      of_nodes = g';
      later = λ v ne t. take_later v;
      touch = inl refl;
      key_held = λ _. take_held D N low fits;
      dummy_held = λ y. (take_later w).held 0 D d y (omega arith) (core.dummy_held y);
      key_from = inr (inr free);
      dummy_from = inr (inl refl);
      was = λ i f t. ⊎_elim inl (λ e. inr (inl e)) (was i t (ℕ_discrete i n));
      stays = λ i t j. j;
      own = λ i t o. ⊎_elim (λ e. lost i t (sym e ∙ z)) (λ e. inr (inr e)) o;
      waits = λ i v f a b. waits i v f a b (ℕ_discrete i n);
      keyed = λ i f lo hi. take_keyed i f lo hi (ℕ_discrete i n);
      exact = take_exact;
      roots = λ i j b. (j, ek i (new i j));
    })

    pub take_dummy : d ≡ 0 → n ≤ D → Core h ws Ps w k n c m₂ β
    take_dummy z high = shift core {g = 0} (record {
      of_nodes = g';
      later = λ v ne t. take_later v;
      touch = inl refl;
      key_held = λ y. (take_later w).held D N k y (omega arith) (core.key_held y);
      dummy_held = λ _. take_held 0 D some high;
      key_from = inr (inl refl);
      dummy_from = inr (inr free);
      was = λ i f t. ⊎_elim inl (λ e. inr (inr e)) (was i t (ℕ_discrete i n));
      stays = λ i t j. j;
      own = λ i t o. ⊎_elim (λ e. inr (inl e)) (λ e. lost i t (sym e ∙ z)) o;
      waits = λ i v f a b. waits i v f a b (ℕ_discrete i n);
      keyed = λ i f lo hi. take_keyed i f lo hi (ℕ_discrete i n);
      exact = take_exact;
      roots = λ i j b. (j, ek i (new i j));
    })

  -- ---- a node in hand is free again
  module _ (n lo hi : ℕ) (hh : Held lo hi c m n) (bound : hi ≤ N) where
    abbrev f₁ : List ℕ
    f₁ = put m n STANDING 0

    fk : (i : ℕ) → key f₁ i ≡ key m i
    fk i = Memory.key_of_standing m n 0 i

    fl : (i : ℕ) → link f₁ i ≡ link m i
    fl i = Memory.link_of_standing m n 0 i

    fs : (i : ℕ) → i ≢ n → standing f₁ i ≡ standing m i
    fs i ne = Memory.standing_other m n 0 i ne

    fn : standing f₁ n ≡ 0
    fn = Memory.standing_same m n 0 (omega (arith, hh.low)) (in_table n (omega (arith, hh.high)))

    fg : Nodes D N c f₁
    fg = freed D N lo hi c m f₁ n g₀ hh (put_length m n STANDING 0) fk fs fl fn

    pub free_later : (v : ℕ) → Later D N v n c m c f₁
    free_later = freed_later D N lo hi c m f₁ n g₀ hh (put_length m n STANDING 0) fk fs fl fn

    pub free_same : (j : ℕ) → Same m f₁ j
    free_same = unchanged D N c m c f₁ g₀ fg (λ i j. fk i) (λ i j l. (j, rw (fl i) l)) (λ i j l. (j, rw (fl i) at l))

    not_free : {A : Type 0} (i : ℕ) → standing f₁ i ≡ TAKEN → i ≡ n → A
    not_free i t e = absurd (omega (arith, rw (e, fn) at t))

    fwaits : (i v : ℕ) → i ≤ N → standing f₁ i < 65536 → bit v (standing f₁ i) ≡ 1 → Dec (i ≡ n) → bit v h.busy ≡ 1
    fwaits i v f a b (yes q) = let z : standing f₁ i ≡ 0 = ap (standing f₁) q ∙ fn in absurd (omega (arith, bit_some v (standing f₁ i) b))
    fwaits i v f a b (no ne) = core.waits i v f (rw (fs i ne) at a) (rw (fs i ne) at b)

    fkeyed : (i : ℕ) → i ≤ N → 1 ≤ standing f₁ i → standing f₁ i < 65536 → Dec (i ≡ n) → D < i
    fkeyed i f lo hi (yes q) = absurd (omega (arith, rw (q, fn) at lo))
    fkeyed i f lo hi (no ne) = core.keyed i f (rw (fs i ne) at lo) (rw (fs i ne) at hi)

    freeing : (k' d' : ℕ) → (n ≡ k) ⊎ (n ≡ d) → (k' ≢ 0 → (k' ≡ k) × (k' ≢ n)) → (d' ≢ 0 → (d' ≡ d) × (d' ≢ n)) → Dec (k' ≡ 0) → Dec (d' ≡ 0)
        → ((i : ℕ) → i ≢ n → (k ≡ i) ⊎ (d ≡ i) → (k' ≡ i) ⊎ (d' ≡ i)) → Core h ws Ps w k' d' c f₁ β
    freeing k' d' touch ke de k0 d0 own = shift core {g = n} (record {
      of_nodes = fg;
      later = λ v ne t. free_later v;
      touch = inr touch;
      key_held = λ y. (free_later w).held D N k' (ke y).1 (omega arith) (rw (ke y).0 (core.key_held (λ z. y ((ke y).0 ∙ z))));
      dummy_held = λ y. (free_later w).held 0 D d' (de y).1 (omega arith) (rw (de y).0 (core.dummy_held (λ z. y ((de y).0 ∙ z))));
      key_from = from k0 ke;
      dummy_from = from d0 de;
      was = λ i f t. inl (sym (fs i (λ e. not_free i t e)) ∙ t);
      stays = λ i t j. j;
      own = λ i t o. inr (own i (λ e. not_free i t e) o);
      waits = λ i v f a b. fwaits i v f a b (ℕ_discrete i n);
      keyed = λ i f lo hi. fkeyed i f lo hi (ℕ_discrete i n);
      exact = λ i j b. rw (fk i) (core.exact i j b);
      roots = λ i j b. (j, fk i);
    })

  -- the key node, and the dummy: 0 is no node
  pub free_key : Core h ws Ps w 0 d c (put m k STANDING 0) β
  free_key = go (ℕ_discrete k 0)
    where
      go : Dec (k ≡ 0) → Core h ws Ps w 0 d c (put m k STANDING 0) β
      go (yes e) = rw (e, put_nothing m STANDING 0) (rw e at core)
      go (no z) = freeing k D N (core.key_held z) (omega arith) 0 d (inl refl) (λ y. absurd (y refl)) (λ y. (refl, two z y)) (yes refl) (ℕ_discrete d 0)
          (λ i ne o. ⊎_elim (λ e. absurd (ne (sym e))) inr o)

  pub free_dummy : Core h ws Ps w k 0 c (put m d STANDING 0) β
  free_dummy = go (ℕ_discrete d 0)
    where
      go : Dec (d ≡ 0) → Core h ws Ps w k 0 c (put m d STANDING 0) β
      go (yes e) = rw (e, put_nothing m STANDING 0) (rw e at core)
      go (no z) = freeing d 0 D (core.dummy_held z) (omega arith) k 0 (inr refl) (λ y. (refl, λ e. two y z (sym e))) (λ y. absurd (y refl)) (ℕ_discrete k 0) (yes refl)
          (λ i ne o. ⊎_elim inl (λ e. absurd (ne (sym e))) o)

  -- ---- L2 that fails: the held node's link is written
  module _ (n cur lo hi : ℕ) (hh : Held lo hi c m n) (bound : hi ≤ N) (fits : cur ≤ N) where
    abbrev a₁ : List ℕ
    a₁ = put m n LINK (link_to cur false)

    a_length : length a₁ ≡ length m
    a_length = put_length m n LINK (link_to cur false)

    ak : (i : ℕ) → key a₁ i ≡ key m i
    ak i = Memory.key_of_link m n (link_to cur false) i

    ast : (i : ℕ) → standing a₁ i ≡ standing m i
    ast i = Memory.standing_of_link m n (link_to cur false) i

    al : (i : ℕ) → i ≢ n → link a₁ i ≡ link m i
    al i ne = Memory.link_other m n (link_to cur false) i ne

    an : link a₁ n ≡ cur * 2
    an = Memory.link_same m n (link_to cur false) (omega (arith, hh.low)) (in_table n (omega (arith, hh.high))) ∙ unmarked cur fits

    ag : Nodes D N c a₁
    ag = penned D N lo hi c m a₁ n g₀ hh a_length ak ast al (rw an (omega arith))

    pub aim_later : (v : ℕ) → Later D N v n c m c a₁
    aim_later = penned_later D N lo hi c m a₁ n g₀ hh a_length ak ast al (rw an (omega arith))

    a_off : (i : ℕ) → In i c → i ≢ n
    a_off i j q = hh.off (rw q at j)

    pub aim_same : (j : ℕ) → Same m a₁ j
    aim_same = unchanged D N c m c a₁ g₀ ag (λ i j. ak i) (λ i j l. (j, rw (al i (a_off i j)) l)) (λ i j l. (j, rw (al i (a_off i j)) at l))

    pub aim : (n ≡ k) ⊎ (n ≡ d) → Core h ws Ps w k d c a₁ β
    aim touch = shift core {g = n} (record {
      of_nodes = ag;
      later = λ v ne t. aim_later v;
      touch = inr touch;
      key_held = λ y. let o = core.key_held y in record { low = o.low; high = o.high; is = ast k ∙ o.is; off = o.off };
      dummy_held = λ y. let o = core.dummy_held y in record { low = o.low; high = o.high; is = ast d ∙ o.is; off = o.off };
      key_from = inr (inl refl);
      dummy_from = inr (inl refl);
      was = λ i f t. inl (sym (ast i) ∙ t);
      stays = λ i t j. j;
      own = λ i t o. inr o;
      waits = λ i v f a b. core.waits i v f (rw (ast i) at a) (rw (ast i) at b);
      keyed = λ i f lo hi. core.keyed i f (rw (ast i) at lo) (rw (ast i) at hi);
      exact = λ i j b. rw (ak i) (core.exact i j b);
      roots = λ i j b. (j, ak i);
    })

    -- ---- L2 done: the held node is on the chain, between prev and cur
    module _ (prev most : ℕ) (i : In prev c) (was : link m prev ≡ cur * 2) (has : key m n ≡ most) (low : key m prev < most) (high : cur ≢ 0 → most < key m cur)
        (root : n ≤ D → OfBucket h.m most) (odd : D < n → most % 2 ≡ 1) where
      abbrev p₁ : List ℕ
      p₁ = put a₁ prev LINK (link_to n false)

      even : n ≤ D → most % 2 ≡ 0
      even b = let o = root b in rw o.has (dummy_is_even o.bucket (omega (arith, o.real, core.limits.buckets.1)))

      n_fits : n ≤ N
      n_fits = omega (arith, hh.high)

      p_length : length p₁ ≡ length m
      p_length = put_length a₁ prev LINK (link_to n false) ∙ a_length

      pk : (j : ℕ) → key p₁ j ≡ key m j
      pk j = Memory.key_of_link a₁ prev (link_to n false) j ∙ ak j

      ps : (j : ℕ) → standing p₁ j ≡ standing m j
      ps j = Memory.standing_of_link a₁ prev (link_to n false) j ∙ ast j

      pl : (j : ℕ) → j ≢ prev → j ≢ n → link p₁ j ≡ link m j
      pl j np nh = Memory.link_other a₁ prev (link_to n false) j np ∙ al j nh

      pp : link p₁ prev ≡ n * 2
      pp = Memory.link_same a₁ prev (link_to n false) (on_some prev i) (rw a_length (in_table prev (g₀.fits prev i))) ∙ unmarked n n_fits

      pn : link p₁ n ≡ cur * 2
      pn = Memory.link_other a₁ prev (link_to n false) n (λ q. hh.off (rw (← q) at i)) ∙ an

      pub place_nodes : Nodes D N (put_after i n) p₁
      place_nodes = linked D N lo hi c m p₁ prev n cur most g₀ hh bound i p_length pk ps pl pp pn was has low high even odd

      pub place_later : (v : ℕ) → Later D N v n c m (put_after i n) p₁
      place_later = linked_later D N lo hi c m p₁ prev n cur most g₀ hh bound i p_length pk ps pl pp pn was has low high even odd

      pub place_key_is : (j : ℕ) → key p₁ j ≡ key m j
      place_key_is = pk

      pub place_same : (j : ℕ) → regular j ≢ most → Same m p₁ j
      place_same = linked_same D N c m p₁ prev n cur most g₀ i place_nodes pk pl pp pn was hh.off has

      pub place_adds : (x : ℕ) → most ≡ regular x → x ≤ KEY_LIMIT → Added m p₁ x
      place_adds x e b = linked_adds D N c m p₁ prev n cur most g₀ i place_nodes pk pl pp pn was hh.off has x e b low high

      place_exact : (j : ℕ) → In j (put_after i n) → j ≤ D → Dec (j ≡ n) → OfBucket h.m (key p₁ j)
      place_exact j o b (yes e) = rw (pk j, e, has) (root (rw e at b))
      place_exact j o b (no ne) = rw (pk j) (core.exact j (put_only i n o ne) b)

      placing : (k' d' : ℕ) → (n ≡ k) ⊎ (n ≡ d) → (k' ≢ 0 → (k' ≡ k) × (k' ≢ n)) → (d' ≢ 0 → (d' ≡ d) × (d' ≢ n)) → Dec (k' ≡ 0) → Dec (d' ≡ 0)
          → ((j : ℕ) → (k ≡ j) ⊎ (d ≡ j) → (n ≡ j) ⊎ ((k' ≡ j) ⊎ (d' ≡ j))) → Core h ws Ps w k' d' (put_after i n) p₁ β
      placing k' d' touch ke de k0 d0 own = shift core {g = n} (record {
        of_nodes = place_nodes;
        later = λ v ne t. place_later v;
        touch = inr touch;
        key_held = λ y. (place_later w).held D N k' (ke y).1 (omega arith) (rw (ke y).0 (core.key_held (λ z. y ((ke y).0 ∙ z))));
        dummy_held = λ y. (place_later w).held 0 D d' (de y).1 (omega arith) (rw (de y).0 (core.dummy_held (λ z. y ((de y).0 ∙ z))));
        key_from = from k0 ke;
        dummy_from = from d0 de;
        was = λ j f t. inl (sym (ps j) ∙ t);
        stays = λ j t o. put_old i n o;
        own = λ j t o. ⊎_elim (λ e. inl (Memᴰ.cast (sym e) (put_new i n))) inr (own j o);
        waits = λ j v f a b. core.waits j v f (rw (ps j) at a) (rw (ps j) at b);
        keyed = λ j f lo hi. core.keyed j f (rw (ps j) at lo) (rw (ps j) at hi);
        exact = λ j o b. place_exact j o b (ℕ_discrete j n);
        roots = λ j o b. (put_old i n o, pk j);
      })

      pub place_key : n ≡ k → n ≢ 0 → Core h ws Ps w 0 d (put_after i n) p₁ β
      place_key e z = placing 0 d (inl e) (λ y. absurd (y refl)) (λ y. (refl, λ q. two (λ o. z (e ∙ o)) y (q ∙ e))) (yes refl) (ℕ_discrete d 0)
          (λ j o. ⊎_elim (λ q. inl (e ∙ q)) (λ q. inr (inr q)) o)

      pub place_dummy : n ≡ d → n ≢ 0 → Core h ws Ps w k 0 (put_after i n) p₁ β
      place_dummy e z = placing k 0 (inr e) (λ y. (refl, λ q. two y (λ o. z (e ∙ o)) (sym e ∙ sym q))) (λ y. absurd (y refl)) (ℕ_discrete k 0) (yes refl)
          (λ j o. ⊎_elim (λ q. inr (inl q)) (λ q. inl (e ∙ q)) o)

  -- ---- D4a: cur is marked
  module _ (cur nx : ℕ) (i : In cur c) (was : link m cur ≡ nx * 2) (sort : D < cur) where
    abbrev k₁ : List ℕ
    k₁ = put m cur LINK (link_to nx true)

    nx_fits : nx ≤ N
    nx_fits = omega (arith, was, g₀.links cur (g₀.fits cur i))

    kk : (j : ℕ) → key k₁ j ≡ key m j
    kk j = Memory.key_of_link m cur (link_to nx true) j

    ks : (j : ℕ) → standing k₁ j ≡ standing m j
    ks j = Memory.standing_of_link m cur (link_to nx true) j

    kl : (j : ℕ) → j ≢ cur → link k₁ j ≡ link m j
    kl j ne = Memory.link_other m cur (link_to nx true) j ne

    pub mark_link : link k₁ cur ≡ nx * 2 + 1
    mark_link =
        Memory.link_same m cur (link_to nx true) (on_some cur i) (in_table cur (g₀.fits cur i)) ∙
        link_to_marked nx (omega (arith, nx_fits, few_nodes h core.limits))

    kg : Nodes D N c k₁
    kg = marked D N c m k₁ cur nx g₀ i (put_length m cur LINK (link_to nx true)) kk ks kl mark_link was sort

    pub mark_later : (v : ℕ) → Later D N v 0 c m c k₁
    mark_later v = marked_later D N c m k₁ cur nx g₀ i (put_length m cur LINK (link_to nx true)) kk ks kl mark_link was sort v 0

    pub mark_removes : (x : ℕ) → key m cur ≡ regular x → x ≤ KEY_LIMIT → Removed m k₁ x
    mark_removes x e b = marked_removes D N c m k₁ cur nx x g₀ i kg kk kl mark_link was e b

    pub marks : Core h ws Ps w k d c k₁ β
    marks = shift core {g = 0} (record {
      of_nodes = kg;
      later = λ v ne t. mark_later v;
      touch = inl refl;
      key_held = λ y. (mark_later w).held D N k y (omega arith) (core.key_held y);
      dummy_held = λ y. (mark_later w).held 0 D d y (omega arith) (core.dummy_held y);
      key_from = inr (inl refl);
      dummy_from = inr (inl refl);
      was = λ j f t. inl (sym (ks j) ∙ t);
      stays = λ j t o. o;
      own = λ j t o. inr o;
      waits = λ j v f a b. core.waits j v f (rw (ks j) at a) (rw (ks j) at b);
      keyed = λ j f lo hi. core.keyed j f (rw (ks j) at lo) (rw (ks j) at hi);
      exact = λ j o b. rw (kk j) (core.exact j o b);
      roots = λ j o b. (o, kk j);
    })

  -- ---- F4, D4b: the marked node after prev is unlinked, and waits for all that are busy
  module _ (prev cur nx : ℕ) (i : In prev c) (was : link m prev ≡ cur * 2) (some : cur ≢ 0) (dead : link m cur ≡ nx * 2 + 1) where
    abbrev u₀ : List ℕ
    u₀ = put m prev LINK (link_to nx false)

    abbrev u₁ : List ℕ
    u₁ = put u₀ cur STANDING h.busy

    u_np : next_in m prev ≡ cur
    u_np = rw was (omega arith)

    u_cur : In cur c
    u_cur = rw u_np at (succ_in m prev 0 1 i g₀.walk (rw u_np some))

    u_fits : nx ≤ N
    u_fits = omega (arith, dead, g₀.links cur (g₀.fits cur u_cur))

    u_length : length u₁ ≡ length m
    u_length = put_length u₀ cur STANDING h.busy ∙ put_length m prev LINK (link_to nx false)

    uk : (j : ℕ) → key u₁ j ≡ key m j
    uk j = Memory.key_of_standing u₀ cur h.busy j ∙ Memory.key_of_link m prev (link_to nx false) j

    us : (j : ℕ) → j ≢ cur → standing u₁ j ≡ standing m j
    us j ne = Memory.standing_other u₀ cur h.busy j ne ∙ Memory.standing_of_link m prev (link_to nx false) j

    uc : standing u₁ cur ≡ h.busy
    uc = Memory.standing_same u₀ cur h.busy (on_some cur u_cur) (rw (put_length m prev LINK (link_to nx false)) (in_table cur (g₀.fits cur u_cur)))

    ul : (j : ℕ) → j ≢ prev → link u₁ j ≡ link m j
    ul j ne = Memory.link_of_standing u₀ cur h.busy j ∙ Memory.link_other m prev (link_to nx false) j ne

    up : link u₁ prev ≡ nx * 2
    up = Memory.link_of_standing u₀ cur h.busy prev ∙ Memory.link_same m prev (link_to nx false) (on_some prev i) (in_table prev (g₀.fits prev i)) ∙ unmarked nx u_fits

    ug : Nodes D N (cut_after i) u₁
    ug = unlinked D N c m u₁ prev cur nx h.busy g₀ i u_length uk us uc ul up was some dead busy_small

    pub unlink_later : (v : ℕ) → bit v h.busy ≡ 1 → Later D N v 0 c m (cut_after i) u₁
    unlink_later v on = unlinked_later D N c m u₁ prev cur nx h.busy g₀ i u_length uk us uc ul up was some dead busy_small v 0 on

    pub unlink_prev : In prev (cut_after i) × (next_in u₁ prev ≡ nx)
    unlink_prev = (cut_self i, rw up (omega arith))

    u_kept : (j : ℕ) → In j c → j ≢ cur → In j (cut_after i)
    u_kept = kept D N c m u₁ prev cur nx h.busy g₀ i u_length uk us uc ul up was some dead busy_small

    not_cur : (j : ℕ) → standing u₁ j ≡ TAKEN → j ≢ cur
    not_cur j t q = omega (arith, rw (q, uc) at t, busy_small)

    pub unlink_same : (j : ℕ) → Same m u₁ j
    unlink_same = unchanged D N c m (cut_after i) u₁ g₀ ug (λ j o. uk j) (λ j o l. to j o l (ℕ_discrete j prev)) (λ j o l. from j o l (ℕ_discrete j prev))
      where
        live : (j : ℕ) → mark m j ≡ 0 → Dec (j ≡ prev) → mark u₁ j ≡ 0
        live j l (yes q) = rw (q, up) (omega arith)
        live j l (no ne) = rw (ul j ne) l

        to : (j : ℕ) → In j c → mark m j ≡ 0 → Dec (j ≡ prev) → In j (cut_after i) × (mark u₁ j ≡ 0)
        to j o l p = (u_kept j o (λ q. omega (arith, rw (q, dead) at l)), live j l p)

        from : (j : ℕ) → In j (cut_after i) → mark u₁ j ≡ 0 → Dec (j ≡ prev) → In j c × (mark m j ≡ 0)
        from j o l (yes q) = (cut_only i o, rw (q, was) (omega arith))
        from j o l (no ne) = (cut_only i o, rw (ul j ne) at l)

    pub unlinks : Core h ws Ps w k d (cut_after i) u₁ β
    unlinks = shift core {g = 0} (record {
      of_nodes = ug;
      later = λ v ne t. unlink_later v t;
      touch = inl refl;
      key_held = λ y. still D N k (core.key_held y);
      dummy_held = λ y. still 0 D d (core.dummy_held y);
      key_from = inr (inl refl);
      dummy_from = inr (inl refl);
      was = λ j f t. inl (sym (us j (not_cur j t)) ∙ t);
      stays = λ j t o. u_kept j o (not_cur j t);
      own = λ j t o. inr o;
      waits = λ j v f a b. waits j v f a b (ℕ_discrete j cur);
      keyed = λ j f lo hi. keyed j f lo hi (ℕ_discrete j cur);
      exact = λ j o b. rw (uk j) (core.exact j (cut_only i o) b);
      roots = λ j o b. (u_kept j o (λ q. omega (arith, g₀.dead cur u_cur (rw dead (omega arith)))), uk j);
    })
      where
        still : (lo hi j : ℕ) → Held lo hi c m j → Held lo hi (cut_after i) u₁ j
        still lo hi j q = record { low = q.low; high = q.high; is = us j (λ e. q.off (rw e u_cur)) ∙ q.is; off = λ o. q.off (cut_only i o) }

        waits : (j v : ℕ) → j ≤ N → standing u₁ j < 65536 → bit v (standing u₁ j) ≡ 1 → Dec (j ≡ cur) → bit v h.busy ≡ 1
        waits j v f a b (yes q) = rw (q, uc) at b
        waits j v f a b (no ne) = core.waits j v f (rw (us j ne) at a) (rw (us j ne) at b)

        keyed : (j : ℕ) → j ≤ N → 1 ≤ standing u₁ j → standing u₁ j < 65536 → Dec (j ≡ cur) → D < j
        keyed j f lo hi (yes q) = rw q (g₀.dead cur u_cur (rw dead (omega arith)))
        keyed j f lo hi (no ne) = core.keyed j f (rw (us j ne) at lo) (rw (us j ne) at hi)
