-- A store changes the word that it names and no other, and an effect is at most two stores.
-- Assumes nothing.
use Prim.Native.Nat.{ℕ, zero, suc, ◌*◌, ◌≤◌, ◌<◌}
use mathlib.Core.List.{List, [], ◌∷◌}
use mathlib.Core.Logic.{inl, inr, ◌≢◌}
use mathlib.Core.Path.{◌≡◌, refl, sym, ap, ap₂, ◌∙◌}
use native.Mathlib.Decide.{ℕ_discrete}
use native.Mathlib.Omega.{arith}
use lib.ListN.{length}
use Rattle.words.specs.Words.{Tables, tables, STANDING, word, put, store}
use Rattle.scans.specs.Scans.{leave, sweep}
use Rattle.words.proofs.Laws.{nothing, put_nothing, put_length, put_same, put_node, put_word, store_length, store_same, store_other}
use Rattle.scans.proofs.Laws.{sweep_length, sweep_standing}
use Rattle.header.specs.declared.Header.{Header}
use Rattle.header.specs.Header.{nodes_of}
use Rattle.record.specs.Worker.{held_key, held_dummy}
use Rattle.register.specs.declared.Turn.{Turn}
use Rattle.acts.specs.declared.Effect.{Effect}
use Rattle.writes.specs.Writes.{tables_after}
use Rattle.writes.specs.Carry.{closed_by}
use Rattle.register.specs.Step.{closed}
use Rattle.promises.specs.Access.{Part, split_key, link, standing, spot, Word, of_node, of_bucket, word-discrete, part-discrete, value, Lent, Long, Alike}
use Rattle.promises.proofs.Stores.{Stored, stored, stores, All, stored_to, stored_all, effect_stores}
use Rattle.promises.proofs.InRange.{InRange, held_key_lem, held_dummy_lem}

-- ---- the parts of a node
pub spot_lt : (p : Part) → spot p < 3
spot_lt split_key = omega arith
spot_lt link = omega arith
spot_lt standing = omega arith

abbrev pub part_at : ℕ → Part
part_at zero = split_key
part_at (suc zero) = link
part_at (suc (suc k)) = standing

part_spot : (p : Part) → part_at (spot p) ≡ p
part_spot split_key = refl
part_spot link = refl
part_spot standing = refl

pub spot_part : (k : ℕ) → k < 3 → spot (part_at k) ≡ k
spot_part zero h = refl
spot_part (suc zero) h = refl
spot_part (suc (suc k)) h = omega arith

spot_inj : (p q : Part) → spot p ≡ spot q → p ≡ q
spot_inj p q e = sym (part_spot p) ∙ ap part_at e ∙ part_spot q

-- ---- a store leaves each other word
put_apart : (v : Word) (ts : Tables) (n : ℕ) (p : Part) (x : ℕ) → v ≢ of_node n p → value v (tables (put ts.nodes n (spot p) x) ts.buckets) ≡ value v ts
put_apart (of_bucket b) ts n p x ne = refl
put_apart (of_node i q) ts n p x ne = by_node (ℕ_discrete i n) (ℕ_discrete (spot q) (spot p))
  where
    by_node : Dec (i ≡ n) → Dec (spot q ≡ spot p) → word (put ts.nodes n (spot p) x) i (spot q) ≡ word ts.nodes i (spot q)
    by_node (no d) part = put_node ts.nodes n (spot p) x i (spot q) (spot_lt p) (spot_lt q) d
    by_node (yes e) (no d) = put_word ts.nodes n (spot p) x i (spot q) (spot_lt p) (spot_lt q) d
    by_node (yes e) (yes f) = absurd (ne (ap₂ of_node e (spot_inj q p f)))

store_apart : (v : Word) (ts : Tables) (b x : ℕ) → v ≢ of_bucket b → value v (tables ts.nodes (store ts.buckets b x)) ≡ value v ts
store_apart (of_bucket c) ts b x ne = store_other ts.buckets b x c (λ e. ne (ap of_bucket e))
store_apart (of_node i q) ts b x ne = refl

one_apart : (v w : Word) (x : ℕ) (ts : Tables) → v ≢ w → value v (stored_to (stored w x) ts) ≡ value v ts
one_apart v (of_node n p) x ts ne = put_apart v ts n p x ne
one_apart v (of_bucket b) x ts ne = store_apart v ts b x ne

pub all_apart : (ss : List Stored) (v : Word) (ts : Tables) → All (λ w. v ≢ w) ss → value v (stored_all ss ts) ≡ value v ts
all_apart [] v ts far = refl
all_apart (s ∷ ss) v ts far = all_apart ss v (stored_to s ts) far.1 ∙ one_apart v s.at s.what ts far.0

-- ---- a store keeps the tables' lengths
one_length : (w : Word) (x : ℕ) (ts : Tables) → (length (stored_to (stored w x) ts).nodes ≡ length ts.nodes) × (length (stored_to (stored w x) ts).buckets ≡ length ts.buckets)
one_length (of_node n p) x ts = (put_length ts.nodes n (spot p) x, refl)
one_length (of_bucket b) x ts = (refl, store_length ts.buckets b x)

pub all_length : (ss : List Stored) (ts : Tables) → (length (stored_all ss ts).nodes ≡ length ts.nodes) × (length (stored_all ss ts).buckets ≡ length ts.buckets)
all_length [] ts = (refl, refl)
all_length (s ∷ ss) ts =
    let one = one_length s.at s.what ts in
    let rest = all_length ss (stored_to s ts) in
    (rest.0 ∙ one.0, rest.1 ∙ one.1)

pub effect_length : (e : Effect) (ts : Tables) → (length (tables_after e ts).nodes ≡ length ts.nodes) × (length (tables_after e ts).buckets ≡ length ts.buckets)
effect_length e ts =
    let k = all_length (stores e) ts in
    let is = effect_stores e ts in
    (ap (λ (us : Tables). length us.nodes) is ∙ k.0, ap (λ (us : Tables). length us.buckets) is ∙ k.1)

-- ---- closing: the nodes still held, and the sweep
-- the word is no standing of the nodes 1 to n
abbrev pub NoStanding : ℕ → Word → Type 0
NoStanding n v = (i : ℕ) → 1 ≤ i → i ≤ n → v ≢ of_node i standing

-- the tables with other nodes
abbrev over : Tables → List ℕ → Tables
over ts ns = tables ns ts.buckets

sweep_apart : (w n : ℕ) (v : Word) (ts : Tables) → NoStanding n v → value v (over ts (sweep w n ts.nodes)) ≡ value v ts
unfolding sweep
sweep_apart w zero v ts far = refl
sweep_apart w (suc n) v ts far =
    let ns = sweep w n ts.nodes in
    put_apart v (over ts ns) (suc n) standing (leave w (word ns (suc n) STANDING)) (far (suc n) (omega arith) (omega arith)) ∙
    sweep_apart w n v ts (λ i h k. far i h (omega arith))

free_apart : (v : Word) (ts : Tables) (k n : ℕ) → k ≤ n → NoStanding n v → value v (over ts (put ts.nodes k STANDING 0)) ≡ value v ts
free_apart v ts zero n h far = rw (put_nothing ts.nodes STANDING 0)
free_apart v ts (suc k) n h far = put_apart v ts (suc k) standing 0 (far (suc k) (omega arith) h)

-- closing changes standings of the nodes 1 to N alone
pub closed_apart :
    (t : Turn) → InRange t.header t.worker → (v : Word) (ts : Tables) → NoStanding (nodes_of t.header) v
    → value v (over ts (closed t ts.nodes)) ≡ value v ts
unfolding closed_by
closed_apart t r v ts far =
    let h = t.header in
    let x = t.worker in
    let ms = put ts.nodes (held_key x) STANDING 0 in
    sweep_apart t.number (nodes_of h) v (over ts (put ms (held_dummy x) STANDING 0)) far ∙
    free_apart v (over ts ms) (held_dummy x) (nodes_of h) (held_dummy_lem h x r) far ∙
    free_apart v ts (held_key x) (nodes_of h) (held_key_lem h x r) far

-- the nodes still held become free by two stores
abbrev frees : Turn → List Stored
frees t = stored (of_node (held_key t.worker) standing) 0 ∷ stored (of_node (held_dummy t.worker) standing) 0 ∷ []

abbrev freed : Turn → Tables → List ℕ
freed t ts = (stored_all (frees t) ts).nodes

pub closed_length : (t : Turn) (ts : Tables) → length (closed t ts.nodes) ≡ length ts.nodes
unfolding closed_by
closed_length t ts = sweep_length t.number (nodes_of t.header) (freed t ts) ∙ (all_length (frees t) ts).0

-- ---- the same store to two pairs of tables
alike_then : (a b c d e f : ℕ) → Alike a b c d → Alike c d e f → Alike a b e f
alike_then a b c d e f first (inr q) = inr q
alike_then a b c d e f (inl p) (inl q) = inl (q.0 ∙ p.0, q.1 ∙ p.1)
alike_then a b c d e f (inr p) (inl q) = inr (q.0 ∙ p ∙ sym q.1)

-- what was the same before is the same after
pub agreed : (a b c d : ℕ) → a ≡ b → Alike a b c d → c ≡ d
agreed a b c d e (inl p) = p.0 ∙ e ∙ sym p.1
agreed a b c d e (inr q) = q

-- the word in two pairs of tables before, and in the two after
abbrev pub AlikeAt : Word → (ts us ts' us' : Tables) → Type 0
AlikeAt v ts us ts' us' = Alike (value v ts) (value v us) (value v ts') (value v us')

module _ (h : Header) where
  one_long : (s : Stored) (ts : Tables) → Long h ts → Long h (stored_to s ts)
  one_long s ts l =
      let one = one_length s.at s.what ts in
      record { nodes = omega arith; buckets = omega arith }

  one_both :
      (w : Word) (x : ℕ) (ts us : Tables) → Lent h w → Long h ts → Long h us
      → value w (stored_to (stored w x) ts) ≡ value w (stored_to (stored w x) us)
  one_both (of_node zero p) x ts us w l m = nothing (put ts.nodes 0 (spot p) x) (spot p) ∙ sym (nothing (put us.nodes 0 (spot p) x) (spot p))
  one_both (of_node (suc n) p) x ts us w l m =
      put_same ts.nodes (suc n) (spot p) x (spot_lt p) (omega arith) (omega arith) ∙ sym (put_same us.nodes (suc n) (spot p) x (spot_lt p) (omega arith) (omega arith))
  one_both (of_bucket b) x ts us w l m = store_same ts.buckets b x (omega arith) ∙ sym (store_same us.buckets b x (omega arith))

  one_alike :
      (v w : Word) (x : ℕ) (ts us : Tables) → Lent h v → Long h ts → Long h us → Dec (v ≡ w)
      → AlikeAt v ts us (stored_to (stored w x) ts) (stored_to (stored w x) us)
  one_alike v w x ts us lent l m (no ne) = inl (one_apart v w x ts ne, one_apart v w x us ne)
  one_alike v w x ts us lent l m (yes e) = rw (← e) (inr (one_both v x ts us lent l m))

  pub all_alike :
      (ss : List Stored) (v : Word) (ts us : Tables) → Lent h v → Long h ts → Long h us
      → AlikeAt v ts us (stored_all ss ts) (stored_all ss us)
  all_alike [] v ts us lent l m = inl (refl, refl)
  all_alike (s ∷ ss) v ts us lent l m =
      alike_then _ _ _ _ _ _ (one_alike v s.at s.what ts us lent l m (word-discrete ℕ_discrete part-discrete v s.at))
      (all_alike ss v (stored_to s ts) (stored_to s us) lent (one_long s ts l) (one_long s us m))

-- closing leaves the same standing where there was the same
pub closed_same :
    (t : Turn) (i : ℕ) (ts us : Tables) → 1 ≤ i → i ≤ nodes_of t.header → Long t.header ts → Long t.header us
    → word ts.nodes i STANDING ≡ word us.nodes i STANDING → word (closed t ts.nodes) i STANDING ≡ word (closed t us.nodes) i STANDING
unfolding closed_by
closed_same t i ts us low high l m e =
    swept ts l.nodes ∙
    ap (leave t.number) (agreed _ _ _ _ e (all_alike t.header (frees t) (of_node i standing) ts us high l m)) ∙
    sym (swept us m.nodes)
  where
    swept :
        (vs : Tables) → nodes_of t.header * 3 ≤ length vs.nodes
        → word (sweep t.number (nodes_of t.header) (freed t vs)) i STANDING ≡ leave t.number (word (freed t vs) i STANDING)
    swept vs long = sweep_standing t.number (nodes_of t.header) (freed t vs) i low high (omega (arith, (all_length (frees t) vs).0))
