-- What preparing leaves keeps the invariant: node 1 is the chain, every other node is free, every record is idle.
-- Assumes nothing.
use mathlib.Core.Path.{◌≡◌, refl, sym, ap, ◌∙◌}
use mathlib.Core.Logic.{◌≢◌, ◌⊎◌, inl, inr}
use mathlib.Core.Bool.{false}
use mathlib.Core.List.Memᴰ.{head as here}
use mathlib.Core.List.Memᴰ.{tail as there}
use mathlib.Core.List.{List, [], ◌∷◌, Memᴰ as In}
use Prim.Native.Nat.{ℕ, zero, suc, ◌*◌, ◌≤◌, ◌<◌}
use native.Mathlib.Omega.{arith}
use native.Mathlib.Decide.{ℕ_discrete}
use lib.Dec.{ltb}
use lib.ListN.{length, get_or, set, length-set}
use lib.Seq.{get_or-set_same, get_or-set_other}
use lib.Pow.{pow_pos}
use borrow.Author.Tests.{ltb-false}
use Rattle.choice.specs.Choice.{pick}
use Rattle.choice.proofs.Auto.{pick_true}
use Rattle.choice.proofs.Cases.{by_bool, both}
use Rattle.choice.proofs.Telling.{clears_or, clears_lt}
use Rattle.split.specs.Split.{reverse, dummy}
use Rattle.split.proofs.Laws.{rev_of_zero}
use Rattle.words.specs.Words.{SPLIT_KEY, LINK, STANDING, TAKEN}
use Rattle.sets.specs.Sets.{bit}
use Rattle.sets.proofs.Laws.{bit_zero}
use Rattle.names.specs.Names.{number_of, goes_on}
use Rattle.names.specs.declared.Answer.{Answer}
use Rattle.names.specs.declared.Answer.TheVariants.{Going}
use Rattle.header.specs.declared.Header.{Header}
use Rattle.header.specs.Header.{nodes_of, dummies_of, limit_broken}
use Rattle.header.specs.Rows as rows
use Rattle.record.specs.declared.Worker.{Worker}
use Rattle.record.specs.Worker.{idle}
use Rattle.prepare.specs.declared.Limits.{Limits}
use Rattle.names.specs.Verdicts.{Verdict}
use Rattle.prepare.specs.Prepare.{fresh_header, prepare_verdict, too_few_for, prepared_by, prepared}
use Rattle.header.specs.Header.{is_short}
use Rattle.words.specs.Words.{Tables, lengths, Left}
use Rattle.acts.specs.declared.Called.{Called}
use Rattle.crew.specs.Crew.{Ready as Ready', filled, prepare_one, made as filled_by, prepare_at}
use Rattle.promises.proofs.Fresh.{prepare_fresh}
use Rattle.register.specs.Registered.{key, link, standing}
use Rattle.story.specs.Shared.{Shared, worker_of}
use Rattle.story.specs.Trace.{First}
use Rattle.story.specs.Run.{State, state_of}
use Rattle.story.proofs.Facts.{Root}
use Rattle.story.proofs.Hands.{idle_key, idle_dummy}
use Rattle.story.proofs.Core.{Pasts, record_of, Inv}
use Rattle.story.proofs.Calls.{InvOf}

-- ---- what preparing asked for
module _ (l : Limits) (h : Header) (ts : Tables) where
  Asked : Verdict → Type 0
  Asked v = (prepared_by l h ts v).out.answer ≡ Going → (limit_broken (fresh_header l) ≡ false) × (is_short (fresh_header l) (lengths ts) ≡ false)

  pub asked : (prepared l h ts).out.answer ≡ Going → (limit_broken (fresh_header l) ≡ false) × (is_short (fresh_header l) (lengths ts) ≡ false)
  unfolding prepared prepare_verdict Asked
  asked = by_bool Asked (limit_broken (fresh_header l)) (λ _ e. absurd (omega (arith, ap number_of e)))
      (λ a. by_bool Asked (is_short (fresh_header l) (lengths ts)) (λ _ e. absurd (omega (arith, ap number_of e))) (λ b _. (a, b)))

  pub short : is_short (fresh_header l) (lengths ts) ≡ false → (nodes_of (fresh_header l) * 3 ≤ length ts.nodes) × (l.m ≤ length ts.buckets)
  unfolding is_short
  short e = (clears_or (clears_lt (length ts.nodes) (nodes_of (fresh_header l) * 3)) (clears_lt (length ts.buckets) l.m)).sound e

-- ---- the records
filled_length : (n : ℕ) (x : Worker) (ws : List Worker) → length (filled n x ws) ≡ length ws
unfolding filled
filled_length zero x ws = refl
filled_length (suc n) x ws = length-set (filled n x ws) n x ∙ filled_length n x ws

filled_at : (n : ℕ) (x : Worker) (ws : List Worker) (v : ℕ) → v < n → n ≤ length ws → get_or (filled n x ws) v idle ≡ x
unfolding filled
filled_at zero x ws v l b = absurd (omega arith)
filled_at (suc n) x ws v l b = by (ℕ_discrete v n) (λ q. filled_at n x ws v q (omega arith))
  where
    by : Dec (v ≡ n) → (v < n → get_or (filled n x ws) v idle ≡ x) → get_or (set (filled n x ws) n x) v idle ≡ x
    by (yes e) rest = rw e (get_or-set_same (filled n x ws) n x idle (omega (arith, filled_length n x ws)))
    by (no ne) rest = get_or-set_other (filled n x ws) n v x idle ne ∙ rest (omega arith)

filled_past : (n : ℕ) (x : Worker) (ws : List Worker) (v : ℕ) → n ≤ v → get_or (filled n x ws) v idle ≡ get_or ws v idle
unfolding filled
filled_past zero x ws v b = refl
filled_past (suc n) x ws v b = get_or-set_other (filled n x ws) n v x idle (λ e. omega arith) ∙ filled_past n x ws v (omega arith)

dummy_zero : dummy 0 ≡ 0
unfolding dummy reverse
dummy_zero = rev_of_zero 32

-- ---- the invariant
module _ (l : Limits) (s : Shared) (f : First l s) (Ps : Pasts) where
  abbrev lim : rows.Limits (fresh_header l)
  lim = f.limits

  abbrev rest : (v : ℕ) → v < l.w → worker_of s v ≡ idle
  rest = f.rest

  abbrev N : ℕ
  N = nodes_of (fresh_header l)

  abbrev m : List ℕ
  m = s.nodes

  one : 1 ≤ N
  one = omega (arith, lim.buckets.0)

  keys : (n : ℕ) → n ≤ N → key m n ≡ 0
  keys n b = f.node_words n SPLIT_KEY (omega arith) b (λ e. omega (arith, e.1))

  links : (n : ℕ) → n ≤ N → link m n ≡ 0
  links n b = f.node_words n LINK (omega arith) b (λ e. omega (arith, e.1))

  others : (n : ℕ) → n ≤ N → n ≢ 1 → standing m n ≡ 0
  others n b ne = f.node_words n STANDING (omega arith) b (λ e. ne e.0)

  is_one : {n : ℕ} → In n (1 ∷ []) → n ≡ 1
  is_one (here e) = e
  is_one {n = n} (there x) = elim x [ ]

  -- a node is the first or free
  cases : (n : ℕ) → n ≤ N → (n ≡ 1) ⊎ (standing m n ≡ 0)
  cases n b = by (ℕ_discrete n 1)
    where
      by : Dec (n ≡ 1) → (n ≡ 1) ⊎ (standing m n ≡ 0)
      by (yes e) = inl e
      by (no ne) = inr (others n b ne)

  at_one : {n : ℕ} → n ≡ 1 → standing m n ≡ TAKEN
  at_one e = rw e f.first_taken

  fresh_core : Inv (fresh_header l) s.workers Ps (1 ∷ []) m s.value
  fresh_core = record {
    limits = lim;
    size = (omega arith, lim.buckets.0, (1, omega arith, refl));
    few = pow_pos l.w;
    long = f.enough;
    of_nodes = record {
      size = f.long;
      walk = record { is = refl; some = omega arith; low = omega arith; rest = rw (links 1 one) (omega arith) };
      zero = keys 1 one;
      fits = λ n i. rw (is_one i) one;
      is = λ n i. at_one (is_one i);
      dead = λ n i e. absurd (omega (arith, rw (links n (rw (is_one i) one)) at e));
      even = λ n i b. rw (keys n (rw (is_one i) one)) (omega arith);
      odd = λ n i b. absurd (omega (arith, is_one i, lim.buckets.0));
      kinds = λ n b. ⊎_map n b (cases n b);
      left = λ n b a s. absurd (lefts n a s (cases n b));
      links = λ n b. rw (links n b) (omega arith);
    };
    key_held = λ z. absurd (z refl);
    dummy_held = λ z. absurd (z refl);
    fact = λ v lt ne. inl (rest v lt);
    bits = λ v lt ne. inl (rw (rest v lt) refl, bit_zero v);
    apart = λ u v a b p q ne. (λ z. absurd (z (rw (rest u a) idle_key)), λ z. absurd (z (rw (rest u a) idle_dummy)));
    key_mine = λ v lt ne z. absurd (z refl);
    dummy_mine = λ v lt ne z. absurd (z refl);
    whole = λ n b t. wholes n t (cases n b);
    waits = λ n v b a e. absurd (waiting n v a e (cases n b));
    keyed = λ n b a s. absurd (lefts n a s (cases n b));
    exact = λ n i b. record { bucket = 0; real = omega (arith, lim.buckets.0); has = rw (is_one i) (keys 1 one ∙ sym dummy_zero) };
    root₀ = λ e. omega (arith, f.first_bucket);
    root = λ b lt ne. roots b lt ne (ℕ_discrete b 0);
  }
    where
      ⊎_map : (n : ℕ) → n ≤ N → (n ≡ 1) ⊎ (standing m n ≡ 0) → (standing m n < 65536) ⊎ (standing m n ≡ TAKEN)
      ⊎_map n b (inl e) = inr (at_one e)
      ⊎_map n b (inr e) = inl (omega arith)

      lefts : (n : ℕ) → 1 ≤ standing m n → standing m n < 65536 → (n ≡ 1) ⊎ (standing m n ≡ 0) → ⊥
      lefts n a s (inl e) = omega (arith, at_one e)
      lefts n a s (inr e) = omega arith

      wholes : {A : Type 0} (n : ℕ) → standing m n ≡ TAKEN → (n ≡ 1) ⊎ (standing m n ≡ 0) → In n (1 ∷ []) ⊎ A
      wholes n t (inl e) = inl (here e)
      wholes n t (inr e) = absurd (omega arith)

      waiting : (n v : ℕ) → standing m n < 65536 → bit v (standing m n) ≡ 1 → (n ≡ 1) ⊎ (standing m n ≡ 0) → ⊥
      waiting n v a b (inl e) = omega (arith, at_one e)
      waiting n v a b (inr e) = omega (arith, bit_zero v, rw e at b)

      roots : (b : ℕ) → b < l.m → s.value b ≢ 0 → Dec (b ≡ 0) → Root (dummies_of (fresh_header l)) (1 ∷ []) m b (s.value b)
      roots b lt ne (yes e) = rw (e, f.first_bucket) (record { on = here refl; sort = omega (arith, lim.buckets.0); has = keys 1 one ∙ sym dummy_zero })
      roots b lt ne (no z) = absurd (ne (f.bucket_words b lt z))

  pub fresh_inv : InvOf s Ps (1 ∷ [])
  fresh_inv = rw f.header fresh_core

-- ---- a fresh state: what preparing left
pub record Ready (l : Limits) (k : Left Called) (s : State) : Type 0 where
  pub header : s.header ≡ fresh_header l
  pub tables : s.tables ≡ k.tables
  pub going : k.out.answer ≡ Going
  pub enough : l.w ≤ length s.workers
  pub rest : (v : ℕ) → v < l.w → record_of s.workers v ≡ idle

module _ (l : Limits) (h : Header) (ws : List Worker) (ts : Tables) where
  abbrev made : Left Called
  made = prepared l h ts

  -- what is left once the records that are wanted are filled
  abbrev state : Left Ready' → State
  state p = state_of (filled_by ws p)

  Readies : Left Ready' → Type 0
  Readies p = p.out.called.answer ≡ Going → Ready l made (state p)

  too_few : too_few_for l ≡ Going → ⊥
  unfolding too_few_for
  too_few = both (λ (a : Answer). a ≡ Going → ⊥) (limit_broken (fresh_header l)) (λ e. omega (arith, ap number_of e)) (λ e. omega (arith, ap number_of e))

  workers : made.out.answer ≡ Going → filled (pick (goes_on made.out.answer) l.w 0) idle ws ≡ filled l.w idle ws
  workers e = ap (λ (n : ℕ). filled n idle ws) (pick_true (goes_on made.out.answer) l.w 0 (rw e refl))

  readies : Readies (prepare_one l (length ws) h ts)
  unfolding prepare_one Readies
  readies = by_bool Readies (ltb (length ws) l.w) (λ _ e. absurd (too_few e)) (λ t e. record {
    header = (prepare_fresh l h ts e).header;
    tables = refl;
    going = e;
    enough = rw (workers e, filled_length l.w idle ws) (ltb-false (length ws) l.w t);
    rest = λ v lt. rw (workers e) (filled_at l.w idle ws v lt (ltb-false (length ws) l.w t));
  })

  -- a record past W stays
  Leaves : ℕ → Left Ready' → Type 0
  Leaves v p = p.out.called.answer ≡ Going → record_of (state p).workers v ≡ record_of ws v

  pub leaves : (v : ℕ) → l.w ≤ v → (prepare_at l h ws ts).out.called.answer ≡ Going → record_of (prepare_at l h ws ts).out.workers v ≡ record_of ws v
  unfolding prepare_one Leaves
  leaves v b = by_bool (Leaves v) (ltb (length ws) l.w) (λ _ e. absurd (too_few e)) (λ t e. rw (workers e) (filled_past l.w idle ws v b))

  pub is_ready : (prepare_at l h ws ts).out.called.answer ≡ Going → Ready l made (state_of (prepare_at l h ws ts))
  unfolding Readies
  is_ready = readies
