-- The stores of a decision are to the words of its place, closing goes through the standings of the nodes 1 to N, and no other word is stored to.
-- Assumes nothing.
use Prim.Native.Nat.{ℕ, ◌+◌, ◌*◌, ◌/◌, ◌%◌, ◌≤◌}
use mathlib.Core.List.{List, [], ◌∷◌}
use mathlib.Core.Logic.{◌≢◌}
use mathlib.Core.Path.{◌≡◌, refl, sym, ap, ◌∙◌}
use native.Mathlib.Omega.{arith}
use lib.ListN.{length, get_or}
use Rattle.words.specs.Words.{Tables, word, bucket}
use Rattle.words.proofs.Laws.{word_at}
use Rattle.header.specs.declared.Header.{Header}
use Rattle.header.specs.Header.{nodes_of}
use Rattle.acts.specs.declared.Effect.{Effect}
use Rattle.acts.specs.declared.Move.{Move}
use Rattle.acts.specs.declared.Move.TheVariants.{Damaged, Going, Ended}
use Rattle.moves.specs.Moves.{decided}
use Rattle.register.specs.declared.Turn.{Turn}
use Rattle.writes.specs.Writes.{tables_after}
use Rattle.register.specs.Step.{word_for, split_for, seen_by, carried}
use Rattle.register.specs.Calls.{step_of}
use Rattle.promises.specs.Access as A
use Rattle.promises.specs.Access.{Word, of_node, of_bucket, spot, value, Lent, Writes, Closes, closes}
use Rattle.promises.specs.OneAccess.{value_in, WritesOnly, BeyondKept}
use Rattle.promises.proofs.InRange.{InRange, by_verdict, held_for_lem, found_key_lem, found_dummy}
use Rattle.promises.proofs.Shape.{effect_at}
use Rattle.promises.proofs.Stores.{effect_of, Stored, stores, All, effect_stores}
use Rattle.promises.proofs.Effects.{part_at, spot_part, all_apart, effect_length, closed_apart, closed_length}

-- ---- a word that the place does not write and that closing does not reach
module _ (t : Turn) (ts : Tables) (v : Word) where
  far_from : (f : ℕ) (ss : List Stored) → (Writes t f v → ⊥) → All (Writes t f) ss → All (λ w. v ≢ w) ss
  far_from f [] none all = tt
  far_from f (s ∷ ss) none all = (λ e. none (rw e all.0), far_from f ss none all.1)

  effect_keeps : (e : Effect) → All (λ w. v ≢ w) (stores e) → value v (tables_after e ts) ≡ value v ts
  effect_keeps e far = rw (effect_stores e ts) (all_apart (stores e) v ts far)

  carried_keeps :
      InRange t.header t.worker → (m : Move) → All (λ w. v ≢ w) (stores (effect_of m)) → (Closes t.header m v → ⊥)
      → value_in v (carried t m ts) ≡ value v ts
  carried_keeps r Damaged far stays = refl
  carried_keeps r (Going x e) far stays = effect_keeps e far
  carried_keeps r (Ended a e) far stays =
      closed_apart t r v (tables_after e ts) (λ i low high q. stays (rw q (closes a e i low high))) ∙ effect_keeps e far

  decision_keeps :
      InRange t.header t.worker → (Writes t (word_for t ts) v → ⊥) → (Closes t.header (decided (seen_by t ts)) v → ⊥)
      → value_in v (carried t (decided (seen_by t ts)) ts) ≡ value v ts
  decision_keeps r none stays =
      let m = decided (seen_by t ts) in
      let f = word_for t ts in
      carried_keeps r m (far_from f (stores (effect_of m)) none (effect_at t f (split_for t ts.nodes)).writes) stays

pub writes_only : WritesOnly
writes_only t ts v none stays = by_verdict t ts (λ a. value_in v a ≡ value v ts) (λ a. refl) (λ r. decision_keeps t ts v r none stays)

-- ---- a word past the 3N node words and M bucket words
writes_lent : (t : Turn) (ts : Tables) → InRange t.header t.worker → {v : Word} → Writes t (word_for t ts) v → Lent t.header v
writes_lent t ts r (A.i1_key p) = found_key_lem t ts p
writes_lent t ts r (A.i1_taken p) = found_key_lem t ts p
writes_lent t ts r (A.b4_key p) = found_dummy t ts p
writes_lent t ts r (A.b4_taken p) = found_dummy t ts p
writes_lent t ts r (A.f3 p) = r.dummy
writes_lent t ts r (A.f4_link p) = r.prev
writes_lent t ts r (A.f4_standing p) = r.cur
writes_lent t ts r (A.l2_held p) = held_for_lem t.header t.worker r
writes_lent t ts r (A.l2_prev p) = r.prev
writes_lent t ts r (A.b8 p) = r.making
writes_lent t ts r (A.d4a p) = r.cur
writes_lent t ts r (A.d4b_link p) = r.prev
writes_lent t ts r (A.d4b_standing p) = r.cur

closes_lent : {h : Header} {m : Move} {v : Word} → Closes h m v → Lent h v
closes_lent (closes a e n low high) = high

module _ (t : Turn) (ts : Tables) where
  pub beyond : (v : Word) → (Lent t.header v → ⊥) → value_in v (step_of t ts) ≡ value v ts
  beyond v past =
      by_verdict t ts (λ a. value_in v a ≡ value v ts) (λ a. refl)
      (λ r. decision_keeps t ts v r (λ w. past (writes_lent t ts r w)) (λ c. past (closes_lent c)))

  -- index i of the node table is a part of node i / 3 + 1
  nodes_beyond : (i : ℕ) → nodes_of t.header * 3 ≤ i → get_or (step_of t ts).tables.nodes i 0 ≡ get_or ts.nodes i 0
  nodes_beyond i past = sym (named (step_of t ts).tables.nodes) ∙ beyond (of_node (i / 3 + 1) (part_at (i % 3))) (λ h. omega arith) ∙ named ts.nodes
    where
      named : (ms : List ℕ) → word ms (i / 3 + 1) (spot (part_at (i % 3))) ≡ get_or ms i 0
      named ms =
          ap (word ms (i / 3 + 1)) (spot_part (i % 3) (omega arith)) ∙
          word_at ms (i / 3 + 1) (i % 3) (omega arith) ∙
          ap (λ (k : ℕ). get_or ms k 0) (omega arith)

  buckets_beyond : (b : ℕ) → t.header.m ≤ b → get_or (step_of t ts).tables.buckets b 0 ≡ get_or ts.buckets b 0
  unfolding bucket
  buckets_beyond b past = beyond (of_bucket b) (λ h. omega arith)

  carried_length : (m : Move) → (length (carried t m ts).tables.nodes ≡ length ts.nodes) × (length (carried t m ts).tables.buckets ≡ length ts.buckets)
  carried_length Damaged = (refl, refl)
  carried_length (Going x e) = effect_length e ts
  carried_length (Ended a e) =
      let k = effect_length e ts in
      (closed_length t (tables_after e ts) ∙ k.0, k.1)

  step_length : (length (step_of t ts).tables.nodes ≡ length ts.nodes) × (length (step_of t ts).tables.buckets ≡ length ts.buckets)
  step_length =
      by_verdict t ts (λ l. (length l.tables.nodes ≡ length ts.nodes) × (length l.tables.buckets ≡ length ts.buckets)) (λ a. (refl, refl))
      (λ r. carried_length (decided (seen_by t ts)))

pub beyond_kept : (t : Turn) (ts : Tables) → BeyondKept t ts
beyond_kept t ts =
    record {
      nodes = nodes_beyond t ts;
      buckets = buckets_beyond t ts;
      nodes_length = (step_length t ts).0;
      buckets_length = (step_length t ts).1;
    }
