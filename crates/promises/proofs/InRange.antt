-- A turn that passes has no fault in its record, so its nodes are at most N and its buckets below M; a free node that is found is one of N.
-- Assumes nothing.
use Prim.Native.Nat.{ℕ, ◌≤◌, ◌<◌}
use mathlib.Core.Bool.{Bool, true, false, true≢false, ◌||◌}
use mathlib.Core.List.{List}
use mathlib.Core.Path.{◌≡◌, refl, sym, ◌∙◌}
use native.Mathlib.Decide.{ℕ_discrete}
use native.Mathlib.Omega.{arith}
use borrow.Author.Tests.{ltb-false, leb-false}
use lib.Dec.{ltb}
use Rattle.std.specs.Prelude.{Ok, Err}
use Rattle.choice.specs.Choice.{pick}
use Rattle.choice.proofs.Cases.{both, by_bool}
use Rattle.scans.specs.Scans.{free_node}
use Rattle.scans.proofs.Laws.{free_node_lem}
use Rattle.names.specs.Names.{I1, B4}
use Rattle.names.specs.declared.Answer.{Answer}
use Rattle.header.specs.declared.Header.{Header}
use Rattle.header.specs.Header.{nodes_of, dummies_of}
use Rattle.record.specs.declared.Worker.{Worker}
use Rattle.faults.specs.Faults.{bucket_beyond, node_beyond, worker_damaged}
use Rattle.record.specs.Worker.{held_key, held_dummy}
use Rattle.moves.specs.Moves.{held_for, decided}
use Rattle.register.specs.declared.Turn.{Turn}
use Rattle.names.specs.Verdicts.{Verdict}
use Rattle.words.specs.declared.Lengths.{Lengths}
use Rattle.words.specs.Words.{Tables, lengths, Left, left}
use Rattle.acts.specs.declared.Outcome.{Outcome}
use Rattle.register.specs.Step.{refused_with, word_given, word_at, word_for, seen_by, carried}
use Rattle.register.specs.Calls.{stepped_by, step_verdict, step_of}
use Rattle.promises.specs.Access.{place_of}

-- the record names no node above N and no bucket at M or above
pub record InRange (h : Header) (x : Worker) : Type 0 where
  pub prev : x.prev ≤ nodes_of h
  pub cur : x.cur ≤ nodes_of h
  pub held : x.held ≤ nodes_of h
  pub dummy : x.dummy ≤ nodes_of h
  pub making : x.making < h.m

or_true : (a : Bool) → (a || true) ≡ true
or_true true = refl
or_true false = refl

-- a test that would make a fault fails where there is no fault
fails : (t fault : Bool) → (t ≡ true → fault ≡ true) → fault ≡ false → t ≡ false
fails true fault f e = absurd (true≢false (sym (f refl) ∙ e))
fails false fault f e = refl

in_nodes : (n : ℕ) (x : Worker) (a : ℕ) → (ltb n a ≡ true → node_beyond n x ≡ true) → node_beyond n x ≡ false → a ≤ n
in_nodes n x a f e = ltb-false n a (fails _ _ f e)

module _ (h : Header) (w : ℕ) (x : Worker) (fine : worker_damaged h w x ≡ false) where
  no_node : node_beyond (nodes_of h) x ≡ false
  unfolding worker_damaged
  no_node = fails _ _ (λ e. rw (e, or_true)) fine

  no_bucket : bucket_beyond h x ≡ false
  unfolding worker_damaged
  no_bucket = fails _ _ (λ e. rw (e, or_true)) fine

  in_range : InRange h x
  unfolding node_beyond bucket_beyond
  in_range =
      record {
        prev = in_nodes (nodes_of h) x x.prev (λ e. rw (e, or_true)) no_node;
        cur = in_nodes (nodes_of h) x x.cur (λ e. rw (e, or_true)) no_node;
        held = in_nodes (nodes_of h) x x.held (λ e. rw (e, or_true)) no_node;
        dummy = in_nodes (nodes_of h) x x.dummy (λ e. rw (e, or_true)) no_node;
        making = leb-false h.m x.making (fails _ _ (λ e. rw (e, or_true)) no_bucket);
      }

refused : {X : Type 0} (a : Answer) → ◌≡◌ {A = Verdict} (Err a) (Ok tt) → X
refused a e = absurd cc

-- the turn passes, so its record is in range
pub pass_range : (t : Turn) (lengths : Lengths) → step_verdict t lengths ≡ Ok tt → InRange t.header t.worker
unfolding step_verdict
pass_range t lengths =
    by_bool P _ (λ _. refused _)
    (λ _. by_bool P _ (λ _. refused _)
    (λ _. by_bool P _ (λ _. refused _)
    (λ _. by_bool P _ (λ _. refused _)
    (λ fine. both P _ (refused _) (λ _. in_range t.header t.number t.worker fine)))))
  where
    P : Verdict → Type 0
    P v = v ≡ Ok tt → InRange t.header t.worker

-- the nodes that a record holds are in range too
module _ (h : Header) (x : Worker) (r : InRange h x) where
  pub held_for_lem : held_for x ≤ nodes_of h
  unfolding held_for
  held_for_lem = both (λ (n : ℕ). n ≤ nodes_of h) _ r.dummy r.held

  pub held_key_lem : held_key x ≤ nodes_of h
  unfolding held_key
  held_key_lem = both (λ (n : ℕ). n ≤ nodes_of h) _ r.held (omega arith)

  pub held_dummy_lem : held_dummy x ≤ nodes_of h
  unfolding held_dummy
  held_dummy_lem = both (λ (n : ℕ). n ≤ nodes_of h) _ r.dummy (omega arith)

-- a free node is found among those looked through
free_le : (ns : List ℕ) (lo hi : ℕ) → 1 ≤ lo → free_node ns lo hi ≤ hi
free_le ns lo hi one = by_zero (ℕ_discrete (free_node ns lo hi) 0)
  where
    by_zero : Dec (free_node ns lo hi ≡ 0) → free_node ns lo hi ≤ hi
    by_zero (yes e) = omega arith
    by_zero (no ne) = (free_node_lem ns lo hi (free_node ns lo hi) refl ne one).1

pub found_key_lem : (t : Turn) (ts : Tables) → place_of t ≡ I1 → word_for t ts ≤ nodes_of t.header
unfolding word_for word_at word_given pick
found_key_lem t ts p = rw p (free_le ts.nodes _ _ (omega arith))

pub found_dummy : (t : Turn) (ts : Tables) → place_of t ≡ B4 → word_for t ts ≤ nodes_of t.header
unfolding word_for word_at word_given pick
found_dummy t ts p = rw p (omega (arith, free_le ts.nodes 1 (dummies_of t.header) (omega arith)))

-- a step is refused by its verdict, or its record is in range and its decision is carried out
pub by_verdict :
    (t : Turn) (ts : Tables) (P : Left Outcome → Type 0) → ((a : Answer) → P (left (refused_with a t) ts))
    → (InRange t.header t.worker → P (carried t (decided (seen_by t ts)) ts)) → P (step_of t ts)
unfolding step_of
by_verdict t ts P no_words words = go (step_verdict t (lengths ts)) refl
  where
    go : (v : Verdict) → step_verdict t (lengths ts) ≡ v → P (stepped_by t ts v)
    go (Err a) e = no_words a
    go (Ok _) e = words (pass_range t (lengths ts) e)
