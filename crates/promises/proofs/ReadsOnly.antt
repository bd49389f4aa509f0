-- A step looks at the tables through their lengths and the word at its place alone, so tables that agree there get the same decision.
-- Assumes nothing.
use Prim.Native.Nat.{ℕ}
use mathlib.Core.Path.{◌≡◌, refl, sym, ap, ap₂, subst, ◌∙◌}
use native.Mathlib.Omega.{arith}
use lib.Dec.{eqb}
use Rattle.std.specs.Prelude.{Ok, Err}
use Rattle.choice.specs.Choice.{pick}
use Rattle.choice.proofs.Cases.{by_eq}
use Rattle.choice.proofs.Auto.{pick_true, pick_false}
use borrow.Author.Tests.{eq-eqb, ne_eqb}
use Rattle.words.specs.Words.{Tables, lengths, bucket}
use Rattle.scans.proofs.Laws.{free_reads}
use Rattle.names.specs.Names.{I1, TB, B2, B4, F1, F2, F3, F4, L2, D4A, D4B}
use Rattle.moves.specs.declared.Seen.{Seen}
use Rattle.acts.specs.declared.Move.{Move}
use Rattle.acts.specs.declared.Move.TheVariants.{Damaged, Going, Ended}
use Rattle.moves.specs.Moves.{decided}
use Rattle.register.specs.declared.Turn.{Turn}
use Rattle.names.specs.Verdicts.{Verdict}
use Rattle.register.specs.Step.{word_given, asked_at, word_at, word_for, split_for, seen_by, carried}
use Rattle.register.specs.Calls.{stepped_by, step_verdict, step_of}
use Rattle.promises.specs.Access as A
use Rattle.promises.specs.Access.{Reads, Agree, place_of, of_node, split_key, standing}
use Rattle.promises.specs.OneAccess.{ReadsOnly}

-- two choices by the same place are equal where what they Choose there is
at_place : (p k a b c d : ℕ) → (p ≡ k → a ≡ c) → b ≡ d → pick (eqb p k) a b ≡ pick (eqb p k) c d
at_place p k a b c d here there =
    by_eq (λ (x : ℕ). x ≡ pick (eqb p k) c d) p k
    (λ e. here e ∙ rw (pick_true (eqb p k) c d (eq-eqb p k e)))
    (λ n. there ∙ rw (pick_false (eqb p k) c d (ne_eqb p k n)))

module _ (t : Turn) (ts us : Tables) (agree : Agree (Reads t) t.header ts us) where
  -- the bucket that is read
  abbrev SameBucket : ℕ → Type 0
  SameBucket k = bucket ts.buckets (asked_at k t.worker) ≡ bucket us.buckets (asked_at k t.worker)

  at_tb : place_of t ≡ TB → SameBucket (place_of t)
  unfolding asked_at pick
  at_tb p = subst SameBucket (sym p) (agree.same _ (A.tb p))

  at_b2 : place_of t ≡ B2 → SameBucket (place_of t)
  unfolding asked_at pick
  at_b2 p = subst SameBucket (sym p) (agree.same _ (A.b2 p))

  -- the word that is read
  word_same : word_for t ts ≡ word_for t us
  unfolding word_for word_at word_given
  word_same =
      at_place (place_of t) I1 _ _ _ _ (λ p. free_reads ts.nodes _ _ us.nodes (λ n a b. agree.same (of_node n standing) (A.i1 p n (omega arith) b)))
      (at_place (place_of t) TB _ _ _ _ at_tb
      (at_place (place_of t) B2 _ _ _ _ at_b2
      (at_place (place_of t) B4 _ _ _ _ (λ p. free_reads ts.nodes _ _ us.nodes (λ n a b. agree.same (of_node n standing) (A.b4 p n a b)))
      (at_place (place_of t) F1 _ _ _ _ (λ p. agree.same _ (A.f1 p))
      (at_place (place_of t) F2 _ _ _ _ (λ p. agree.same _ (A.f2 p))
      (at_place (place_of t) F3 _ _ _ _ (λ p. agree.same _ (A.f3 p))
      (at_place (place_of t) F4 _ _ _ _ (λ p. agree.same _ (A.f4 p))
      (at_place (place_of t) L2 _ _ _ _ (λ p. agree.same _ (A.l2 p))
      (at_place (place_of t) D4A _ _ _ _ (λ p. agree.same _ (A.d4a p))
      (at_place (place_of t) D4B _ _ _ _ (λ p. agree.same _ (A.d4b p))
      refl))))))))))

  -- the split key that is read
  split_same : split_for t ts.nodes ≡ split_for t us.nodes
  unfolding split_for
  split_same = at_place (place_of t) F3 _ 0 _ 0 (λ p. agree.same (of_node t.worker.cur split_key) (A.f3_key p)) refl

  -- what is seen, and so what is decided
  seen_same : seen_by t ts ≡ seen_by t us
  seen_same = ap₂ {C = Seen} (λ (w k : ℕ). record { header = t.header; worker = t.worker; word = w; split = k }) word_same split_same

  decided_same : decided (seen_by t ts) ≡ decided (seen_by t us)
  decided_same = ap decided seen_same

  verdict_same : step_verdict t (lengths ts) ≡ step_verdict t (lengths us)
  unfolding step_verdict
  verdict_same = rw agree.short

  carried_same : (m : Move) → (carried t m ts).out ≡ (carried t m us).out
  carried_same Damaged = refl
  carried_same (Going x e) = refl
  carried_same (Ended a e) = refl

  stepped_same : (v : Verdict) → (stepped_by t ts v).out ≡ (stepped_by t us v).out
  stepped_same (Err a) = refl
  stepped_same (Ok _) = carried_same (decided (seen_by t ts)) ∙ ap (λ (m : Move). (carried t m us).out) decided_same

  outcome_same : (step_of t ts).out ≡ (step_of t us).out
  unfolding step_of
  outcome_same = stepped_same (step_verdict t (lengths ts)) ∙ ap (λ (v : Verdict). (stepped_by t us v).out) verdict_same

pub reads_only : ReadsOnly
reads_only t ts us agree =
    record {
      verdict = verdict_same t ts us agree;
      decision = decided_same t ts us agree;
      out = outcome_same t ts us agree;
    }
