-- The contract says what is handed back and what the lent tables hold at exit as one definition of what was handed in, so two runs that meet it agree in all of it.
-- Assumes nothing.
use mathlib.Core.Path.{◌≡◌, sym, ap, ◌∙◌}
use contract.Lifetimes.{Lfts}
use denote.Triple.Clauses.{AtExit}
use borrow.Fn.Kinds.{Dens, res_t, ended_of}
use Rattle.words.specs.Words.{Left}
use Rattle.acts.specs.declared.Outcome.{Outcome}
use Rattle.register.proofs.Turn.call.Reads as call
use Rattle.register.proofs.Turn.call.Kinds as call-kinds

-- two starts or two steps: the same answer, steps, header, record, node words and bucket words
pub call_same : (κs : Lfts 2) (a : Dens κs call-kinds.ps) (x y : (res_t call-kinds.r κs).Denot) (e f : AtExit (ended_of 2 call-kinds.ps call-kinds.r) κs)
    → call.Post κs a x e → call.Post κs a y f
    → (x ≡ y) × (e.1.1.0.now ≡ f.1.1.0.now) × (e.1.1.1.0.now ≡ f.1.1.1.0.now)
call_same κs a x y e f p q =
    let same = p ∙ sym q in
    (ap (λ (l : Left Outcome). l.out) same, ap (λ (l : Left Outcome). l.tables.nodes) same, ap (λ (l : Left Outcome). l.tables.buckets) same)
