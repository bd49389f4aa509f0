-- Each contract says what is handed back, and preparing's what the lent tables hold at exit, as one definition of what was handed in, so two runs that meet it agree in all of it.
-- Assumes nothing.
use mathlib.Core.Path.{◌≡◌, sym, ap, ◌∙◌}
use contract.Lifetimes.{Lfts}
use denote.Triple.Clauses.{AtExit}
use borrow.Fn.Kinds.{Dens, res_t, ended_of}
use Rattle.choice.proofs.Same.{Determined}
use Rattle.words.specs.Words.{Left}
use Rattle.acts.specs.declared.Called.{Called}
use Rattle.prepare.proofs.Limits.prepare.Reads as prepare
use Rattle.prepare.proofs.Limits.prepare.Kinds as prepare-kinds
use Rattle.prepare.proofs.Limits.too_few.Reads as too_few
use Rattle.prepare.proofs.Limits.too_few.Kinds as too-few-kinds

pub too_few_same : Determined 0 too-few-kinds.ps too-few-kinds.r too_few.Post
too_few_same κs a x y e f p q = p ∙ sym q

-- two prepared registers that meet the contract on the same arguments: the same answer, header, node words and bucket words
pub prepare_same : (κs : Lfts 2) (a : Dens κs prepare-kinds.ps) (x y : (res_t prepare-kinds.r κs).Denot) (e f : AtExit (ended_of 2 prepare-kinds.ps prepare-kinds.r) κs)
    → prepare.Post κs a x e → prepare.Post κs a y f
    → (x ≡ y) × (e.1.1.0.now ≡ f.1.1.0.now) × (e.1.1.1.0.now ≡ f.1.1.1.0.now)
prepare_same κs a x y e f p q =
    let same = p ∙ sym q in
    (ap (λ (l : Left Called). l.out) same, ap (λ (l : Left Called). l.tables.nodes) same, ap (λ (l : Left Called). l.tables.buckets) same)
