-- The contract says what is handed back and what both lent tables hold at exit as one definition of what was handed in, so two runs that meet it agree in all of it.
-- Assumes nothing.
use mathlib.Core.Path.{◌≡◌, sym, ap, ◌∙◌}
use contract.Lifetimes.{Lfts}
use denote.Triple.Clauses.{AtExit}
use borrow.Fn.Kinds.{Dens, res_t, ended_of}
use Rattle.words.specs.Words.{Left}
use Rattle.acts.specs.declared.Outcome.{Outcome}
use Rattle.writes.proofs.carry.Reads as carry
use Rattle.writes.proofs.carry.Kinds as carry-kinds

-- two decisions carried out: the same answer, steps, header, record, node words and bucket words
pub carry_same : (κs : Lfts 2) (a : Dens κs carry-kinds.ps) (x y : (res_t carry-kinds.r κs).Denot) (e f : AtExit (ended_of 2 carry-kinds.ps carry-kinds.r) κs)
    → carry.Post κs a x e → carry.Post κs a y f
    → (x ≡ y) × (e.1.1.1.1.1.0.now ≡ f.1.1.1.1.1.0.now) × (e.1.1.1.1.1.1.0.now ≡ f.1.1.1.1.1.1.0.now)
carry_same κs a x y e f p q =
    let same = p ∙ sym q in
    (ap (λ (l : Left Outcome). l.out) same, ap (λ (l : Left Outcome). l.tables.nodes) same, ap (λ (l : Left Outcome). l.tables.buckets) same)
