-- Each contract says what is handed back and what the lent words are at exit as one definition of what was handed in, so two runs that meet it agree in all of it.
-- Assumes nothing.
use mathlib.Core.Path.{◌≡◌, sym, ap, ◌∙◌}
use contract.Lifetimes.{Lfts}
use denote.Triple.Clauses.{AtExit}
use borrow.Fn.Kinds.{Dens, res_t, ended_of}
use Rattle.words.specs.Words.{Tables, tables, Left, left}
use Rattle.crew.specs.Crew.{Crew, crew}
use Rattle.bank.specs.declared.Bank.{Bank}
use Rattle.bank.proofs.prepare.Reads as prepare
use Rattle.bank.proofs.prepare.Kinds as prepare-kinds
use Rattle.bank.proofs.serve.Reads as serve
use Rattle.bank.proofs.serve.Kinds as serve-kinds

-- the records come back in what a call hands back
same_bank : (l : Left Crew) (r r' : Bank) (ts ts' : Tables) → left (crew r.called r.workers) ts ≡ l → left (crew r'.called r'.workers) ts' ≡ l → (r ≡ r') × (ts.nodes ≡ ts'.nodes) × (ts.buckets ≡ ts'.buckets)
same_bank l r r' ts ts' p q =
    let e = p ∙ sym q in
    (ap (λ (k : Left Crew). record { called = k.out.called; workers = k.out.workers }) e, ap (λ (k : Left Crew). k.tables.nodes) e, ap (λ (k : Left Crew). k.tables.buckets) e)

-- two preparings of a table by value
pub prepare_same : (κs : Lfts 2) (a : Dens κs prepare-kinds.ps) (x y : (res_t prepare-kinds.r κs).Denot) (e f : AtExit (ended_of 2 prepare-kinds.ps prepare-kinds.r) κs)
    → prepare.Post κs a x e → prepare.Post κs a y f
    → (x ≡ y) × (e.1.1.1.0.now ≡ f.1.1.1.0.now) × (e.1.1.1.1.0.now ≡ f.1.1.1.1.0.now)
prepare_same κs a x y e f p q = same_bank _ x y (tables e.1.1.1.0.now e.1.1.1.1.0.now) (tables f.1.1.1.0.now f.1.1.1.1.0.now) p q

-- two calls of a worker
pub serve_same : (κs : Lfts 2) (a : Dens κs serve-kinds.ps) (x y : (res_t serve-kinds.r κs).Denot) (e f : AtExit (ended_of 2 serve-kinds.ps serve-kinds.r) κs)
    → serve.Post κs a x e → serve.Post κs a y f
    → (x ≡ y) × (e.1.1.1.1.1.0.now ≡ f.1.1.1.1.1.0.now) × (e.1.1.1.1.1.1.0.now ≡ f.1.1.1.1.1.1.0.now)
serve_same κs a x y e f p q =
    same_bank _ x y (tables e.1.1.1.1.1.0.now e.1.1.1.1.1.1.0.now) (tables f.1.1.1.1.1.0.now f.1.1.1.1.1.1.0.now) p q
