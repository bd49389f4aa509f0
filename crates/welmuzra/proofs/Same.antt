-- Each contract says what is answered and what every lent word is at exit as one definition of what was handed in, so two runs that meet it agree in all of it.
-- Assumes nothing.
use Prim.Native.Nat.{ℕ}
use mathlib.Core.Path.{◌≡◌, sym, ap, ◌∙◌}
use mathlib.Core.List.{List}
use contract.Lifetimes.{Lfts}
use denote.Triple.Clauses.{AtExit}
use borrow.Fn.Kinds.{Dens, res_t, ended_of}
use Rattle.words.specs.Words.{Tables, tables, Left, left}
use Rattle.welmuzra.specs.declared.Reply.{Reply}
use Rattle.welmuzra.specs.Calls.{Replied, replied}
use Rattle.welmuzra.proofs.welmuzra_prepare.Reads as prepare
use Rattle.welmuzra.proofs.welmuzra_prepare.Kinds as prepare-kinds
use Rattle.welmuzra.proofs.welmuzra_start.Reads as start
use Rattle.welmuzra.proofs.welmuzra_start.Kinds as start-kinds
use Rattle.welmuzra.proofs.welmuzra_step.Reads as step
use Rattle.welmuzra.proofs.welmuzra_step.Kinds as step-kinds

-- what two calls leave that leave the same: the same answer, and the same words of header, records, nodes and buckets
same : (l : Left Replied) (x y : Reply) (hs hs' rs rs' : List ℕ) (ts ts' : Tables) → left (replied x hs rs) ts ≡ l → left (replied y hs' rs') ts' ≡ l
    → (x ≡ y) × (hs ≡ hs') × (rs ≡ rs') × (ts.nodes ≡ ts'.nodes) × (ts.buckets ≡ ts'.buckets)
same l x y hs hs' rs rs' ts ts' p q =
    let e = p ∙ sym q in
    (ap (λ (k : Left Replied). k.out.reply) e, ap (λ (k : Left Replied). k.out.header) e, ap (λ (k : Left Replied). k.out.records) e, ap (λ (k : Left Replied). k.tables.nodes) e, ap (λ (k : Left Replied). k.tables.buckets) e)

-- two preparings on the same arguments
pub prepare_same : (κs : Lfts 4) (a : Dens κs prepare-kinds.ps) (x y : (res_t prepare-kinds.r κs).Denot) (e f : AtExit (ended_of 4 prepare-kinds.ps prepare-kinds.r) κs)
    → prepare.Post κs a x e → prepare.Post κs a y f
    → (x ≡ y) × (e.0.now ≡ f.0.now) × (e.1.0.now ≡ f.1.0.now) × (e.1.1.0.now ≡ f.1.1.0.now) × (e.1.1.1.0.now ≡ f.1.1.1.0.now)
prepare_same κs a x y e f p q = same _ x y e.0.now f.0.now e.1.0.now f.1.0.now (tables e.1.1.0.now e.1.1.1.0.now) (tables f.1.1.0.now f.1.1.1.0.now) p q

-- two starts
pub start_same : (κs : Lfts 4) (a : Dens κs start-kinds.ps) (x y : (res_t start-kinds.r κs).Denot) (e f : AtExit (ended_of 4 start-kinds.ps start-kinds.r) κs)
    → start.Post κs a x e → start.Post κs a y f
    → (x ≡ y) × (e.0.now ≡ f.0.now) × (e.1.0.now ≡ f.1.0.now) × (e.1.1.0.now ≡ f.1.1.0.now) × (e.1.1.1.0.now ≡ f.1.1.1.0.now)
start_same κs a x y e f p q = same _ x y e.0.now f.0.now e.1.0.now f.1.0.now (tables e.1.1.0.now e.1.1.1.0.now) (tables f.1.1.0.now f.1.1.1.0.now) p q

-- two steps
pub step_same : (κs : Lfts 4) (a : Dens κs step-kinds.ps) (x y : (res_t step-kinds.r κs).Denot) (e f : AtExit (ended_of 4 step-kinds.ps step-kinds.r) κs)
    → step.Post κs a x e → step.Post κs a y f
    → (x ≡ y) × (e.0.now ≡ f.0.now) × (e.1.0.now ≡ f.1.0.now) × (e.1.1.0.now ≡ f.1.1.0.now) × (e.1.1.1.0.now ≡ f.1.1.1.0.now)
step_same κs a x y e f p q = same _ x y e.0.now f.0.now e.1.0.now f.1.0.now (tables e.1.1.0.now e.1.1.1.0.now) (tables f.1.1.0.now f.1.1.1.0.now) p q
