-- The contract says the buffer at exit and the place that is returned as definitions of the arguments, so two runs that meet it agree.
-- Assumes nothing.
use mathlib.Core.Path.{◌≡◌, sym, ◌∙◌}
use contract.Lifetimes.{Lfts}
use denote.Triple.Clauses.{AtExit}
use borrow.Fn.Kinds.{Dens, res_t, ended_of}
use Rattle.replay.proofs.run.Reads as run
use Rattle.replay.proofs.run.Kinds as run-kinds

pub run_same : (κs : Lfts 2) (a : Dens κs run-kinds.ps) (x y : (res_t run-kinds.r κs).Denot) (e f : AtExit (ended_of 2 run-kinds.ps run-kinds.r) κs)
    → run.Post κs a x e → run.Post κs a y f → (x ≡ y) × (e.1.0.now ≡ f.1.0.now)
run_same κs a x y e f p q = (p.next ∙ sym q.next, p.buffer ∙ sym q.buffer)
