-- Each contract says its result, and what a lent table holds at exit, as one definition of the arguments, so two runs that meet it agree.
-- Assumes nothing.
use mathlib.Core.Path.{◌≡◌, sym, ◌∙◌}
use contract.Lifetimes.{Lfts}
use denote.Triple.Clauses.{AtExit}
use borrow.Fn.Kinds.{Dens, res_t, ended_of}
use Rattle.choice.proofs.Same.{Determined}
use Rattle.scans.proofs.free_node.Reads as free_node_lem
use Rattle.scans.proofs.free_node.Kinds as free-node-kinds
use Rattle.scans.proofs.sweep.Reads as sweep
use Rattle.scans.proofs.sweep.Kinds as sweep-kinds
use Rattle.scans.proofs.clear.Reads as clear
use Rattle.scans.proofs.clear.Kinds as clear-kinds

pub free_node_same : Determined 1 free-node-kinds.ps free-node-kinds.r free_node_lem.Post
free_node_same κs a x y e f p q = p ∙ sym q

pub sweep_same : (κs : Lfts 1) (a : Dens κs sweep-kinds.ps) (x y : (res_t sweep-kinds.r κs).Denot) (e f : AtExit (ended_of 1 sweep-kinds.ps sweep-kinds.r) κs)
    → sweep.Post κs a x e → sweep.Post κs a y f → e.0.now ≡ f.0.now
sweep_same κs a x y e f p q = p ∙ sym q

pub clear_same : (κs : Lfts 1) (a : Dens κs clear-kinds.ps) (x y : (res_t clear-kinds.r κs).Denot) (e f : AtExit (ended_of 1 clear-kinds.ps clear-kinds.r) κs)
    → clear.Post κs a x e → clear.Post κs a y f → e.0.now ≡ f.0.now
clear_same κs a x y e f p q = p ∙ sym q
