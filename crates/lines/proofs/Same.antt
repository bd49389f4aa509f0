-- The contract says what the page is at exit as a definition of the arguments, so two runs that meet it agree.
-- Assumes nothing.
use mathlib.Core.Path.{◌≡◌, sym, ◌∙◌}
use contract.Lifetimes.{Lfts}
use denote.Triple.Clauses.{AtExit}
use borrow.Fn.Kinds.{Dens, res_t, ended_of}
use Rattle.lines.proofs.put_line.Reads as put-line
use Rattle.lines.proofs.put_line.Kinds as put-line-kinds

pub put_line_same : (κs : Lfts 2) (a : Dens κs put-line-kinds.ps) (x y : (res_t put-line-kinds.r κs).Denot) (e f : AtExit (ended_of 2 put-line-kinds.ps put-line-kinds.r) κs)
    → put-line.Post κs a x e → put-line.Post κs a y f → e.0.now ≡ f.0.now
put_line_same κs a x y e f p q = p ∙ sym q
