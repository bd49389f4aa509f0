-- The contract says what the page is at exit as a definition of the arguments, so two runs that meet it agree.
-- Assumes nothing.
use mathlib.Core.Path.{◌≡◌, sym, ◌∙◌}
use contract.Lifetimes.{Lfts}
use denote.Triple.Clauses.{AtExit}
use borrow.Fn.Kinds.{Dens, res_t, ended_of}
use Rattle.choice.proofs.Same.{Determined}
use Rattle.text.proofs.Page.new.Reads as new
use Rattle.text.proofs.Page.new.Kinds as new-kinds
use Rattle.text.proofs.Page.put.Reads as put
use Rattle.text.proofs.Page.put.Kinds as put-kinds
use Rattle.text.proofs.Page.text.Reads as text
use Rattle.text.proofs.Page.text.Kinds as text-kinds

pub new_same : Determined 1 new-kinds.ps new-kinds.r new.Post
new_same κs a x y e f p q = p ∙ sym q

pub put_same : (κs : Lfts 3) (a : Dens κs put-kinds.ps) (x y : (res_t put-kinds.r κs).Denot) (e f : AtExit (ended_of 3 put-kinds.ps put-kinds.r) κs)
    → put.Post κs a x e → put.Post κs a y f → e.0.now ≡ f.0.now
put_same κs a x y e f p q = p ∙ sym q

pub text_same : (κs : Lfts 2) (a : Dens κs text-kinds.ps) (x y : (res_t text-kinds.r κs).Denot) (e f : AtExit (ended_of 2 text-kinds.ps text-kinds.r) κs)
    → text.Post κs a x e → text.Post κs a y f → x.now ≡ y.now
text_same κs a x y e f p q = p ∙ sym q
