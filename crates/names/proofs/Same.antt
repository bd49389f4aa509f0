-- Each contract says the result is one definition of the answer, so two results that meet it are both that, and equal.
-- Assumes nothing.
use mathlib.Core.Path.{sym, ◌∙◌}
use Rattle.choice.proofs.Same.{Determined}
use Rattle.names.proofs.Answer.number.Reads as number
use Rattle.names.proofs.Answer.number.Kinds as number-kinds
use Rattle.names.proofs.Answer.refuses.Reads as refuses
use Rattle.names.proofs.Answer.refuses.Kinds as refuses-kinds
use Rattle.names.proofs.Answer.ends.Reads as ends
use Rattle.names.proofs.Answer.ends.Kinds as ends-kinds
use Rattle.names.proofs.Answer.goes_on.Reads as goes_on
use Rattle.names.proofs.Answer.goes_on.Kinds as goes-on-kinds

pub number_same : Determined 0 number-kinds.ps number-kinds.r number.Post
number_same κs a x y e f p q = p ∙ sym q

pub refuses_same : Determined 0 refuses-kinds.ps refuses-kinds.r refuses.Post
refuses_same κs a x y e f p q = p ∙ sym q

pub ends_same : Determined 0 ends-kinds.ps ends-kinds.r ends.Post
ends_same κs a x y e f p q = p ∙ sym q

pub goes_on_same : Determined 0 goes-on-kinds.ps goes-on-kinds.r goes_on.Post
goes_on_same κs a x y e f p q = p ∙ sym q
