-- Each contract says its result as one definition of the arguments, so two results that meet it are equal.
-- Assumes nothing.
use mathlib.Core.Path.{sym, ◌∙◌}
use Rattle.choice.proofs.Same.{Determined}
use Rattle.numbers.proofs.byte_at.Reads as byte_at
use Rattle.numbers.proofs.byte_at.Kinds as byte-at-kinds
use Rattle.numbers.proofs.two_at.Reads as two_at
use Rattle.numbers.proofs.two_at.Kinds as two-at-kinds
use Rattle.numbers.proofs.four_at.Reads as four-at
use Rattle.numbers.proofs.four_at.Kinds as four-at-kinds

pub byte_at_same : Determined 1 byte-at-kinds.ps byte-at-kinds.r byte_at.Post
byte_at_same κs a x y e f p q = p ∙ sym q

pub two_at_same : Determined 1 two-at-kinds.ps two-at-kinds.r two_at.Post
two_at_same κs a x y e f p q = p ∙ sym q

pub four_at_same : Determined 1 four-at-kinds.ps four-at-kinds.r four-at.Post
four_at_same κs a x y e f p q = p ∙ sym q
