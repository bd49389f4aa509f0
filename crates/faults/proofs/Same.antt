-- The contract says its result is one definition of the arguments, so two results that meet it are both that, and equal.
-- Assumes nothing.
use mathlib.Core.Path.{sym, ◌∙◌}
use Rattle.choice.proofs.Same.{Determined}
use Rattle.faults.proofs.damaged.Reads as damaged
use Rattle.faults.proofs.damaged.Kinds as damaged-kinds

pub damaged_same : Determined 0 damaged-kinds.ps damaged-kinds.r damaged.Post
damaged_same κs a x y e f p q = p ∙ sym q
