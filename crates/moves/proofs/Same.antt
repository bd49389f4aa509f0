-- The contract says its result is one definition of the arguments, so two results that meet it are both that, and equal.
-- Assumes nothing.
use Rattle.std.proofs.Common.{sym, ◌∙◌}
use Rattle.choice.proofs.Same.{Determined}
use Rattle.moves.proofs.Seen.decide.Reads as decide
use Rattle.moves.proofs.Seen.decide.Kinds as decide-kinds

pub decide_same : Determined 0 decide-kinds.ps decide-kinds.r decide.Post
decide_same κs a x y e f p q = p ∙ sym q
