-- The contract says its result is one definition of the arguments, so two results that meet it are both that, and equal.
-- Assumes nothing.
use mathlib.Core.Path.{sym, ◌∙◌}
use Rattle.choice.proofs.Same.{Determined}
use Rattle.chain.proofs.keys_from.Reads as keys_from
use Rattle.chain.proofs.keys_from.Kinds as keys-from-kinds

pub keys_from_same : Determined 1 keys-from-kinds.ps keys-from-kinds.r keys_from.Post
keys_from_same κs a x y e f p q = p ∙ sym q
