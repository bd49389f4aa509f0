-- Each contract says its result is one definition of the arguments, so two results that meet it are both that, and equal.
-- Assumes nothing.
use mathlib.Core.Path.{sym, ◌∙◌}
use Rattle.choice.proofs.Same.{Determined}
use Rattle.split.proofs.regular_key.Reads as regular-key
use Rattle.split.proofs.regular_key.Kinds as regular-key-kinds
use Rattle.split.proofs.dummy_key.Reads as dummy-key
use Rattle.split.proofs.dummy_key.Kinds as dummy-key-kinds

pub regular_key_same : Determined 0 regular-key-kinds.ps regular-key-kinds.r regular-key.Post
regular_key_same κs a x y e f p q = p ∙ sym q

pub dummy_key_same : Determined 0 dummy-key-kinds.ps dummy-key-kinds.r dummy-key.Post
dummy_key_same κs a x y e f p q = p ∙ sym q
