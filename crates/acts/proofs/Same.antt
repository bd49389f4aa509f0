-- The contract says what is handed back is one definition of the arguments, so two results that meet it are both that, and equal.
-- Assumes nothing.
use mathlib.Core.Path.{sym, ◌∙◌}
use Rattle.choice.proofs.Same.{Determined}
use Rattle.acts.proofs.Called.answered.Reads as answered
use Rattle.acts.proofs.Called.answered.Kinds as answered-kinds
use Rattle.acts.proofs.Outcome.handed_back.Reads as handed_back
use Rattle.acts.proofs.Outcome.handed_back.Kinds as handed_back-kinds

pub answered_same : Determined 0 answered-kinds.ps answered-kinds.r answered.Post
answered_same κs a x y e f p q = p ∙ sym q

pub handed_back_same : Determined 0 handed_back-kinds.ps handed_back-kinds.r handed_back.Post
handed_back_same κs a x y e f p q = p ∙ sym q
