-- Each contract says its result is one definition of the arguments, so two results that meet it are both that, and equal.
-- Assumes nothing.
use mathlib.Core.Path.{sym, ◌∙◌}
use Rattle.choice.proofs.Same.{Determined}
use Rattle.tree.proofs.parent.Reads as parent
use Rattle.tree.proofs.parent.Kinds as parent-kinds
use Rattle.tree.proofs.on_path.Reads as on_path_lem
use Rattle.tree.proofs.on_path.Kinds as on-path-kinds
use Rattle.tree.proofs.next_down.Reads as next_down
use Rattle.tree.proofs.next_down.Kinds as next-down-kinds
use Rattle.tree.proofs.power_up_to.Reads as power_up_to_lem
use Rattle.tree.proofs.power_up_to.Kinds as power-up-to-kinds

pub parent_same : Determined 0 parent-kinds.ps parent-kinds.r parent.Post
parent_same κs a x y e f p q = p ∙ sym q

pub on_path_same : Determined 0 on-path-kinds.ps on-path-kinds.r on_path_lem.Post
on_path_same κs a x y e f p q = p ∙ sym q

pub next_down_same : Determined 0 next-down-kinds.ps next-down-kinds.r next_down.Post
next_down_same κs a x y e f p q = p ∙ sym q

pub power_up_to_same : Determined 0 power-up-to-kinds.ps power-up-to-kinds.r power_up_to_lem.Post
power_up_to_same κs a x y e f p q = p ∙ sym q
