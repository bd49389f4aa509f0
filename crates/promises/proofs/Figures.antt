-- Each figure is a closed number, so the definitions compute it.
-- Assumes nothing.
use mathlib.Core.Path.{refl}
use Rattle.choice.specs.Choice.{pick}
use Rattle.split.specs.Split.{rev, reverse, regular, dummy}
use Rattle.tree.specs.Tree.{par, parent_of}
use Rattle.header.specs.Header.{doubles}
use Rattle.promises.specs.Figures.{figures, EachRight}

-- "P1 to P13 stand in a single table with a single statement about the definitions"
pub figures_right : EachRight figures
unfolding rev reverse regular dummy par parent_of doubles pick
figures_right = (refl, (refl, (refl, (refl, (refl, (refl, (refl, (refl, (refl, (refl, (refl, (refl, (refl, tt)))))))))))))
