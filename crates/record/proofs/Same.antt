-- Each contract says its result is one definition of the arguments, so two results that meet it are both that, and equal.
-- Assumes nothing.
use mathlib.Core.Path.{sym, ◌∙◌}
use Rattle.choice.proofs.Same.{Determined}
use Rattle.record.proofs.Worker.idle.Reads as idle
use Rattle.record.proofs.Worker.idle.Kinds as idle-kinds
use Rattle.record.proofs.Worker.begun.Reads as begun
use Rattle.record.proofs.Worker.begun.Kinds as begun-kinds
use Rattle.record.proofs.Worker.to.Reads as to
use Rattle.record.proofs.Worker.to.Kinds as to-kinds
use Rattle.record.proofs.Worker.on_errand.Reads as on-errand
use Rattle.record.proofs.Worker.on_errand.Kinds as on-errand-kinds
use Rattle.record.proofs.Worker.wanting.Reads as wanting
use Rattle.record.proofs.Worker.wanting.Kinds as wanting-kinds
use Rattle.record.proofs.Worker.to_make.Reads as to_make
use Rattle.record.proofs.Worker.to_make.Kinds as to-make-kinds
use Rattle.record.proofs.Worker.remembering.Reads as remembering
use Rattle.record.proofs.Worker.remembering.Kinds as remembering-kinds
use Rattle.record.proofs.Worker.searching_from.Reads as searching-from
use Rattle.record.proofs.Worker.searching_from.Kinds as searching-from-kinds
use Rattle.record.proofs.Worker.coming_to.Reads as coming-to
use Rattle.record.proofs.Worker.coming_to.Kinds as coming-to-kinds
use Rattle.record.proofs.Worker.reading.Reads as reading
use Rattle.record.proofs.Worker.reading.Kinds as reading-kinds
use Rattle.record.proofs.Worker.holding.Reads as holding
use Rattle.record.proofs.Worker.holding.Kinds as holding-kinds
use Rattle.record.proofs.Worker.with_dummy.Reads as with-dummy
use Rattle.record.proofs.Worker.with_dummy.Kinds as with-dummy-kinds
use Rattle.record.proofs.Worker.ticked.Reads as ticked
use Rattle.record.proofs.Worker.ticked.Kinds as ticked-kinds
use Rattle.record.proofs.Worker.holds.Reads as holds
use Rattle.record.proofs.Worker.holds.Kinds as holds-kinds

pub idle_same : Determined 0 idle-kinds.ps idle-kinds.r idle.Post
idle_same κs a x y e f p q = p ∙ sym q

pub begun_same : Determined 0 begun-kinds.ps begun-kinds.r begun.Post
begun_same κs a x y e f p q = p ∙ sym q

pub to_same : Determined 0 to-kinds.ps to-kinds.r to.Post
to_same κs a x y e f p q = p ∙ sym q

pub on_errand_same : Determined 0 on-errand-kinds.ps on-errand-kinds.r on-errand.Post
on_errand_same κs a x y e f p q = p ∙ sym q

pub wanting_same : Determined 0 wanting-kinds.ps wanting-kinds.r wanting.Post
wanting_same κs a x y e f p q = p ∙ sym q

pub to_make_same : Determined 0 to-make-kinds.ps to-make-kinds.r to_make.Post
to_make_same κs a x y e f p q = p ∙ sym q

pub remembering_same : Determined 0 remembering-kinds.ps remembering-kinds.r remembering.Post
remembering_same κs a x y e f p q = p ∙ sym q

pub searching_from_same : Determined 0 searching-from-kinds.ps searching-from-kinds.r searching-from.Post
searching_from_same κs a x y e f p q = p ∙ sym q

pub coming_to_same : Determined 0 coming-to-kinds.ps coming-to-kinds.r coming-to.Post
coming_to_same κs a x y e f p q = p ∙ sym q

pub reading_same : Determined 0 reading-kinds.ps reading-kinds.r reading.Post
reading_same κs a x y e f p q = p ∙ sym q

pub holding_same : Determined 0 holding-kinds.ps holding-kinds.r holding.Post
holding_same κs a x y e f p q = p ∙ sym q

pub with_dummy_same : Determined 0 with-dummy-kinds.ps with-dummy-kinds.r with-dummy.Post
with_dummy_same κs a x y e f p q = p ∙ sym q

pub ticked_same : Determined 0 ticked-kinds.ps ticked-kinds.r ticked.Post
ticked_same κs a x y e f p q = p ∙ sym q

pub holds_same : Determined 0 holds-kinds.ps holds-kinds.r holds.Post
holds_same κs a x y e f p q = p ∙ sym q
