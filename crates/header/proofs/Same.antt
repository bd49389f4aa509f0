-- Each contract says its result is one definition of the arguments, so two results that meet it are both that, and equal.
-- Assumes nothing.
use Rattle.std.proofs.Common.{sym, ◌∙◌}
use Rattle.choice.proofs.Same.{Determined}
use Rattle.header.proofs.Header.fresh.Reads as fresh
use Rattle.header.proofs.Header.fresh.Kinds as fresh-kinds
use Rattle.header.proofs.Header.resized.Reads as resized
use Rattle.header.proofs.Header.resized.Kinds as resized-kinds
use Rattle.header.proofs.Header.counting.Reads as counting
use Rattle.header.proofs.Header.counting.Kinds as counting-kinds
use Rattle.header.proofs.Header.counted_up.Reads as counted-up
use Rattle.header.proofs.Header.counted_up.Kinds as counted-up-kinds
use Rattle.header.proofs.Header.counted_down.Reads as counted-down
use Rattle.header.proofs.Header.counted_down.Kinds as counted-down-kinds
use Rattle.header.proofs.Header.busy_with.Reads as busy-with
use Rattle.header.proofs.Header.busy_with.Kinds as busy-with-kinds
use Rattle.header.proofs.Header.busy_without.Reads as busy-without
use Rattle.header.proofs.Header.busy_without.Kinds as busy-without-kinds
use Rattle.header.proofs.Header.short.Reads as short
use Rattle.header.proofs.Header.short.Kinds as short-kinds
use Rattle.header.proofs.Header.nodes.Reads as nodes
use Rattle.header.proofs.Header.nodes.Kinds as nodes-kinds
use Rattle.header.proofs.Header.limit_broken.Reads as limit_broken_lem
use Rattle.header.proofs.Header.limit_broken.Kinds as limit-broken-kinds
use Rattle.header.proofs.Header.damaged.Reads as damaged
use Rattle.header.proofs.Header.damaged.Kinds as damaged-kinds
use Rattle.header.proofs.Header.missing.Reads as missing
use Rattle.header.proofs.Header.missing.Kinds as missing-kinds
use Rattle.header.proofs.Header.doubles.Reads as doubles
use Rattle.header.proofs.Header.doubles.Kinds as doubles-kinds

pub fresh_same : Determined 0 fresh-kinds.ps fresh-kinds.r fresh.Post
fresh_same κs a x y e f p q = p ∙ sym q

pub resized_same : Determined 0 resized-kinds.ps resized-kinds.r resized.Post
resized_same κs a x y e f p q = p ∙ sym q

pub counting_same : Determined 0 counting-kinds.ps counting-kinds.r counting.Post
counting_same κs a x y e f p q = p ∙ sym q

pub counted_up_same : Determined 0 counted-up-kinds.ps counted-up-kinds.r counted-up.Post
counted_up_same κs a x y e f p q = p ∙ sym q

pub counted_down_same : Determined 0 counted-down-kinds.ps counted-down-kinds.r counted-down.Post
counted_down_same κs a x y e f p q = p ∙ sym q

pub busy_with_same : Determined 0 busy-with-kinds.ps busy-with-kinds.r busy-with.Post
busy_with_same κs a x y e f p q = p ∙ sym q

pub busy_without_same : Determined 0 busy-without-kinds.ps busy-without-kinds.r busy-without.Post
busy_without_same κs a x y e f p q = p ∙ sym q

pub short_same : Determined 0 short-kinds.ps short-kinds.r short.Post
short_same κs a x y e f p q = p ∙ sym q

pub nodes_same : Determined 0 nodes-kinds.ps nodes-kinds.r nodes.Post
nodes_same κs a x y e f p q = p ∙ sym q

pub limit_broken_same : Determined 0 limit-broken-kinds.ps limit-broken-kinds.r limit_broken_lem.Post
limit_broken_same κs a x y e f p q = p ∙ sym q

pub damaged_same : Determined 0 damaged-kinds.ps damaged-kinds.r damaged.Post
damaged_same κs a x y e f p q = p ∙ sym q

pub missing_same : Determined 0 missing-kinds.ps missing-kinds.r missing.Post
missing_same κs a x y e f p q = p ∙ sym q

pub doubles_same : Determined 0 doubles-kinds.ps doubles-kinds.r doubles.Post
doubles_same κs a x y e f p q = p ∙ sym q
