-- Too few records, W idle ones, or none.
use Rattle.std.proofs.Common.{sym}
use Rattle.words.specs.Words.{tables}
use Rattle.crew.proofs.Laws.{prepare_few, prepare_done, prepare_none}
use Rattle.crew.proofs.prepare.Goals as goal

pub returns-then-workers-count : goal.returns-then-workers-count
returns-then-workers-count c =
    let a = c.args in
    rw (c.answered.ensures, c.too_few.ensures) (prepare_few a.limits a.header a.workers.now (tables a.nodes.now a.buckets.now) c.if-workers-count.true)

pub returns-then-goes_on : goal.returns-then-goes_on
returns-then-goes_on c =
    let a = c.args in
    let enough = c.if-workers-count.false in
    rw (c.fill.ensures.after (λ y e. e), c.idle.ensures)
    (prepare_done a.limits a.header a.workers.now (tables a.nodes.now a.buckets.now) enough _ _ c.prepare-called.ensures (sym c.if-goes_on.ensures))

pub returns-else-goes_on : goal.returns-else-goes_on
returns-else-goes_on c =
    let a = c.args in
    prepare_none a.limits a.header a.workers.now (tables a.nodes.now a.buckets.now) c.if-workers-count.false _ _ c.prepare-called.ensures (sym c.if-goes_on.ensures)
