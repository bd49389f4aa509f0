-- The verdict says which way the definition goes; limits that pass have few enough words to count.
use Rattle.std.proofs.Common.{sym, arith}
use Rattle.prepare.specs.Prepare.{prepared}
use Rattle.prepare.proofs.Laws.{prepare_small}
use Rattle.prepare.proofs.Limits.prepare.Goals as goal

pub returns-in-Err : goal.returns-in-Err
unfolding prepared
returns-in-Err c = rw (c.answered.ensures, ← (rw c.of.ensures at c.in-Err.ensures))

pub overflow_cast-nodes : goal.overflow_cast-nodes
overflow_cast-nodes c = rw (c.nodes.ensures, c.fresh_header-h.ensures) (omega (arith, prepare_small _ _ (sym c.in_default.ensures)))

pub returns : goal.returns
unfolding prepared
returns c =
    rw (c.answered-2.ensures, ← (rw c.of.ensures at c.in_default.ensures), c.store.ensures, c.clear-2.ensures, c.put.ensures, c.clear.ensures, c.nodes.ensures, c.fresh_header-h.ensures)
