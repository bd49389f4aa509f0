-- The number of records and the worker's number say which way the definition goes; then the register's own call is kept in the words.
use Rattle.std.proofs.Common.{sym, ap, ◌∙◌}
use Rattle.words.specs.Words.{tables, Left, left}
use Rattle.acts.specs.declared.Outcome.{Outcome}
use Rattle.welmuzra.specs.Calls.{kept}
use Rattle.welmuzra.proofs.Laws.{too_few, no_worker, there_is}
use Rattle.welmuzra.proofs.serve.Goals as goal

pub returns-then-lacks_records : goal.returns-then-lacks_records
returns-then-lacks_records c =
    let e = c.header_of-h.ensures in
    rw (c.from.ensures, c.missing.ensures, c.of-lengths.ensures, e) (too_few _ _ _ _ _ (rw e at (sym c.lacks_records.ensures ∙ c.if-lacks_records.true)))

pub returns-then-h-w : goal.returns-then-h-w
returns-then-h-w c =
    let e = c.header_of-h.ensures in
    rw (c.from-then-h-w.ensures, c.missing-then-h-w.ensures, c.of-lengths.ensures, e)
    (no_worker _ _ _ _ _ (rw e at (sym c.lacks_records.ensures ∙ c.if-lacks_records.false)) (rw e at c.if-h-w.true))

pub returns : goal.returns
returns c =
    let a = c.args in
    let e = c.header_of-h.ensures in
    rw c.keep.ensures
    (ap (λ (l : Left Outcome). left (kept a.header.now a.records.now a.w l.out) l.tables)
    (rw (c.record_at-worker.ensures, e) at c.call-out.ensures
    ∙ sym (there_is a.header.now a.records.now a.w a.call (tables a.nodes.now a.buckets.now) (rw e at (sym c.lacks_records.ensures ∙ c.if-lacks_records.false)))))
