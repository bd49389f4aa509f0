-- A step more where it goes on, and none where it does not.
use Rattle.std.proofs.Common.{arith, sym, ◌∙◌, ◌-◌, ◌+◌, ◌≡◌}
use Rattle.words.specs.Words.{tables, left as leaves}
use Rattle.crew.proofs.Laws.{most_on, most_over, most_none}
use Rattle.crew.proofs.steps_one.Goals as goal

pub loop-preserved : goal.loop-preserved
loop-preserved c =
    let l = c.loop in
    let a = c.args in
    let w = a.turn.number in
    let rest = a.most - l.counter in
    let one : a.most - (l.counter + 1) ≡ rest - 1 = omega arith in
    rw (one, c.one_call-out.ensures)
    (sym (most_on w a.few rest (leaves l.out (tables l.nodes l.buckets)) (omega arith) (sym (c.if-not-goes_on.ensures))) ∙ l.invariant)

pub returns-then-not-goes_on : goal.returns-then-not-goes_on
returns-then-not-goes_on c =
    let l = c.loop in
    let a = c.args in
    sym (most_over a.turn.number a.few (a.most - l.counter) (leaves l.out (tables l.nodes l.buckets)) (sym (c.if-not-goes_on.ensures))) ∙ rw c.handed_back-out.ensures at l.invariant

pub returns-after-loop : goal.returns-after-loop
returns-after-loop c =
    let l = c.loop in
    let a = c.args in
    let none : a.most - l.counter ≡ 0 = omega arith in
    sym (most_none a.turn.number a.few (leaves l.out (tables l.nodes l.buckets))) ∙ rw none at (rw c.handed_back-out.ensures at l.invariant)
