-- What was left so far and the steps to come make the whole.
use Rattle.std.proofs.Common.{◌≡◌, ◌-◌}
use Rattle.words.specs.Words.{tables, left as leaves}
use Rattle.crew.specs.One.{most_of}
use Rattle.crew.proofs.steps_one.Given as goal

abbrev pub invariant-loop : goal.invariant-loop
invariant-loop l =
    let w = l.turn.number in
    most_of w l.few (l.most - l.counter) (leaves l.out (tables l.nodes l.buckets)) ≡ most_of w l.few l.most (leaves l.initial.out (tables l.initial.nodes l.initial.buckets))
