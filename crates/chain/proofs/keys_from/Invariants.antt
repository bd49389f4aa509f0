-- What is counted so far and what is left to follow make the whole.
use Rattle.std.proofs.Common.{◌≡◌, ◌+◌, ◌-◌}
use Rattle.chain.specs.Chain.{keys_from}
use Rattle.chain.proofs.keys_from.Given as goal

abbrev pub invariant-loop : goal.invariant-loop
invariant-loop l = l.count + keys_from l.nodes (l.most - l.counter) l.at ≡ keys_from l.nodes l.most l.n
