-- What is left to look through gives the whole answer.
use Rattle.std.proofs.Common.{◌≡◌, ◌-◌}
use Rattle.scans.specs.Scans.{free_from, free_node}
use Rattle.scans.proofs.free_node.Given as goal

abbrev pub invariant-loop-before : goal.invariant-loop-before
invariant-loop-before l = free_from l.nodes l.before (l.high - l.before) ≡ free_node l.nodes l.low l.high
