-- After i turns the first i nodes are swept.
use Rattle.std.proofs.Common.{◌≡◌}
use Rattle.scans.specs.Scans.{sweep}
use Rattle.scans.proofs.sweep.Given as goal

abbrev pub invariant-loop-i : goal.invariant-loop-i
invariant-loop-i l = l.nodes ≡ sweep l.w l.i l.fn.nodes
