-- After so many turns as many of the words at even places are 0, and then of those at odd ones.
use Rattle.std.proofs.Common.{◌≡◌, ◌+◌, ◌/◌}
use Rattle.scans.proofs.Clearing.{every}
use Rattle.scans.proofs.clear.Given as goal

abbrev pub invariant-loop-i : goal.invariant-loop-i
invariant-loop-i l = l.table ≡ every 0 l.i l.fn.table

abbrev pub invariant-loop-j : goal.invariant-loop-j
invariant-loop-j l = l.table ≡ every 1 l.j (every 0 ((l.n + 1) / 2) l.fn.table)
