-- The words of both loops are as many of the count as the table has.
use Rattle.std.proofs.Common.{◌≡◌, ◌/◌, arith}
use Rattle.scans.proofs.Clearing.{every_both}
use Rattle.scans.proofs.clear.Goals as goal

pub returns : goal.returns
returns c =
    let turns : c.loop-j.j ≡ c.min-n.result / 2 = omega arith in
    rw (c.loop-j.invariant, turns) (every_both c.min-n.result c.args.count c.args.table.now (omega (arith, c.min-n.ensures)))
