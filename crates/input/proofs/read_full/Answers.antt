-- What was read stands after the bytes before it, and the reader lost both.
use Rattle.std.proofs.Common.{◌-◌, length, rules, subst}
use Rattle.std.specs.Io.KnownBytes.{Consumes}
use Rattle.std.proofs.KnownBytes.{Consumes-trans}
use Rattle.input.proofs.Placed.{front_placed}
use Rattle.input.proofs.read_full.Goals as goal

pub loop-done-preserved : goal.loop-done-preserved
loop-done-preserved g c =
    let done = c.loop-done.done in
    let placed = front_placed done (length c.loop-done.into - done) c.in-Ok.n c.loop-done.into c.read.new.buf c.loop-done.invariant.1 c.in-Ok.ensures.bound.0 in
    (search rules, search rules, subst (Consumes _ _) placed (Consumes-trans _ _ _ _ _ c.loop-done.invariant.2 c.in-Ok.ensures.bytes.0))
