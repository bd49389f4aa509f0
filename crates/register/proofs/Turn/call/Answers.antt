-- The verdict says which way the definition goes: refused, or what is left to check and do.
use Rattle.std.proofs.Common.{sym}
use Rattle.register.specs.Calls.{start_of, step_of}
use Rattle.register.proofs.Laws.{start_follows, step_follows, open_small, refused_asked}
use Rattle.register.proofs.Turn.call.Goals as goal

pub returns-in-Err : goal.returns-in-Err
returns-in-Err c = rw c.refused.ensures (sym (refused_asked _ _ _ _ (rw c.of.ensures at (sym c.in-Err.ensures))))

pub invariant_of-act : goal.invariant_of-act
invariant_of-act c = record { small = open_small _ _ _ (sym c.in_default.ensures) }

pub returns-in-Start : goal.returns-in-Start
unfolding start_of
returns-in-Start c =
    let free = rw (c.in-Start.is, c.of.ensures) at (sym c.in_default.ensures) in
    rw (c.in-Start.is, c.begin.ensures, start_follows, free)

pub returns-in-Step : goal.returns-in-Step
unfolding step_of
returns-in-Step c =
    let free = rw (c.in-Step.is, c.of.ensures) at (sym c.in_default.ensures) in
    rw (c.in-Step.is, step_follows, free) c.act.ensures
