-- Past the table nothing is stored; in it the record goes back where it was taken.
use Rattle.std.proofs.Common.{arith, rules, length, get_or, ◌<◌, ◌≡◌}
use Rattle.record.specs.Worker.{idle}
use Rattle.words.specs.Words.{tables}
use Rattle.crew.proofs.Laws.{serve_past, serve_in}
use Rattle.crew.proofs.serve.Goals as goal

pub returns-in_default : goal.returns-in_default
returns-in_default c =
    let a = c.args in
    rw (c.past.ensures, c.of.ensures) (serve_past a.header a.workers.now a.w (tables a.nodes.now a.buckets.now) a.call a.most c.in_default.ensures.lookup.3)

pub returns : goal.returns
returns c =
    let a = c.args in
    let within : a.w < length a.workers.now = omega (arith, c.in-Some.ensures.lookup) in
    let read : c.in-Some.field-0.now ≡ get_or a.workers.now a.w idle = search rules in
    serve_in a.header a.workers.now a.w (tables a.nodes.now a.buckets.now) a.call a.most within _ _ (rw (← read) c.serve_one-out.ensures)
