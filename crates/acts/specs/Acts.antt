-- What a call hands back.
use Rattle.names.specs.declared.Answer.{Answer}
use Rattle.header.specs.declared.Header.{Header}
use Rattle.record.specs.declared.Worker.{Worker}
use Rattle.acts.specs.declared.Called.{Called}
use Rattle.acts.specs.declared.Outcome.{Outcome}

-- an answer that tells no steps
abbrev pub answered : Answer → Header → Called
answered a h = record { answer = a; steps = 0; header = h }

-- and the record beside it: where the answer changes nothing, header and record are as they came
abbrev pub handed_back : Answer → Header → Worker → Outcome
handed_back a h x = record { called = answered a h; worker = x }
