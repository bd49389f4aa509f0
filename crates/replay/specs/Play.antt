-- One record of a schedule: the call that it asks for, and the line that the call prints.
use Rattle.std.specs.Prelude.{ℕ, ◌^◌, List, [], get_or, replicate}
use Rattle.choice.specs.Choice.{pick}
use Rattle.words.specs.Words.{Tables, Left}
use Rattle.names.specs.Names.{number_of, refuses, goes_on}
use Rattle.names.specs.declared.Answer.{Answer}
use Rattle.header.specs.declared.Header.{Header}
use Rattle.header.specs.Header.{fresh, outside}
use Rattle.record.specs.declared.Worker.{Worker}
use Rattle.record.specs.Worker.{idle}
use Rattle.prepare.specs.declared.Limits.{Limits}
use Rattle.register.specs.declared.Call.{Call}
use Rattle.register.specs.declared.Call.TheVariants.{Start, Step as OneStep}
use Rattle.crew.specs.Crew.{Crew, prepare_at, serve_at}
use Rattle.script.specs.declared.Kind.{Kind}
use Rattle.script.specs.declared.Kind.TheVariants.{Step, Steps}
use Rattle.script.specs.Script.{byte_of}
use Rattle.numbers.specs.Numbers.{little_endian}
use Rattle.lines.specs.Lines.{ended_line, refused_line}
use Rattle.replay.specs.declared.Operation.{Operation}

-- the most workers that a register has
abbrev pub MOST_WORKERS : ℕ
MOST_WORKERS = 16

-- ---- 00: exponent of M, K (2 bytes), W, L
-- M is 2 to the exponent; an exponent outside 1 to 10 stands for no M, and preparing refuses 0 with 10
unfoldable pub buckets_of : ℕ → ℕ
buckets_of exponent = pick (outside 1 10 exponent) 0 (2 ^ exponent)

abbrev pub limits_of : List ℕ → Limits
limits_of body = record { m = buckets_of (get_or body 0 0); k = little_endian 2 body 1; w = get_or body 3 0; l = get_or body 4 0 }

-- no header yet
abbrev pub blank : Header
blank = fresh 0 0 0 0

-- the register that the body asks for, over lent words
unfoldable pub opened : List ℕ → Tables → Left Crew
opened body ts = prepare_at (limits_of body) blank (replicate MOST_WORKERS idle) ts

-- ---- the other kinds: a body's first byte is the worker
abbrev pub worker_in : List ℕ → ℕ
worker_in body = get_or body 0 0

-- and its number is the key (4 bytes) of 01, 02 and 03, the one step of 04, and the n steps of 05
abbrev pub number_in : Kind → List ℕ → ℕ
number_in Step body = 1
number_in Steps body = get_or body 1 0
number_in _ body = little_endian 4 body 1

-- the call: 01, 02, 03 a start, whose byte is the number of its operation; 04, 05 steps
abbrev pub call_of : Kind → ℕ → Call
call_of Step number = OneStep
call_of Steps number = OneStep
call_of kind number = Start (byte_of kind) number

-- what it leaves: steps are so many at most, ending after the first whose answer isn't 0
unfoldable pub played : Kind → ℕ → ℕ → Header → List Worker → Tables → Left Crew
played kind w number h ws ts = serve_at h ws w (call_of kind number) number ts

-- ---- the line of a call
-- whose operation it is: the worker, and the kind and key that its record had as the call began
abbrev pub operation_of : ℕ → List Worker → Operation
operation_of w ws =
    let x = get_or ws w idle in
    record { worker = w; kind = x.kind; key = x.key }

-- nothing while the operation goes on; `refused number offset`; or, at its end, `worker kind key answer steps`
unfoldable pub call_line : Operation → Answer → ℕ → ℕ → List ℕ
call_line o answer steps offset =
    pick (goes_on answer) []
    (pick (refuses answer) (refused_line (number_of answer) offset) (ended_line o.worker o.kind o.key answer steps))
