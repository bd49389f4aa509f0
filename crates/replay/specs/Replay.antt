-- The run of a schedule: its records one after the other, and the text that it prints.
use Rattle.std.specs.Prelude.{ℕ, zero, suc, List, [], ◌++◌, Option, Some, None, Result, Ok, Err, ltb, length, replicate}
use Rattle.choice.specs.Choice.{pick}
use Rattle.names.specs.Names.{number_of, goes_on}
use Rattle.chain.specs.Chain.{keys_from}
use Rattle.header.specs.declared.Header.{Header}
use Rattle.words.specs.Words.{Tables, tables, Left}
use Rattle.crew.specs.Crew.{Crew}
use Rattle.script.specs.declared.Kind.{Kind}
use Rattle.script.specs.declared.Kind.TheVariants.{Prepare}
use Rattle.script.specs.declared.Fault.{Fault}
use Rattle.script.specs.declared.Fault.TheVariants.{Unknown, Cut}
use Rattle.script.specs.declared.Record.{Record}
use Rattle.script.specs.Script.{entry_at, body_at}
use Rattle.lines.specs.Lines.{register_line, refused_line, end_line}
use Rattle.replay.specs.declared.Refusal.{Refusal}
use Rattle.replay.specs.declared.Refusal.TheVariants.{UnknownKind, CutShort, Misplaced, TooLong}
use Rattle.replay.specs.Play.{opened, worker_in, number_in, played, operation_of, call_line}

-- ---- what a schedule itself is refused with: an unknown kind, a record cut short, 00 not just first, an input too long
abbrev pub refusal_number : Refusal → ℕ
refusal_number UnknownKind = 30
refusal_number CutShort = 31
refusal_number Misplaced = 32
refusal_number TooLong = 33

-- why no record can be read, as the run refuses it
abbrev pub refusal_of : Fault → Refusal
refusal_of Unknown = UnknownKind
refusal_of Cut = CutShort

-- ---- what stands at an offset, to the run: 30, then 31, and then 32
-- the first record has to be 00: where the next one starts. An empty input has none
abbrev pub if_prepares : Kind → ℕ → Result ℕ Refusal
if_prepares Prepare next = Ok next
if_prepares _ next = Err Misplaced

abbrev pub first_record : Result (Option Record) Fault → Result ℕ Refusal
first_record (Err fault) = Err (refusal_of fault)
first_record (Ok None) = Err Misplaced
first_record (Ok (Some r)) = if_prepares r.kind r.next

-- a later record must not be 00: the record, and none at the input's end
abbrev pub unless_prepares : Kind → Record → Result (Option Record) Refusal
unless_prepares Prepare r = Err Misplaced
unless_prepares _ r = Ok (Some r)

abbrev pub later_record : Result (Option Record) Fault → Result (Option Record) Refusal
later_record (Err fault) = Err (refusal_of fault)
later_record (Ok None) = Ok None
later_record (Ok (Some r)) = unless_prepares r.kind r

-- ---- the end of a run
-- what stops the run at an offset: the input's end prints nothing, and a record that stood there would be out of place
abbrev pub stop_said : Result (Option Record) Refusal → ℕ → List ℕ
stop_said (Err refusal) offset = refused_line (refusal_number refusal) offset
stop_said (Ok None) offset = []
stop_said (Ok (Some r)) offset = refused_line (refusal_number Misplaced) offset

unfoldable pub stop_line : List ℕ → ℕ → List ℕ
stop_line input offset = stop_said (later_record (entry_at input offset)) offset

-- the most nodes that a register has, M + W + K at their limits: no chain is longer
abbrev pub MOST_NODES : ℕ
MOST_NODES = 5136

abbrev pub NODE_WORDS : ℕ
NODE_WORDS = 15408

abbrev pub MOST_BUCKETS : ℕ
MOST_BUCKETS = 1024

-- the words that are lent: three to a node, and the most buckets
abbrev pub blanks : Tables
blanks = tables (replicate NODE_WORDS 0) (replicate MOST_BUCKETS 0)

-- last, `end keys count size`
abbrev pub last_line : Header → List ℕ → List ℕ
last_line h ns = end_line (keys_from ns MOST_NODES 1) h.count h.size

abbrev pub last_lines : List ℕ → ℕ → Header → List ℕ → List ℕ
last_lines input offset h ns = stop_line input offset ++ last_line h ns

-- what is printed where the run goes on with a record, and where it ends
abbrev pub on_record : Result (Option Record) Refusal → (Record → List ℕ) → List ℕ → List ℕ
on_record (Err refusal) more last = last
on_record (Ok None) more last = last
on_record (Ok (Some r)) more last = more r

-- ---- the records after the first, one a turn, each on what the last call left; there are no more of them than bytes
unfoldable pub later_lines : List ℕ → ℕ → ℕ → Left Crew → List ℕ
later_lines input zero offset l = last_lines input offset l.out.called.header l.tables.nodes
later_lines input (suc turns) offset l =
    let body = body_at input offset in
    let w = worker_in body in
    on_record (later_record (entry_at input offset))
    (λ r. let m = played r.kind w (number_in r.kind body) l.out.called.header l.out.workers l.tables in
    call_line (operation_of w l.out.workers) m.out.called.answer m.out.called.steps offset ++ later_lines input turns r.next m)
    (last_lines input offset l.out.called.header l.tables.nodes)

-- ---- the first record: `register M K W L`, and the records after it; a refused 00 stops the run
abbrev pub first_line : Header → List ℕ
first_line h = register_line h.m h.k h.w h.l

unfoldable pub beginning : List ℕ → ℕ → Left Crew → List ℕ
beginning input next l =
    pick (goes_on l.out.called.answer) (first_line l.out.called.header ++ later_lines input (length input) next l)
    (refused_line (number_of l.out.called.answer) 0)

-- ---- the bytes of a schedule to the bytes of the text that it prints
abbrev pub LONGEST : ℕ
LONGEST = 65536

-- a run that does not open with 00 is refused
abbrev pub run_lines : List ℕ → Result ℕ Refusal → List ℕ
run_lines input (Err refusal) = refused_line (refusal_number refusal) 0
run_lines input (Ok next) = beginning input next (opened (body_at input 0) blanks)

-- 33 is found before anything runs, so only its line is printed
unfoldable pub printed : List ℕ → List ℕ
printed input = pick (ltb LONGEST (length input)) (refused_line (refusal_number TooLong) LONGEST) (run_lines input (first_record (entry_at input 0)))
