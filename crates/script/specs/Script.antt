-- The bytes of a schedule: which kind a byte says, how long its body is, what stands at an offset, and the body there.
use Rattle.std.specs.Prelude.{ℕ, ◌==◌, ◌+◌, ◌-◌, List, [], Option, Some, None, Result, Ok, Err, ltb, leb, length, get_or, take, drop}
use Rattle.choice.specs.Choice.{pick}
use Rattle.script.specs.declared.Kind.{Kind}
use Rattle.script.specs.declared.Kind.TheVariants.{Prepare, Insert, Find, Delete, Step, Steps}
use Rattle.script.specs.declared.Fault.{Fault}
use Rattle.script.specs.declared.Fault.TheVariants.{Unknown, Cut}
use Rattle.script.specs.declared.Record.{Record}

-- the one table of kinds: the byte of each
abbrev pub byte_of : Kind → ℕ
byte_of Prepare = 0
byte_of Insert = 1
byte_of Find = 2
byte_of Delete = 3
byte_of Step = 4
byte_of Steps = 5

-- the kind with that byte; another byte is no kind
unfoldable pub kind_of : ℕ → Result Kind Fault
kind_of byte =
    pick (byte == byte_of Prepare) (Ok Prepare)
    (pick (byte == byte_of Insert) (Ok Insert)
    (pick (byte == byte_of Find) (Ok Find)
    (pick (byte == byte_of Delete) (Ok Delete)
    (pick (byte == byte_of Step) (Ok Step)
    (pick (byte == byte_of Steps) (Ok Steps) (Err Unknown))))))

-- how many bytes follow the byte of kind
abbrev pub body_length : Kind → ℕ
body_length Prepare = 5
body_length Insert = 5
body_length Find = 5
body_length Delete = 5
body_length Step = 1
body_length Steps = 2

-- the record of that kind at an offset, or cut short; the next record starts right after its body
abbrev pub of_kind : List ℕ → ℕ → Result Kind Fault → Result (Option Record) Fault
of_kind input at (Err fault) = Err fault
of_kind input at (Ok kind) = pick (ltb (length input - (at + 1)) (body_length kind)) (Err Cut) (Ok (Some (record { kind = kind; next = at + 1 + body_length kind })))

-- what stands at an offset, in this order: nothing past the end, unknown kind, cut short, whole
unfoldable pub entry_at : List ℕ → ℕ → Result (Option Record) Fault
entry_at input at = pick (leb (length input) at) (Ok None) (of_kind input at (kind_of (get_or input at 0)))

-- the bytes past the byte of kind at an offset, as many as the kind fixes; none where there is no whole record
abbrev pub body_in : List ℕ → ℕ → Result (Option Record) Fault → List ℕ
body_in input at (Err fault) = []
body_in input at (Ok None) = []
body_in input at (Ok (Some r)) = take (body_length r.kind) (drop (at + 1) input)

-- the body of the whole record at an offset, that stretch of the input
unfoldable pub body_at : List ℕ → ℕ → List ℕ
body_at input at = body_in input at (entry_at input at)
