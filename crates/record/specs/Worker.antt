-- The worker's record: a fresh one, the idle one, the one that starts, changes of two fields or by a rule, and what a record holds.
use Rattle.std.specs.Prelude.{ℕ, ◌+◌, ◌/◌, ◌%◌, Bool, false, not, ◌&&◌, ltb, eqb}
use Rattle.choice.specs.Choice.{pick}
use Rattle.names.specs.Names.{IDLE, I1, SZ, KEY, DUMMY, EXTRA, INSERT, CEILING}
use Rattle.names.specs.Places.{searches, holds_key}
use Rattle.record.specs.Fields.{with_prev, with_cur, with_next, with_marked, with_steps}
use Rattle.record.specs.declared.Worker.{Worker}
use Rattle.record.specs.declared.Held.{Held}

-- a record of this place, kind and key, all else 0
abbrev pub fresh : ℕ → ℕ → ℕ → Worker
fresh place kind key = record { place = place; errand = KEY; kind = kind; key = key; wanted = 0; making = 0; size = 0; start = 0; prev = 0; cur = 0; next = 0; marked = false; held = 0; dummy = 0; steps = 0 }

abbrev pub idle : Worker
idle = fresh IDLE 0 0

-- what a start sets: an insert begins at I1, find and delete at SZ
unfoldable pub begun : ℕ → ℕ → Worker
begun kind key = fresh (pick (eqb kind INSERT) I1 SZ) kind key

-- ---- changes
-- the search comes to cur, after prev
abbrev pub coming_to : ℕ → ℕ → Worker → Worker
coming_to prev cur x = with_cur cur (with_prev prev x)

-- the link that was read: its next node, and its mark
abbrev pub reading : ℕ → Worker → Worker
reading link x = with_marked (eqb (link % 2) 1) (with_next (link / 2) x)

-- a record counts its operation's steps and stays at the ceiling
unfoldable pub tick : ℕ → ℕ
tick steps = pick (ltb steps CEILING) (steps + 1) steps

abbrev pub ticked : Worker → Worker
ticked x = with_steps (tick x.steps) x

-- ---- what a record holds, over place, errand and kind alone
-- the worker searches, on this errand
abbrev pub searches_for : ℕ → Worker → Bool
searches_for errand x = searches x.place && eqb x.errand errand

-- an insert's key node, from SZ until it is on the chain
unfoldable pub held_key : Worker → ℕ
held_key x = pick (eqb x.kind INSERT && holds_key x.place && not (searches_for EXTRA x)) x.held 0

-- the dummy node while it is searched for; at B8 it is on the chain
unfoldable pub held_dummy : Worker → ℕ
held_dummy x = pick (searches_for DUMMY x) x.dummy 0

abbrev pub holds : Worker → Held
holds x = record { key = held_key x; dummy = held_dummy x }
