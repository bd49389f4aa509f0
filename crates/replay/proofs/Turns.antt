-- A record takes at least a byte, so a run has at most as many turns as bytes: turns beyond those change nothing.
-- Assumes nothing.
use Prim.Native.Nat.{ℕ, zero, suc, ◌+◌, ◌≤◌}
use mathlib.Core.Path.{◌≡◌, refl, sym, ap}
use mathlib.Core.List.{List, ◌++◌}
use native.Mathlib.Omega.{arith}
use lib.Dec.{leb}
use lib.ListN.{length}
use borrow.Author.Tests.{le-leb}
use Rattle.std.specs.Prelude.{Option, Some, None, Result, Ok, Err}
use Rattle.choice.proofs.Auto.{pick_true}
use Rattle.words.specs.Words.{Left}
use Rattle.crew.specs.Crew.{Crew}
use Rattle.script.specs.declared.Kind.{Kind}
use Rattle.script.specs.declared.Kind.TheVariants.{Prepare, Insert, Find, Delete, Step, Steps}
use Rattle.script.specs.declared.Fault.{Fault}
use Rattle.script.specs.declared.Record.{Record}
use Rattle.script.specs.Script.{entry_at, body_at}
use Rattle.script.proofs.Whole.{WholeAt, whole_at}
use Rattle.replay.specs.declared.Refusal.{Refusal}
use Rattle.replay.specs.Play.{worker_in, number_in, played, operation_of, call_line}
use Rattle.replay.specs.Replay.{unless_prepares, later_record, last_lines, on_record, later_lines}

-- the call of a record at an offset
abbrev pub next_call : List ℕ → ℕ → Left Crew → Record → Left Crew
next_call input offset l r = played r.kind (worker_in (body_at input offset)) (number_in r.kind (body_at input offset)) l.out.called.header l.out.workers l.tables

-- its line
abbrev pub next_line : List ℕ → ℕ → Left Crew → Record → List ℕ
next_line input offset l r = let m = next_call input offset l r in call_line (operation_of (worker_in (body_at input offset)) l.out.workers) m.out.called.answer m.out.called.steps offset

-- what stops the run, and the last line
abbrev pub stopped : List ℕ → ℕ → Left Crew → List ℕ
stopped input offset l = last_lines input offset l.out.called.header l.tables.nodes

-- a record that is played is whole
pub played_whole : (input : List ℕ) (offset : ℕ) (r : Record) → later_record (entry_at input offset) ≡ Ok (Some r) → WholeAt input offset r
played_whole input offset r h = whole_at input offset r (told (entry_at input offset) h)
  where
    kept : (k : Kind) (s : Record) → unless_prepares k s ≡ Ok (Some r) → ◌≡◌ {A = Result (Option Record) Fault} (Ok (Some s)) (Ok (Some r))
    kept Prepare s h = absurd (cc h)
    kept Insert s h = cc h
    kept Find s h = cc h
    kept Delete s h = cc h
    kept Step s h = cc h
    kept Steps s h = cc h

    told : (e : Result (Option Record) Fault) → later_record e ≡ Ok (Some r) → e ≡ Ok (Some r)
    told (Err fault) h = absurd (cc h)
    told (Ok None) h = absurd (cc h)
    told (Ok (Some s)) h = kept s.kind s h

-- what is printed from a played record on
abbrev pub from_record : List ℕ → ℕ → ℕ → Left Crew → Record → List ℕ
from_record input turns offset l r = next_line input offset l r ++ later_lines input turns r.next (next_call input offset l r)

-- at the input's end nothing is left to play
pub end_stops : (input : List ℕ) (turns offset : ℕ) (l : Left Crew) → length input ≤ offset → later_lines input turns offset l ≡ stopped input offset l
unfolding later_lines entry_at
end_stops input zero offset l h = refl
end_stops input (suc turns) offset l h =
    ap (λ (e : Result (Option Record) Fault). on_record (later_record e) (from_record input turns offset l) (stopped input offset l)) (pick_true (leb (length input) offset) (Ok None) _ (le-leb (length input) offset h))

pub turns_enough : (input : List ℕ) (few many offset : ℕ) (l : Left Crew) → length input ≤ offset + few → length input ≤ offset + many → later_lines input few offset l ≡ later_lines input many offset l
unfolding later_lines
turns_enough input zero many offset l h k = sym (end_stops input many offset l (omega (arith, h)))
turns_enough input (suc few) zero offset l h k = end_stops input (suc few) offset l (omega (arith, k))
turns_enough input (suc few) (suc many) offset l h k =
    on (later_record (entry_at input offset))
    (λ r is. let w = played_whole input offset r is in
    ap (λ (text : List ℕ). next_line input offset l r ++ text) (turns_enough input few many r.next (next_call input offset l r) (omega (arith, w.ends, h)) (omega (arith, w.ends, k))))
  where
    on : (e : Result (Option Record) Refusal) → ((r : Record) → e ≡ Ok (Some r) → from_record input few offset l r ≡ from_record input many offset l r)
        → on_record e (from_record input few offset l) (stopped input offset l) ≡ on_record e (from_record input many offset l) (stopped input offset l)
    on (Err refusal) same = refl
    on (Ok None) same = refl
    on (Ok (Some r)) same = same r refl
