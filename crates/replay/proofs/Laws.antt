-- What is still to be printed, laid where the last line ended, is the whole text laid at the start: each turn of the loop leads on.
-- Assumes nothing.
use Prim.Native.Nat.{ℕ, zero, suc, ◌+◌, ◌-◌, ◌<◌}
use mathlib.Core.Bool.{true}
use mathlib.Core.Path.{◌≡◌, refl, sym, ap, ◌∙◌}
use mathlib.Core.List.{List, ◌++◌}
use native.Mathlib.Omega.{arith}
use lib.ListN.{length}
use Rattle.std.specs.Prelude.{Option, Some, None, Result, Ok, Err}
use Rattle.words.specs.Words.{Tables, Left}
use Rattle.crew.specs.Crew.{Crew}
use Rattle.script.specs.declared.Record.{Record}
use Rattle.script.specs.Script.{entry_at, body_at}
use Rattle.text.specs.declared.Page.{Page}
use Rattle.text.specs.Text.{written}
use Rattle.text.proofs.Laying.{written_on}
use Rattle.names.specs.Names.{goes_on}
use Rattle.choice.proofs.Auto.{pick_true}
use Rattle.replay.specs.declared.Operation.{Operation}
use Rattle.replay.specs.declared.Refusal.{Refusal}
use Rattle.replay.specs.Play.{opened, worker_in, number_in, played, operation_of, call_line}
use Rattle.replay.specs.Replay.{later_record, on_record, first_line, later_lines, beginning}
use Rattle.replay.proofs.Turns.{next_call, next_line, stopped, from_record, played_whole, turns_enough}

-- what is printed from an offset on, with a turn for each byte that is left
abbrev pub rest_lines : List ℕ → ℕ → Left Crew → List ℕ
rest_lines input offset l = later_lines input (length input - offset) offset l

-- it is all that is printed
rest_whole : (input : List ℕ) (offset : ℕ) (l : Left Crew) → rest_lines input offset l ≡ later_lines input (length input) offset l
rest_whole input offset l = turns_enough input (length input - offset) (length input) offset l (omega arith) (omega arith)

-- one record more
rest_on : (input : List ℕ) (offset : ℕ) (l : Left Crew) (r : Record) → later_record (entry_at input offset) ≡ Ok (Some r)
    → rest_lines input offset l ≡ next_line input offset l r ++ rest_lines input r.next (next_call input offset l r)
unfolding later_lines
rest_on input offset l r is =
    let w = played_whole input offset r is in
    let turns : ℕ = length input - (offset + 1) in
    let one : length input - offset ≡ suc turns = omega (arith, w.inside) in
    ap (λ (n : ℕ). later_lines input n offset l) one
    ∙ ap (λ (e : Result (Option Record) Refusal). on_record e (from_record input turns offset l) (stopped input offset l)) is
    ∙ ap (λ (text : List ℕ). next_line input offset l r ++ text) (turns_enough input turns (length input - r.next) r.next (next_call input offset l r) (omega (arith, w.ends)) (omega arith))

-- and less is left after it
pub nearer : (input : List ℕ) (offset : ℕ) (r : Record) → later_record (entry_at input offset) ≡ Ok (Some r) → length input - r.next < length input - offset
nearer input offset r is = let w = played_whole input offset r is in omega (arith, w.inside, w.ends)

-- what stands there stops the run
pub rest_stop : (input : List ℕ) (offset : ℕ) (l : Left Crew) → ((r : Record) → later_record (entry_at input offset) ≡ Ok (Some r) → ⊥) → rest_lines input offset l ≡ stopped input offset l
unfolding later_lines
rest_stop input offset l none = on (length input - offset)
  where
    by : (e : Result (Option Record) Refusal) (turns : ℕ) → ((r : Record) → e ≡ Ok (Some r) → ⊥) → on_record e (from_record input turns offset l) (stopped input offset l) ≡ stopped input offset l
    by (Err refusal) turns none = refl
    by (Ok None) turns none = refl
    by (Ok (Some r)) turns none = absurd (none r refl)

    on : (turns : ℕ) → later_lines input turns offset l ≡ stopped input offset l
    on zero = refl
    on (suc turns) = by (later_record (entry_at input offset)) turns none

-- a record whose call was made and whose line was laid leads on
pub leads_on : (input : List ℕ) (offset : ℕ) (l : Left Crew) (page : Page) {next whole : Page} {w number : ℕ} {r : Record} {body : List ℕ} {o : Operation} {m : Left Crew}
    → written page (rest_lines input offset l) ≡ whole → later_record (entry_at input offset) ≡ Ok (Some r)
    → body ≡ body_at input offset → w ≡ worker_in body → number ≡ number_in r.kind body → o ≡ operation_of w l.out.workers
    → m ≡ played r.kind w number l.out.called.header l.out.workers l.tables → next ≡ written page (call_line o m.out.called.answer m.out.called.steps offset)
    → written next (rest_lines input r.next m) ≡ whole
leads_on input offset l page {r = r} {o = o} {m = m} lead is b v u who called line = rw (line, written_on) (ap (written page) (sym turn) ∙ lead)
  where
    turn : rest_lines input offset l ≡ call_line o m.out.called.answer m.out.called.steps offset ++ rest_lines input r.next m
    turn = rw (who, called, u, v, b) (rest_on input offset l r is)

-- a first record that goes on: its line, and all that is printed after it
pub begun_on : (input : List ℕ) (next : ℕ) (l : Left Crew) (body : List ℕ) (ts : Tables) → l ≡ opened body ts → body ≡ body_at input 0 → goes_on l.out.called.answer ≡ true
    → first_line l.out.called.header ++ rest_lines input next l ≡ beginning input next (opened (body_at input 0) ts)
unfolding beginning
begun_on input next l body ts is of goes = rw (← of, ← is, rest_whole input next l) (sym (pick_true _ _ _ goes))
