-- A call's table in the parts that the code runs; a call that passes the first has a header without fault, whose numbers are small enough to add; and the word at a place that is known.
-- Assumes nothing.
use Prim.Native.Nat.{ℕ}
use native.Mathlib.Omega.{arith}
use mathlib.Core.Path.{◌≡◌, refl, ap, sym}
use mathlib.Core.Bool.{Bool, true, false}
use lib.Dec.{leb, eqb}
use Rattle.std.specs.Prelude.{Ok, Err}
use Rattle.std.specs.Result.{result_and}
use Rattle.choice.specs.Choice.{pick}
use Rattle.names.specs.Names.{IDLE}
use Rattle.names.specs.declared.Answer.{Answer}
use Rattle.names.specs.declared.Answer.TheVariants.{Short, Damaged, NoWorker, KeyAbove, IsIdle, NoKind}
use Rattle.names.specs.Verdicts.{Verdict}
use Rattle.names.proofs.Verdicts.{passes}
use Rattle.header.specs.Header.{header_damaged, is_short, missing}
use Rattle.header.proofs.Rows.{limits_of, limits_small}
use Rattle.faults.specs.Faults.{worker_damaged}
use Rattle.words.specs.declared.Lengths.{Lengths}
use Rattle.words.specs.Words.{Tables, lengths, left}
use Rattle.register.specs.declared.Call.{Call}
use Rattle.register.specs.declared.Call.TheVariants.{Start, Step}
use Rattle.register.specs.declared.Turn.{Turn}
use Rattle.register.specs.Step.{refused_with, Small, word_at, word_for}
use Rattle.register.specs.Calls.{start_verdict, start_of, step_verdict, step_of, asked_of}
use Rattle.register.specs.Parts.{call_verdict, ask_verdict, open_verdict, busy_verdict, idle_verdict}

pub here : (t : Turn) (ts : Tables) (k : ℕ) → t.worker.place ≡ k → word_at k t ts ≡ word_for t ts
unfolding word_for
here t ts k e = ap (λ (p : ℕ). word_at p t ts) (sym e)

-- ---- a table is its first rows, and where they pass the rows that follow
module _ (a b c d e f g : Answer) where
  abbrev seven : Bool → Bool → Bool → Bool → Bool → Bool → Bool → Verdict
  seven r s t u v w x = pick r (Err a) (pick s (Err b) (pick t (Err c) (pick u (Err d) (pick v (Err e) (pick w (Err f) (pick x (Err g) (Ok tt)))))))

  in_parts : (r s t u v w x : Bool)
      → seven r s t u v w x
      ≡ result_and {T = Unit {0}} (result_and {T = Unit {0}} (pick r (Err a) (pick s (Err b) (pick t (Err c) (Ok tt)))) (result_and {T = Unit {0}} (pick u (Err d) (pick v (Err e) (Ok tt))) (pick w (Err f) (Ok tt)))) (pick x (Err g) (Ok tt))
  unfolding pick
  in_parts true s t u v w x = refl
  in_parts false true t u v w x = refl
  in_parts false false true u v w x = refl
  in_parts false false false true v w x = refl
  in_parts false false false false true w x = refl
  in_parts false false false false false true x = refl
  in_parts false false false false false false x = refl

pub start_follows : (t : Turn) (kind key : ℕ) (lengths : Lengths) → start_verdict t kind key lengths ≡ result_and (open_verdict t (Start kind key) lengths) (busy_verdict t)
unfolding start_verdict open_verdict call_verdict ask_verdict busy_verdict
start_follows t kind key lengths = in_parts _ _ _ _ _ _ _ _ _ _ _ _ _ _

-- a step's table has no rows of its own between
pub step_follows : (t : Turn) (lengths : Lengths) → step_verdict t lengths ≡ result_and (open_verdict t Step lengths) (idle_verdict t)
unfolding step_verdict open_verdict call_verdict ask_verdict idle_verdict pick
step_follows t lengths =
    in_parts Damaged Short NoWorker NoKind KeyAbove Damaged IsIdle
    (header_damaged t.header) (is_short t.header lengths) (leb t.header.w t.number) false false (worker_damaged t.header t.number t.worker) (eqb t.worker.place IDLE)

-- what passes with more passes
passed : (v u : Verdict) → result_and v u ≡ Ok tt → v ≡ Ok tt
passed (Ok _) u e = refl
passed (Err a) u e = cc

pub open_small : (t : Turn) (a : Call) (lengths : Lengths) → open_verdict t a lengths ≡ Ok tt → Small t.header
unfolding open_verdict call_verdict
open_small t a lengths e =
    record { sum = omega (arith, limits_small t.header (limits_of t.header (passes _ _ _ (passed _ _ e)))) }

-- what is refused before the record is asked is refused, start or step
pub refused_asked : (t : Turn) (a : Call) (ts : Tables) (n : Answer) → open_verdict t a (lengths ts) ≡ Err n → asked_of t a ts ≡ left (refused_with n t) ts
unfolding start_of step_of
refused_asked t (Start kind key) ts n e = rw (start_follows t kind key (lengths ts), e)
refused_asked t Step ts n e = rw (step_follows t (lengths ts), e)

-- the first three rows, where the third holds
three : (d s n : Bool) → n ≡ true → pick {A = Verdict} d (Err Damaged) (pick s (Err Short) (pick n (Err NoWorker) (Ok tt))) ≡ Err (pick d Damaged (pick s Short NoWorker))
unfolding pick
three true s n e = refl
three false true n e = refl
three false false n e = rw e

no_worker : (t : Turn) (a : Call) (lengths : Lengths) → leb t.header.w t.number ≡ true
    → open_verdict t a lengths ≡ Err (missing t.header false lengths)
unfolding open_verdict call_verdict missing
no_worker t a lengths e = rw (three (header_damaged t.header) (is_short t.header lengths) (leb t.header.w t.number) e)

-- so a worker that there is not is refused, start or step: 12, 11, 13
pub past_asked : (t : Turn) (a : Call) (ts : Tables) → leb t.header.w t.number ≡ true
    → asked_of t a ts ≡ left (refused_with (missing t.header false (lengths ts)) t) ts
past_asked t a ts e = refused_asked t a ts _ (no_worker t a (lengths ts) e)
