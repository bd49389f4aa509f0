-- An idle record's other fields are all 0 exactly where the record is the idle one: a record is its fields.
-- Assumes nothing.
use Prim.Native.Nat.{ℕ}
use native.Mathlib.Omega.{arith}
use mathlib.Core.Path.{◌≡◌, refl}
use mathlib.Core.Bool.{Bool, true, false, ◌||◌, ◌&&◌, not, beq, or_assoc}
use lib.Dec.{ltb, eqb}
use Rattle.std.proofs.lemmas.Bool.Decides.{nat_tests}
use Rattle.choice.proofs.Exactly.{Tells}
use Rattle.choice.proofs.Telling.{tells_as, tells_eq, tells_and, tells_broken, Clears, clears_as, clears_lt, clears_flag, clears_or}
use Rattle.names.specs.Names.{IDLE}
use Rattle.record.specs.Worker.{idle}
use Rattle.record.specs.contracts.WorkerPartialEq.TheImpl as compared
use Rattle.faults.specs.Faults.{idle_not_zero}
use Rattle.faults.specs.Rows.{IdleNotZero}
use Rattle.record.specs.declared.Worker.{Worker}

-- the fields of a record besides its place are 0
abbrev OthersZero : Worker → Type 0
OthersZero x =
    (x.errand ≡ 0) × ((x.kind ≡ 0) × ((x.key ≡ 0) × ((x.wanted ≡ 0) × ((x.making ≡ 0) × ((x.size ≡ 0) × ((x.start ≡ 0) × ((x.prev ≡ 0) × ((x.cur ≡ 0) × ((x.next ≡ 0) × ((x.marked ≡ false) × ((x.held ≡ 0) × ((x.dummy ≡ 0) × (x.steps ≡ 0)))))))))))))

-- no number is below 0
clears_zero : (n : ℕ) → Clears (ltb 0 n) (n ≡ 0)
clears_zero n = clears_as (λ l. omega arith) (λ e. omega arith) (clears_lt 0 n)

-- the row asks for each of those fields whether it is above 0
others_zero : (x : Worker) → Clears (ltb 0 x.errand || ltb 0 x.kind || ltb 0 x.key || ltb 0 x.wanted || ltb 0 x.making || ltb 0 x.size || ltb 0 x.start || ltb 0 x.prev || ltb 0 x.cur || ltb 0 x.next || x.marked || ltb 0 x.held || ltb 0 x.dummy || ltb 0 x.steps) (OthersZero x)
others_zero x =
    simp or_assoc
    (clears_or (clears_zero x.errand)
    (clears_or (clears_zero x.kind)
    (clears_or (clears_zero x.key)
    (clears_or (clears_zero x.wanted)
    (clears_or (clears_zero x.making)
    (clears_or (clears_zero x.size)
    (clears_or (clears_zero x.start)
    (clears_or (clears_zero x.prev)
    (clears_or (clears_zero x.cur)
    (clears_or (clears_zero x.next)
    (clears_or (clears_flag x.marked)
    (clears_or (clears_zero x.held)
    (clears_or (clears_zero x.dummy)
    (clears_zero x.steps))))))))))))))

-- an idle record whose other fields are 0 is the idle one
zero_idle : (x : Worker) → x.place ≡ IDLE → OthersZero x → x ≡ idle
zero_idle x e (errand, (kind, (key, (wanted, (making, (size, (start, (prev, (cur, (next, (marked, (held, (dummy, steps))))))))))))) =
    λ i. record {
      place = e i;
      errand = errand i;
      kind = kind i;
      key = key i;
      wanted = wanted i;
      making = making i;
      size = size i;
      start = start i;
      prev = prev i;
      cur = cur i;
      next = next i;
      marked = marked i;
      held = held i;
      dummy = dummy i;
      steps = steps i;
    }

-- so it is where no field is above 0
pub is_idle : (x : Worker) → x.place ≡ IDLE → idle_not_zero x ≡ false → x ≡ idle
unfolding idle_not_zero
is_idle x e n = zero_idle x e ((others_zero x).sound (rw e at n))

-- and the other fields of the idle one are 0
idle_zero : (x : Worker) → x ≡ idle → OthersZero x
idle_zero x e = rw e (refl, (refl, (refl, (refl, (refl, (refl, (refl, (refl, (refl, (refl, (refl, (refl, (refl, refl)))))))))))))

-- "an idle record's other fields must be 0"
pub idle_not_zero_lem : (x : Worker) → Tells (idle_not_zero x) (IdleNotZero x)
unfolding idle_not_zero
idle_not_zero_lem x =
    tells_as (λ p. (p.0, λ e. p.1 (idle_zero x e))) (λ p. (p.0, λ z. p.1 (zero_idle x p.0 z)))
    (tells_and (tells_eq x.place IDLE) (tells_broken (others_zero x)))

-- ---- the comparison with the idle record, as code makes it
not_both : (a b : Bool) → not (a && b) ≡ (not a || not b)
not_both true b = refl
not_both false b = refl

not_zero : (n : ℕ) → not (eqb n 0) ≡ ltb 0 n
not_zero n = grind (arith, nat_tests)

not_false : (b : Bool) → not (beq b false) ≡ b
not_false true = refl
not_false false = refl

-- a record that stands idle is another than the idle one where one of its other fields is above 0
pub other_than_idle : (x : Worker) → x.place ≡ IDLE → not ((compared.ghosts).eq x idle) ≡ idle_not_zero x
unfolding idle_not_zero
other_than_idle x p = rw p (simp (not_both, not_zero, not_false, or_assoc))
