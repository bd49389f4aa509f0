-- Each call keeps the count's equation: an event is to be counted from its own step on, and I9 or D6 counts it; keys are few, so a word holds the sum.
-- Assumes nothing.
use mathlib.Core.Path.{◌≡◌, refl, ap}
use mathlib.Core.Logic.{◌⊎◌, inl, inr, ⊎_elim}
use mathlib.Core.List.{List}
use Prim.Native.Nat.{ℕ, zero, suc, ◌+◌, ◌≤◌, ◌<◌}
use native.Mathlib.Omega.{arith}
use native.Mathlib.Decide.{ℕ_discrete}
use lib.Dec.{eqb}
use lib.ListN.{length, get_or, set}
use lib.Seq.{get_or-set_same, get_or-set_other}
use Rattle.choice.proofs.Cases.{both}
use Rattle.names.specs.Names.{INSERT}
use Rattle.header.specs.declared.Header.{Header}
use Rattle.header.specs.Header.{count_up, count_down}
use Rattle.record.specs.declared.Worker.{Worker}
use Rattle.record.specs.Worker.{idle, fresh, begun}
use Rattle.register.specs.Events.{Event, nothing, adds, removes, all, uncounted_in, uncounted_out, sum_of}
use Rattle.story.specs.Shared.{Shared, worker_of}
use Rattle.story.specs.Story.{Count}
use Rattle.story.specs.Trace.{First, Trace, state, answer_at, event_at, told}
use Rattle.story.proofs.Tally.{Tally, none}
use Rattle.story.proofs.Calls.{Tale, refused, begins, goes, ends}
use Rattle.story.proofs.Theorem.{Past, good, made_at}
use Rattle.story.proofs.Keys.{additions, removals, bounded}

-- ---- the sum over the records, of which one changes
module _ (f : Worker → ℕ) (ws : List Worker) (w : ℕ) (y : Worker) (fits : w < length ws) where
  same_below : (n : ℕ) → n ≤ w → sum_of f (set ws w y) n ≡ sum_of f ws n
  same_below zero b = refl
  same_below (suc n) b = rw (get_or-set_other ws w n y idle (λ e. omega arith), same_below n (omega arith)) refl

  pub sum_set : (n : ℕ) → w < n → sum_of f (set ws w y) n + f (get_or ws w idle) ≡ sum_of f ws n + f y
  sum_set zero b = absurd (omega arith)
  sum_set (suc n) b = by (ℕ_discrete n w) (λ q. sum_set n q)
    where
      by : Dec (n ≡ w) → (w < n → sum_of f (set ws w y) n + f (get_or ws w idle) ≡ sum_of f ws n + f y) → f (get_or (set ws w y) n idle) + sum_of f (set ws w y) n + f (get_or ws w idle) ≡ f (get_or ws n idle) + sum_of f ws n + f y
      by (yes e) rest = rw (e, get_or-set_same ws w y idle fits, same_below w (omega arith)) (omega arith)
      by (no ne) rest = rw (get_or-set_other ws w n y idle ne) (omega (arith, rest (omega (arith, ne))))

pub sum_le : (f : Worker → ℕ) → ((x : Worker) → f x ≤ 1) → (ws : List Worker) (n : ℕ) → sum_of f ws n ≤ n
sum_le f b ws zero = omega arith
sum_le f b ws (suc n) = omega (arith, b (get_or ws n idle), sum_le f b ws n)

sum_idle : (f : Worker → ℕ) → f idle ≡ 0 → (ws : List Worker) (n : ℕ) → ((v : ℕ) → v < n → get_or ws v idle ≡ idle) → sum_of f ws n ≡ 0
sum_idle f z ws zero rest = refl
sum_idle f z ws (suc n) rest = rw (rest n (omega arith)) (omega (arith, z, sum_idle f z ws n (λ v l. rest v (omega arith))))

in_le : (x : Worker) → uncounted_in x ≤ 1
in_le x = both (λ (n : ℕ). n ≤ 1) _ (omega arith) (omega arith)

out_le : (x : Worker) → uncounted_out x ≤ 1
out_le x = both (λ (n : ℕ). n ≤ 1) _ (omega arith) (omega arith)

begun_none : (kind k : ℕ) → (uncounted_in (begun kind k) ≡ 0) × (uncounted_out (begun kind k) ≡ 0)
unfolding begun
begun_none kind k = both (λ (p : ℕ). (uncounted_in (fresh p kind k) ≡ 0) × (uncounted_out (fresh p kind k) ≡ 0)) (eqb kind INSERT) (none, none) (none, none)

-- ---- the equation, up to one turn of the word: c the count, i and o what is not yet counted, up and down what took effect
abbrev Even : ℕ → ℕ → ℕ → ℕ → ℕ → Type 0
Even c i o up down = (c < 4294967296) × ((c + i + down ≡ up + o) ⊎ (c + i + down ≡ up + o + 4294967296))

same_as : {c i o up down c' i' o' up' down' : ℕ} → c' ≡ c → i' ≡ i → o' ≡ o → up' ≡ up → down' ≡ down → Even c i o up down → Even c' i' o' up' down'
same_as a b p q t e = rw (a, b, p, q, t) e

-- the bounds under which a word holds it
record Bounds (i o up down : ℕ) : Type 0 where
  few_in : i ≤ 16
  few_out : o ≤ 16
  above : down ≤ up
  below : up ≤ down + 6000

-- the count stays
stays : (c i o up down i' o' a b : ℕ) → i' ≡ i + a → o' ≡ o + b → Even c i o up down → Even c i' o' (a + up) (b + down)
stays c i o up down i' o' a b p q e = (e.0, ⊎_elim (λ s. inl (omega arith)) (λ s. inr (omega arith)) e.1)

-- an insert is counted
ups : (c i o up down i' : ℕ) → i ≡ i' + 1 → Bounds i o up down → Even c i o up down → Even (count_up c) i' o up down
ups c i o up down i' p b e = by (ℕ_discrete c 4294967295)
  where
    by : Dec (c ≡ 4294967295) → Even (count_up c) i' o up down
    by (yes q) =
        let z : count_up c ≡ 0 = rw q refl in
        (omega arith, ⊎_elim (λ s. absurd (omega (arith, b.few_out, b.below))) (λ s. inl (omega arith)) e.1)
    by (no ne) =
        let z : count_up c ≡ c + 1 = omega (arith, ne, e.0) in
        (omega (arith, ne, e.0), ⊎_elim (λ s. inl (omega arith)) (λ s. inr (omega arith)) e.1)

-- a delete is counted
downs : (c i o up down o' : ℕ) → o ≡ o' + 1 → Bounds i o up down → Even c i o up down → Even (count_down c) i o' up down
downs c i o up down o' p b e = by (ℕ_discrete c 0)
  where
    by : Dec (c ≡ 0) → Even (count_down c) i o' up down
    by (yes q) =
        let z : count_down c ≡ 4294967295 = rw q refl in
        (omega arith, ⊎_elim (λ s. inr (omega arith)) (λ s. absurd (omega (arith, b.few_in, b.above))) e.1)
    by (no ne) =
        let z : count_down c + 1 ≡ c = omega (arith, ne, e.0) in
        (omega (arith, e.0), ⊎_elim (λ s. inl (omega arith)) (λ s. inr (omega arith)) e.1)

-- ---- along a run
abbrev ins : Trace → ℕ → ℕ
ins r i = sum_of uncounted_in (state r i).workers (state r i).header.w

abbrev outs : Trace → ℕ → ℕ
outs r i = sum_of uncounted_out (state r i).workers (state r i).header.w

abbrev Sum : Trace → ℕ → Type 0
Sum r i = Even (state r i).header.count (ins r i) (outs r i) (additions r i) (removals r i)

bounds : (r : Trace) (i : ℕ) → Bounds (ins r i) (outs r i) (additions r i) (removals r i)
bounds r i =
    let l = (good r i).inv.limits in
    let b = bounded r i in
    record {
      few_in = omega (arith, sum_le uncounted_in in_le (state r i).workers (state r i).header.w, l.workers.1);
      few_out = omega (arith, sum_le uncounted_out out_le (state r i).workers (state r i).header.w, l.workers.1);
      above = b.0;
      below = omega (arith, b.1, l.buckets.1, l.workers.1, l.keys.1);
    }

module _ (r : Trace) (i : ℕ) (e : Sum r i) where
  abbrev s : Shared
  s = state r i

  abbrev ev : Event
  ev = event_at r i

  width : (state r (suc i)).header.w ≡ s.header.w
  width = (made_at r i (good r i)).sizes.2

  -- what the records are, where one of them changes
  changed : (f : Worker → ℕ) (w : ℕ) (y : Worker) → w < s.header.w → (state r (suc i)).workers ≡ set s.workers w y
      → sum_of f (state r (suc i)).workers (state r (suc i)).header.w + f (worker_of s w) ≡ sum_of f s.workers s.header.w + f y
  changed f w y lt ew = rw (ew, width) (sum_set f s.workers w y (omega (arith, (good r i).inv.long)) s.header.w lt)

  unchanged : (f : Worker → ℕ) → (state r (suc i)).workers ≡ s.workers → sum_of f (state r (suc i)).workers (state r (suc i)).header.w ≡ sum_of f s.workers s.header.w
  unchanged f ew = rw (ew, width) refl

  adds_none : ev ≡ nothing → (adds all ev + additions r i ≡ additions r i) × (removes all ev + removals r i ≡ removals r i)
  adds_none q = let a : adds all ev ≡ 0 = ap (adds all) q in let b : removes all ev ≡ 0 = ap (removes all) q in (omega arith, omega arith)

  -- one record changes, and the count with it
  module _ (w : ℕ) (y : Worker) (lt : w < s.header.w) (ew : (state r (suc i)).workers ≡ set s.workers w y) where
    ci : ins r (suc i) + uncounted_in (worker_of s w) ≡ ins r i + uncounted_in y
    ci = changed uncounted_in w y lt ew

    co : outs r (suc i) + uncounted_out (worker_of s w) ≡ outs r i + uncounted_out y
    co = changed uncounted_out w y lt ew

    by_tally : Tally s.header.count (state r (suc i)).header.count (worker_of s w) y ev → Sum r (suc i)
    by_tally (inl q) =
        same_as q.0 refl refl refl refl
        (stays s.header.count (ins r i) (outs r i) (additions r i) (removals r i) (ins r (suc i)) (outs r (suc i)) (adds all ev) (removes all ev) (omega (arith, ci, q.1)) (omega (arith, co, q.2)) e)
    by_tally (inr (inl q)) =
        let n = adds_none q.3 in
        same_as q.0 refl (omega (arith, co, q.2)) n.0 n.1
        (ups s.header.count (ins r i) (outs r i) (additions r i) (removals r i) (ins r (suc i)) (omega (arith, ci, q.1)) (bounds r i) e)
    by_tally (inr (inr q)) =
        let n = adds_none q.3 in
        same_as q.0 (omega (arith, ci, q.1)) refl n.0 n.1
        (downs s.header.count (ins r i) (outs r i) (additions r i) (removals r i) (outs r (suc i)) (omega (arith, co, q.2)) (bounds r i) e)

  sum_suc : Tale s (Past r i) (r.call i) (answer_at r i) (state r (suc i)) ev → Sum r (suc i)
  sum_suc (refused ew en rf hc) = let n = adds_none en in same_as hc (unchanged uncounted_in ew) (unchanged uncounted_out ew) n.0 n.1 e
  sum_suc (begins w kind k q l ew en ea hc xi) =
      let n = adds_none en in
      let b = begun_none kind k in
      let z : uncounted_in (worker_of s w) ≡ 0 = rw xi none in
      let z' : uncounted_out (worker_of s w) ≡ 0 = rw xi none in
      same_as hc (omega (arith, changed uncounted_in w (begun kind k) l ew)) (omega (arith, changed uncounted_out w (begun kind k) l ew)) n.0 n.1 e
  sum_suc (goes w q l y ew ek ey nb tn ea ty) = by_tally w y l ew ty
  sum_suc (ends w q l ew en nb td ty) = by_tally w idle l ew ty

sum : (r : Trace) (i : ℕ) → Sum r i
sum r zero = (rw z (omega arith), inl (omega (arith, z, a, b)))
  where
    p : First r.limits (state r 0)
    p = r.first

    z : (state r 0).header.count ≡ 0
    z = ap (λ (h : Header). h.count) p.header

    rest : (v : ℕ) → v < (state r 0).header.w → get_or (state r 0).workers v idle ≡ idle
    rest v l = p.rest v (rw p.header at l)

    a : ins r 0 ≡ 0
    a = sum_idle uncounted_in none (state r 0).workers (state r 0).header.w rest

    b : outs r 0 ≡ 0
    b = sum_idle uncounted_out none (state r 0).workers (state r 0).header.w rest
sum r (suc i) = sum_suc r i (sum r i) (made_at r i (good r i)).tale

pub count : (r : Trace) → Count (told r)
count r i =
    let e = sum r i in
    let b = bounds r i in
    ⊎_elim (λ q. inl (omega (arith, b.few_in, b.few_out, b.above, b.below), omega arith)) (λ q. inr (omega (arith, b.few_in, b.few_out, b.above, b.below), omega arith)) e.1
