-- A record carries its operation through the run: the call that began it, and whether it took effect; so an ended answer rests on an own call.
-- Assumes nothing.
use mathlib.Core.Path.{◌≡◌, refl, sym, ap, subst, ◌∙◌}
use mathlib.Core.Logic.{◌≢◌, ◌⊎◌, inl, inr, ⊎_elim}
use mathlib.Core.Bool.{Bool, true, false, true≢false, ◌&&◌}
use mathlib.Core.List.{List}
use Prim.Native.Nat.{ℕ, zero, suc, ◌+◌, ◌≤◌, ◌<◌}
use native.Mathlib.Omega.{arith}
use native.Mathlib.Decide.{ℕ_discrete}
use lib.Dec.{eqb}
use lib.ListN.{get_or, set}
use lib.Seq.{get_or-set_same, get_or-set_other}
use borrow.Author.Tests.{ne_eqb, eq-eqb}
use Rattle.choice.proofs.Auto.{pick_true, pick_false}
use Rattle.choice.proofs.Cases.{both}
use Rattle.names.specs.Names.{IDLE, INSERT, FIND, DELETE, refuses}
use Rattle.names.proofs.Classes.{refused_stops}
use Rattle.names.specs.declared.Answer.{Answer}
use Rattle.names.specs.declared.Answer.TheVariants.{Going, Yes}
use Rattle.record.specs.declared.Worker.{Worker}
use Rattle.record.specs.Worker.{idle, fresh, begun}
use Rattle.register.specs.Events.{Event, nothing, added, removed, Says, yes_insert, yes_delete, yes_find, took_effect}
use Rattle.story.specs.Shared.{Call, start, step, Shared, worker_of}
use Rattle.story.specs.Trace.{First, Trace, state, answer_at, event_at}
use Rattle.story.proofs.Spans.{starts_of, began, owns, effects}
use Rattle.story.proofs.Steps.{Turned}
use Rattle.story.proofs.Calls.{Tale, refused, begins, goes, ends}
use Rattle.story.proofs.Theorem.{Past, good, made_at, alive}

-- ---- what a call does to when an operation began and to how many events it had
-- the call starts no operation of w
pub still : (r : Trace) (i w : ℕ) → starts_of w (r.call i) (answer_at r i) ≡ false
    → (began r w (suc i) ≡ began r w i) × (effects r w (suc i) ≡ owns w (r.call i) (event_at r i) + effects r w i)
still r i w e = (pick_false _ i (began r w i) e, pick_false _ 0 (owns w (r.call i) (event_at r i) + effects r w i) e)

no_start : (w : ℕ) (c : Call) (a : Answer) → refuses a ≡ true → starts_of w c a ≡ false
no_start w (start v kind k) a n = rw (refused_stops a n) (and_no (eqb v w))
  where
    and_no : (t : Bool) → (t && false) ≡ false
    and_no true = refl
    and_no false = refl
no_start w (step v) a n = refl

pub owns_nothing : (w : ℕ) (c : Call) → owns w c nothing ≡ 0
owns_nothing w (start v kind k) = refl
owns_nothing w (step v) = refl

owns_other : (v w : ℕ) (ev : Event) → v ≢ w → owns w (step v) ev ≡ 0
owns_other v w nothing ne = refl
owns_other v w (added k) ne = pick_false {A = ℕ} (eqb v w) 1 0 (ne_eqb v w ne)
owns_other v w (removed k) ne = pick_false {A = ℕ} (eqb v w) 1 0 (ne_eqb v w ne)

pub owns_mine : (w : ℕ) (ev : Event) → owns w (step w) ev ≡ 0 → ev ≡ nothing
owns_mine w nothing e = refl
owns_mine w (added k) e = absurd (omega (arith, e, pick_true {A = ℕ} (eqb w w) 1 0 (eq-eqb w w refl)))
owns_mine w (removed k) e = absurd (omega (arith, e, pick_true {A = ℕ} (eqb w w) 1 0 (eq-eqb w w refl)))

pub none_more : {a b : ℕ} → a ≡ 0 → a + b ≡ b
none_more e = omega arith

owns_one : (w : ℕ) (ev : Event) → ev ≢ nothing → owns w (step w) ev ≡ 1
owns_one w nothing ne = absurd (ne refl)
owns_one w (added k) ne = pick_true {A = ℕ} (eqb w w) 1 0 (eq-eqb w w refl)
owns_one w (removed k) ne = pick_true {A = ℕ} (eqb w w) 1 0 (eq-eqb w w refl)

-- ---- what a yes says of its own event
pub says_added : {k j kind : ℕ} {ev : Event} → ev ≡ added k → kind ≡ INSERT → k ≡ j → Says j ⊥ kind Yes ev
says_added e q p = rw (e, q, p) yes_insert

pub says_removed : {k j kind : ℕ} {ev : Event} → ev ≡ removed k → kind ≡ DELETE → k ≡ j → Says j ⊥ kind Yes ev
says_removed e q p = rw (e, q, p) yes_delete

pub says_some : {k kind : ℕ} {ev : Event} → Says k ⊥ kind Yes ev → ev ≢ nothing
says_some yes_insert e = let z : ◌≡◌ {A = ℕ} 0 1 = cc in omega arith
says_some yes_delete e = let z : ◌≡◌ {A = ℕ} 0 1 = cc in omega arith
says_some (yes_find n) e = n

pub says_effect : {k kind : ℕ} {ev : Event} → Says k ⊥ kind Yes ev → kind ≢ FIND
says_effect yes_insert e = omega arith
says_effect yes_delete e = omega arith
says_effect (yes_find n) e = n

-- ---- the operation in progress
pub record EventIn (r : Trace) (i w kind k : ℕ) : Type 0 where
  pub call : ℕ
  pub from : began r w i < call
  pub upto : call < i
  pub own : r.call call ≡ step w
  pub what : Says k ⊥ kind Yes (event_at r call)

pub record Op (r : Trace) (i w : ℕ) (x : Worker) : Type 0 where
  pub started : r.call (began r w i) ≡ start w x.kind x.key
  pub going : answer_at r (began r w i) ≡ Going
  pub flag : ((took_effect x ≡ true) × (effects r w i ≡ 1) × EventIn r i w x.kind x.key) ⊎ ((took_effect x ≡ false) × (effects r w i ≡ 0))

pub record Ops (r : Trace) (i w : ℕ) (x : Worker) : Type 0 where
  pub few : effects r w i ≤ 1
  pub busy : x.place ≢ IDLE → Op r i w x

-- a call that does not touch it
same_op : (r : Trace) (i w : ℕ) (x : Worker) → began r w (suc i) ≡ began r w i → effects r w (suc i) ≡ effects r w i → Ops r i w x → Ops r (suc i) w x
same_op r i w x eb ee o = record {
  few = rw ee o.few;
  busy = λ ne. record {
    started = rw eb (o.busy ne).started;
    going = rw eb (o.busy ne).going;
    flag = ⊎_elim (λ p. inl (p.0, ee ∙ p.1, record { call = p.2.call; from = rw eb p.2.from; upto = omega (arith, p.2.upto); own = p.2.own; what = p.2.what }))
        (λ p. inr (p.0, ee ∙ p.1)) (o.busy ne).flag;
  };
}

begun_took : (kind k : ℕ) → took_effect (begun kind k) ≡ false
unfolding begun
begun_took kind k = both (λ (p : ℕ). took_effect (fresh p kind k) ≡ false) (eqb kind INSERT) refl refl

begun_kind : (kind k : ℕ) → ((begun kind k).kind ≡ kind) × ((begun kind k).key ≡ k)
unfolding begun
begun_kind kind k = (refl, refl)

module _ (r : Trace) (i w : ℕ) (o : Ops r i w (worker_of (state r i) w)) (lt : w < (state r i).header.w) where
  abbrev s : Shared
  s = state r i

  abbrev x : Worker
  x = worker_of s w

  abbrev ev : Event
  ev = event_at r i

  here_is : (y : Worker) → (state r (suc i)).workers ≡ set s.workers w y → worker_of (state r (suc i)) w ≡ y
  here_is y e = rw e (get_or-set_same s.workers w y idle (omega (arith, (good r i).inv.long)))

  there_is : (v : ℕ) (y : Worker) → v ≢ w → (state r (suc i)).workers ≡ set s.workers v y → worker_of (state r (suc i)) w ≡ x
  there_is v y ne e = rw e (get_or-set_other s.workers v w y idle (λ q. ne (sym q)))

  -- another worker's step
  other_step : (v : ℕ) (y : Worker) → v ≢ w → r.call i ≡ step v → (state r (suc i)).workers ≡ set s.workers v y → Ops r (suc i) w (worker_of (state r (suc i)) w)
  other_step v y ne e q =
      let k = still r i w (rw e refl) in
      rw (there_is v y ne q) (same_op r i w x k.0 (k.1 ∙ none_more none) o)
    where
      none : owns w (r.call i) ev ≡ 0
      none = rw e (owns_other v w ev ne)

  -- the worker's own step
  module _ (y : Worker) (ec : r.call i ≡ step w) (ew : (state r (suc i)).workers ≡ set s.workers w y) (ek : y.kind ≡ x.kind) (ey : y.key ≡ x.key) (nb : x.place ≢ IDLE) where
    kept : (began r w (suc i) ≡ began r w i) × (effects r w (suc i) ≡ owns w (r.call i) ev + effects r w i)
    kept = still r i w (rw ec refl)

    mine : owns w (r.call i) ev ≡ owns w (step w) ev
    mine = ap (λ (c : Call). owns w c ev) ec

    p : Op r i w x
    p = o.busy nb

    -- it took effect in this call
    now : Says x.key ⊥ x.kind Yes ev → took_effect x ≡ false → took_effect y ≡ true → Ops r (suc i) w y
    now what f t =
        let z : effects r w i ≡ 0 = ⊎_elim (λ q. absurd (true≢false (sym q.0 ∙ f))) (λ q. q.1) p.flag in
        let one : effects r w (suc i) ≡ 1 = kept.1 ∙ omega (arith, mine, owns_one w ev (says_some what)) in
        record {
          few = omega arith;
          busy = λ _. record {
            started = rw (kept.0, ek, ey) p.started;
            going = rw kept.0 p.going;
            flag = inl (t, one, record { call = i; from = rw kept.0 (alive r i (good r i) w lt nb); upto = omega arith; own = ec; what = rw (ek, ey) what });
          };
        }

    -- it did not
    quiet : ev ≡ nothing → took_effect y ≡ took_effect x → Ops r (suc i) w y
    quiet e t =
        let ee : effects r w (suc i) ≡ effects r w i = kept.1 ∙ none_more (mine ∙ ap (owns w (step w)) e) in
        let q = same_op r i w x kept.0 ee o in
        record {
          few = q.few;
          busy = λ _. record {
            started = rw (ek, ey) (q.busy nb).started;
            going = (q.busy nb).going;
            flag = ⊎_elim (λ f. inl (t ∙ f.0, f.1, rw (ek, ey) f.2)) (λ f. inr (t ∙ f.0, f.1)) (q.busy nb).flag;
          };
        }

    by_event : (e : Event) → ev ≡ e → Turned x (took_effect x) (took_effect y) e → Ops r (suc i) w y
    by_event nothing e t = quiet e t
    by_event (added k) e t = now (says_added e t.2 t.3) t.0 t.1
    by_event (removed k) e t = now (says_removed e t.2 t.3) t.0 t.1

    own_step : Turned x (took_effect x) (took_effect y) ev → Ops r (suc i) w (worker_of (state r (suc i)) w)
    own_step t = rw (here_is y ew) (by_event ev refl t)

  ops_suc : Tale s (Past r i) (r.call i) (answer_at r i) (state r (suc i)) ev → Ops r (suc i) w (worker_of (state r (suc i)) w)
  ops_suc (refused ew en rf hc) =
      let k = still r i w (no_start w (r.call i) (answer_at r i) rf) in
      subst (λ (y : Worker). Ops r (suc i) w y) (sym (ap (λ (ws : List Worker). get_or ws w idle) ew))
      (same_op r i w x k.0 (k.1 ∙ none_more (ap (owns w (r.call i)) en ∙ owns_nothing w (r.call i))) o)
  ops_suc (begins v kind k ec l ew en ea hc xi) = by (ℕ_discrete v w)
    where
      by : Dec (v ≡ w) → Ops r (suc i) w (worker_of (state r (suc i)) w)
      by (yes q) =
          let st : starts_of w (r.call i) (answer_at r i) ≡ true = rw (ea, ec, q, eq-eqb w w refl) refl in
          let eb : began r w (suc i) ≡ i = pick_true _ i (began r w i) st in
          let ee : effects r w (suc i) ≡ 0 = pick_true _ 0 (owns w (r.call i) ev + effects r w i) st in
          rw (here_is (begun kind k) (rw q at ew)) (record {
            few = omega arith;
            busy = λ _. record { started = rw (eb, (begun_kind kind k).0, (begun_kind kind k).1) (rw q at ec); going = rw eb ea; flag = inr (begun_took kind k, ee) };
          })
      by (no ne) =
          let st : starts_of w (r.call i) (answer_at r i) ≡ false = rw (ec, ne_eqb v w ne) refl in
          let k' = still r i w st in
          rw (there_is v (begun kind k) ne ew) (same_op r i w x k'.0 (k'.1 ∙ none_more (ap (owns w (r.call i)) en ∙ owns_nothing w (r.call i))) o)
  ops_suc (goes v ec l y ew ek ey nb tn ea ty) = by (ℕ_discrete v w)
    where
      by : Dec (v ≡ w) → Ops r (suc i) w (worker_of (state r (suc i)) w)
      by (yes q) = own_step y (rw q at ec) (rw q at ew) (rw q at ek) (rw q at ey) (rw q at nb) (rw q at tn)
      by (no ne) = other_step v y ne ec ew
  ops_suc (ends v ec l ew en nb td ty) = by (ℕ_discrete v w)
    where
      by : Dec (v ≡ w) → Ops r (suc i) w (worker_of (state r (suc i)) w)
      by (yes q) =
          let k = still r i w (rw ec refl) in
          rw (here_is idle (rw q at ew)) (record {
            few = rw (k.1 ∙ none_more (ap (owns w (r.call i)) en ∙ owns_nothing w (r.call i))) o.few;
            busy = λ n. absurd (n refl);
          })
      by (no ne) = other_step v idle ne ec ew

pub ops : (r : Trace) (i w : ℕ) → w < (state r i).header.w → Ops r i w (worker_of (state r i) w)
ops r zero w lt = record { few = omega arith; busy = λ ne. absurd (ne (ap (λ (x : Worker). x.place) (p.rest w (rw p.header at lt)))) }
  where
    p : First r.limits (state r 0)
    p = r.first
ops r (suc i) w lt =
    let m = made_at r i (good r i) in
    let l : w < (state r i).header.w = omega (arith, m.sizes.2) in
    ops_suc r i w (ops r i w l) l m.tale
