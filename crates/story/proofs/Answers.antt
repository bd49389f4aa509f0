-- An answer that ends an operation comes from a step that closes it, and there the record says what it rests on.
-- Assumes nothing.
use mathlib.Core.Path.{◌≡◌, refl, sym, ap, subst, ◌∙◌}
use mathlib.Core.Logic.{◌≢◌, ◌⊎◌, inl, inr, ⊎_elim}
use mathlib.Core.Bool.{Bool, true, false, true≢false, ◌&&◌}
use Prim.Native.Nat.{ℕ, zero, suc, ◌≤◌, ◌<◌}
use native.Mathlib.Omega.{arith}
use native.Mathlib.Decide.{ℕ_discrete, dec_lt}
use lib.Dec.{eqb}
use borrow.Author.Tests.{eq-eqb, eqb-true}
use Rattle.choice.proofs.Auto.{pick_true, pick_false}
use Rattle.split.specs.Split.{regular}
use Rattle.names.specs.Names as names
use Rattle.names.specs.Names.{IDLE, INSERT, FIND, DELETE, goes_on}
use Rattle.names.proofs.Classes.{only_going, refused_or_ended}
use Rattle.names.specs.declared.Answer.{Answer}
use Rattle.names.specs.declared.Answer.TheVariants.{Going, Yes, No, Limit, Short, Damaged, NoWorker, KeyAbove, IsBusy, IsIdle, NoKind, NoKeyNode, NoDummy}
use Rattle.header.specs.Header.{nodes_of, dummies_of}
use Rattle.record.specs.declared.Worker.{Worker}
use Rattle.register.specs.Registered.{Registered}
use Rattle.register.specs.Events.{Event, nothing, added, removed, Says, yes_insert, yes_delete, yes_find, no_insert, no_find, no_delete, took_effect}
use Rattle.story.specs.Shared.{Call, start, step, Shared, worker_of}
use Rattle.story.specs.Story.{AnswersAreFromThePaper, Ends, Operation, Own, OfAnOperation, TrueAtAMoment, OwnEvent, OwnEffect}
use Rattle.story.specs.Trace.{Trace, state, answer_at, event_at, told}
use Rattle.story.proofs.Spans.{starts_of, began, owns, effects}
use Rattle.story.proofs.Linked.{on_in}
use Rattle.story.proofs.Facts.{Fact}
use Rattle.story.proofs.Registers.{gap}
use Rattle.story.proofs.Steps.{Turned, ToldBy, Presently, Absently}
use Rattle.story.proofs.Calls.{Tale, refused, begins, goes, ends}
use Rattle.story.proofs.Theorem.{Saw, Past, good, made_at, alive}
use Rattle.story.proofs.Moments.{still, owns_mine, says_added, says_removed, says_some, says_effect, EventIn, Op, ops}

-- ---- the step that ends an operation
record End (r : Trace) (e w : ℕ) : Type 0 where
  real : w < (state r e).header.w
  busy : (worker_of (state r e) w).place ≢ IDLE
  none : event_at r e ≡ nothing
  told : ToldBy (state r e).nodes (Past r e w) (worker_of (state r e) w) (took_effect (worker_of (state r e) w)) (answer_at r e)

ending : (r : Trace) (e w : ℕ) → r.call e ≡ step w → Ends (answer_at r e) → End r e w
ending r e w ec d = by (made_at r e (good r e)).tale
  where
    by : Tale (state r e) (Past r e) (r.call e) (answer_at r e) (state r (suc e)) (event_at r e) → End r e w
    by (refused ew en rf hc) = absurd (refused_or_ended (answer_at r e) rf d)
    by (begins v kind k q l ew en ea hc xi) = let z : ◌≡◌ {A = ℕ} 0 1 = cc in absurd (omega arith)
    by (goes v q l y ew ek ey nb tn ea ty) = absurd (true≢false (sym d ∙ ap names.ends ea))
    by (ends v q l ew en nb td ty) = subst (λ (u : ℕ). End r e u) same (record { real = l; busy = nb; none = en; told = td })
      where
        same : v ≡ w
        same = cc

module _ (r : Trace) (e w : ℕ) (d : End r e w) where
  abbrev s : Shared
  s = state r e

  abbrev x : Worker
  x = worker_of s w

  op : Op r e w x
  op = (ops r e w d.real).busy d.busy

  -- a find has no event
  find_quiet : x.kind ≡ FIND → took_effect x ≡ false
  find_quiet k = ⊎_elim (λ p. absurd (says_effect p.2.what k)) (λ p. p.0) op.flag

  -- one that ended without a yes, but for a find, did not take effect
  undone : (answer_at r e ≡ Yes → x.kind ≡ FIND) → took_effect x ≡ false
  undone f = by (took_effect x) refl
    where
      by : (t : Bool) → took_effect x ≡ t → took_effect x ≡ false
      by true t = d.told.undone (λ y. true≢false (sym t ∙ find_quiet (f y)))
      by false t = t

  -- an operation that did not take effect had no event
  none_of : took_effect x ≡ false → effects r w e ≡ 0
  none_of f = ⊎_elim (λ p. absurd (true≢false (sym p.0 ∙ f))) (λ p. p.1) op.flag

-- where an operation had no event, none of its calls has one
quiet_before : (r : Trace) (w i : ℕ) → effects r w i ≡ 0 → (j : ℕ) → began r w i < j → j < i → r.call j ≡ step w → event_at r j ≡ nothing
quiet_before r w zero z j b u c = absurd (omega arith)
quiet_before r w (suc i) z j b u c = by (starts_of w (r.call i) (answer_at r i)) refl (ℕ_discrete j i) (quiet_before r w i)
  where
    by : (t : Bool) → starts_of w (r.call i) (answer_at r i) ≡ t → Dec (j ≡ i)
        → (effects r w i ≡ 0 → (j : ℕ) → began r w i < j → j < i → r.call j ≡ step w → event_at r j ≡ nothing) → event_at r j ≡ nothing
    by true st p ih = absurd (omega (arith, pick_true (starts_of w (r.call i) (answer_at r i)) i (began r w i) st))
    by false st (yes q) ih =
        let k = still r i w st in
        let o : owns w (r.call i) (event_at r i) ≡ 0 = omega (arith, k.1) in
        let c' : r.call i ≡ step w = rw q at c in
        rw q (owns_mine w (event_at r i) (sym (ap (λ (d : Call). owns w d (event_at r i)) c') ∙ o))
    by false st (no q) ih =
        let k = still r i w st in
        ih (omega (arith, k.1)) j (rw k.0 at b) (omega (arith, q)) c

-- an event is its operation's first
first_event : (r : Trace) (j w : ℕ) → r.call j ≡ step w → event_at r j ≢ nothing → effects r w j ≡ 0
first_event r j w ec ne = by (made_at r j (good r j)).tale
  where
    turned : (x : Worker) (a b : Bool) (ev : Event) → ev ≢ nothing → Turned x a b ev → a ≡ false
    turned x a b nothing n t = absurd (n refl)
    turned x a b (added k) n t = t.0
    turned x a b (removed k) n t = t.0

    by : Tale (state r j) (Past r j) (r.call j) (answer_at r j) (state r (suc j)) (event_at r j) → effects r w j ≡ 0
    by (refused ew en rf hc) = absurd (ne en)
    by (begins v kind k q l ew en ea hc xi) = absurd (ne en)
    by (goes v q l y ew ek ey nb tn ea ty) =
        let z = turned (worker_of (state r j) v) (took_effect (worker_of (state r j) v)) (took_effect y) (event_at r j) ne tn in
        let same : v ≡ w = cc in
        rw same at (⊎_elim (λ o. absurd (true≢false (sym o.0 ∙ z))) (λ o. o.1) ((ops r j v l).busy nb).flag)
    by (ends v q l ew en nb td ty) = absurd (ne en)

-- ---- an operation is the last that its worker started
starts_means : (w : ℕ) (c : Call) (a : Answer) → starts_of w c a ≡ true → (kind : ℕ) × (k : ℕ) × (c ≡ start w kind k) × (a ≡ Going)
starts_means w (start v kind k) a e =
    let p = and_true (eqb v w) (goes_on a) e in
    (kind, k, ap (λ (u : ℕ). start u kind k) (eqb-true v w p.0), only_going a p.1)
  where
    and_true : (s t : Bool) → (s && t) ≡ true → (s ≡ true) × (t ≡ true)
    and_true true t e = (refl, e)
    and_true false t e = absurd (true≢false (sym e))
starts_means w (step v) a e = absurd (true≢false (sym e))

starts_so : (r : Trace) (w b kind k : ℕ) → r.call b ≡ start w kind k → answer_at r b ≡ Going → starts_of w (r.call b) (answer_at r b) ≡ true
starts_so r w b kind k q g = rw (g, q, eq-eqb w w refl) refl

began_is : (r : Trace) (w kind k b e : ℕ) → Operation (told r) w kind k b e → began r w e ≡ b
began_is r w kind k b zero o = absurd (omega (arith, o.before))
began_is r w kind k b (suc i) o = by (ℕ_discrete b i) (starts_of w (r.call i) (answer_at r i)) refl (λ l. began_is r w kind k b i (record { before = l; started = o.started; going = o.going; last = λ j kind k p q. o.last j kind k p (omega arith) }))
  where
    by : Dec (b ≡ i) → (t : Bool) → starts_of w (r.call i) (answer_at r i) ≡ t → (b < i → began r w i ≡ b) → began r w (suc i) ≡ b
    by (yes q) true st ih = pick_true _ i (began r w i) st ∙ sym q
    by (yes q) false st ih = absurd (true≢false (sym (rw q at (starts_so r w b kind k o.started o.going)) ∙ st))
    by (no ne) true st ih = let m = starts_means w (r.call i) (answer_at r i) st in absurd (o.last i m.0 m.1 (omega (arith, ne, o.before)) (omega arith) m.2 m.3)
    by (no ne) false st ih = pick_false _ i (began r w i) st ∙ ih (omega (arith, ne, o.before))

no_later : (r : Trace) (w i j : ℕ) → began r w i < j → j < i → starts_of w (r.call j) (answer_at r j) ≡ false
no_later r w zero j b u = absurd (omega arith)
no_later r w (suc i) j b u = by (ℕ_discrete j i) (starts_of w (r.call i) (answer_at r i)) refl (no_later r w i j)
  where
    by : Dec (j ≡ i) → (t : Bool) → starts_of w (r.call i) (answer_at r i) ≡ t → (began r w i < j → j < i → starts_of w (r.call j) (answer_at r j) ≡ false) → starts_of w (r.call j) (answer_at r j) ≡ false
    by d true st ih = absurd (omega (arith, pick_true (starts_of w (r.call i) (answer_at r i)) i (began r w i) st))
    by (yes q) false st ih = rw q st
    by (no ne) false st ih = ih (rw (pick_false _ i (began r w i) st) at b) (omega (arith, ne))

-- the operation of a busy worker
operation : (r : Trace) (i w : ℕ) → w < (state r i).header.w → (worker_of (state r i) w).place ≢ IDLE → Operation (told r) w (worker_of (state r i) w).kind (worker_of (state r i) w).key (began r w i) i
operation r i w lt nb =
    let p = (ops r i w lt).busy nb in
    record {
      before = alive r i (good r i) w lt nb;
      started = p.started;
      going = p.going;
      last = λ j kind k a b q g. true≢false (sym (starts_so r w j kind k q g) ∙ no_later r w i j a b);
    }

same_start : {w a b c d : ℕ} {q : Call} → q ≡ start w a b → q ≡ start w c d → (a ≡ c) × (b ≡ d)
same_start p q = (cc, cc)

-- ---- every ended answer is that of an operation
pub of_an_operation : (r : Trace) → OfAnOperation (told r)
of_an_operation r e w ec d = let n = ending r e w ec d in (_, _, _, operation r e w n.real n.busy)

pub answers_are_from_the_paper : AnswersAreFromThePaper
answers_are_from_the_paper Going = inl refl
answers_are_from_the_paper Yes = inr (inl refl)
answers_are_from_the_paper No = inr (inr (inl refl))
answers_are_from_the_paper Limit = inr (inr (inr (inl refl)))
answers_are_from_the_paper Short = inr (inr (inr (inr (inl refl))))
answers_are_from_the_paper Damaged = inr (inr (inr (inr (inr (inl refl)))))
answers_are_from_the_paper NoWorker = inr (inr (inr (inr (inr (inr (inl refl))))))
answers_are_from_the_paper KeyAbove = inr (inr (inr (inr (inr (inr (inr (inl refl)))))))
answers_are_from_the_paper IsBusy = inr (inr (inr (inr (inr (inr (inr (inr (inl refl))))))))
answers_are_from_the_paper IsIdle = inr (inr (inr (inr (inr (inr (inr (inr (inr (inl refl)))))))))
answers_are_from_the_paper NoKind = inr (inr (inr (inr (inr (inr (inr (inr (inr (inr (inl refl))))))))))
answers_are_from_the_paper NoKeyNode = inr (inr (inr (inr (inr (inr (inr (inr (inr (inr (inr (inl refl)))))))))))
answers_are_from_the_paper NoDummy = inr (inr (inr (inr (inr (inr (inr (inr (inr (inr (inr (inr (inl refl))))))))))))

-- ---- an event is its own operation's
pub own_event : (r : Trace) → OwnEvent (told r)
own_event r i ne = by (made_at r i (good r i)).tale
  where
    mine : (x : Worker) (a b : Bool) (ev : Event) → ev ≢ nothing → Turned x a b ev → Says x.key ⊥ x.kind Yes ev
    mine x a b nothing n t = absurd (n refl)
    mine x a b (added k) n t = says_added refl t.2 t.3
    mine x a b (removed k) n t = says_removed refl t.2 t.3

    by : Tale (state r i) (Past r i) (r.call i) (answer_at r i) (state r (suc i)) (event_at r i)
        → (w : ℕ) × (kind : ℕ) × (k : ℕ) × (b : ℕ) × Operation (told r) w kind k b i × Own (told r) w b i i × Says k ⊥ kind Yes (event_at r i)
    by (refused ew en rf hc) = absurd (ne en)
    by (begins v kind k q l ew en ea hc xi) = absurd (ne en)
    by (goes v q l y ew ek ey nb tn ea ty) =
        let o = operation r i v l nb in
        (v, (worker_of (state r i) v).kind, (worker_of (state r i) v).key, began r v i, o, (o.before, omega arith, q), mine (worker_of (state r i) v) (took_effect (worker_of (state r i) v)) (took_effect y) (event_at r i) ne tn)
    by (ends v q l ew en nb td ty) = absurd (ne en)

-- ---- an operation and its one effect
module _ (r : Trace) (w kind k b e : ℕ) (o : Operation (told r) w kind k b e) where
  start_is : began r w e ≡ b
  start_is = began_is r w kind k b e o

  -- up to a call of its own it is the same operation
  until : (i : ℕ) → Own (told r) w b e i → Operation (told r) w kind k b i
  until i m = record { before = m.0; started = o.started; going = o.going; last = λ j kind k p q. o.last j kind k p (omega (arith, m.1)) }

  -- no two of its calls have an event
  apart : (i j : ℕ) → Own (told r) w b e i → Own (told r) w b e j → event_at r i ≢ nothing → event_at r j ≢ nothing → i < j → ⊥
  apart i j m n p q l = p (quiet_before r w j (first_event r j w n.2 q) i (rw (began_is r w kind k b j (until j n)) m.0) l m.2)

  once : (i j : ℕ) → Own (told r) w b e i → Own (told r) w b e j → event_at r i ≢ nothing → event_at r j ≢ nothing → i ≡ j
  once i j m n p q = by (dec_lt i j) (dec_lt j i)
    where
      by : Dec (i < j) → Dec (j < i) → i ≡ j
      by (yes l) d = absurd (apart i j m n p q l)
      by (no nl) (yes l) = absurd (apart j i n m q p l)
      by (no nl) (no nr) = omega (arith, nl, nr)

  module _ (ec : r.call e ≡ step w) (d : End r e w) where
    same : (kind ≡ (worker_of (state r e) w).kind) × (k ≡ (worker_of (state r e) w).key)
    same = same_start o.started (rw start_is at (op r e w d).started)

    own_end : Own (told r) w b e e
    own_end = (o.before, omega arith, ec)

    -- where it had no event, none of its calls has one
    quiet : effects r w e ≡ 0 → (i : ℕ) → Own (told r) w b e i → event_at r i ≡ nothing
    quiet z i m = by (ℕ_discrete i e)
      where
        by : Dec (i ≡ e) → event_at r i ≡ nothing
        by (yes q) = rw q d.none
        by (no ne) = quiet_before r w e z i (rw start_is m.0) (omega (arith, ne, m.1)) m.2

    -- yes to an insert or a delete: it took effect
    took : answer_at r e ≡ Yes → kind ≢ FIND → (i : ℕ) × Own (told r) w b e i × Says k ⊥ kind Yes (event_at r i)
    took y nf = ⊎_elim (λ q. had q.2) (λ q. absurd (true≢false (sym (d.told.done y (λ f. nf (same.0 ∙ f))) ∙ q.0))) (op r e w d).flag
      where
        had : EventIn r e w (worker_of (state r e) w).kind (worker_of (state r e) w).key → (i : ℕ) × Own (told r) w b e i × Says k ⊥ kind Yes (event_at r i)
        had q = (q.call, (rw (← start_is) q.from, omega (arith, q.upto), q.own), rw (same.0, same.1) q.what)

pub own_effect : (r : Trace) → OwnEffect (told r)
own_effect r w kind k b e o = record {
  once = once r w kind k b e o;
  some = λ ec y nf. let q = took r w kind k b e o ec (ending r e w ec (ap names.ends y)) y nf in (q.0, q.1, says_some q.2);
  none = λ ec en f. let d = ending r e w ec en in
      quiet r w kind k b e o ec d (none_of r e w d (undone r e w d (λ y. sym (same r w kind k b e o ec d).0 ∙ f y)));
}

-- ---- true at a moment
-- what is said of a key that is there, of one that is not, and of an own event
says_there : {k kind : ℕ} {a : Answer} {ev : Event} {R : Type 0} → ((kind ≡ FIND) × (a ≡ Yes)) ⊎ ((kind ≡ INSERT) × (a ≡ No)) → ev ≡ nothing → R → Says k R kind a ev
says_there (inl p) n q = rw (p.0, p.1, n) (yes_find q)
says_there (inr p) n q = rw (p.0, p.1, n) (no_insert q)

says_absent : {k kind : ℕ} {a : Answer} {ev : Event} {R : Type 0} → (kind ≡ FIND) ⊎ (kind ≡ DELETE) → a ≡ No → ev ≡ nothing → (R → ⊥) → Says k R kind a ev
says_absent (inl p) e n q = rw (p, e, n) (no_find q)
says_absent (inr p) e n q = rw (p, e, n) (no_delete q)

says_own : {k kind : ℕ} {ev : Event} {R : Type 0} → Says k ⊥ kind Yes ev → Says k R kind Yes ev
says_own yes_insert = yes_insert
says_own yes_delete = yes_delete
says_own (yes_find n) = absurd n

module _ (r : Trace) (w kind k b e : ℕ) (o : Operation (told r) w kind k b e) (ec : r.call e ≡ step w) where
  abbrev a : Answer
  a = answer_at r e

  abbrev M : Type 0
  M = (i : ℕ) × Own (told r) w b e i × Says k (Registered (state r i).nodes k) kind a (event_at r i)

  own_past : {n nx v : ℕ} (p : Saw r e w n nx v) → Own (told r) w b e p.call
  own_past p = (rw (start_is r w kind k b e o) at p.from, omega (arith, p.upto), p.own)

  there : {n nx : ℕ} (p : Saw r e w n nx (regular k)) → Registered (state r p.call).nodes k
  there {n} p = record { node = n; on = p.on; live = rw p.link_is (omega arith); has = p.key_is }

  not_there : {n v : ℕ} (p : Saw r e w n 0 v) → v < regular k → Registered (state r p.call).nodes k → ⊥
  not_there {n} p l =
      let g = good r p.call in
      gap (dummies_of (state r p.call).header) (nodes_of (state r p.call).header) g.chain (state r p.call).nodes g.inv.of_nodes n k
      (on_in (state r p.call).nodes g.chain g.inv.of_nodes.walk p.on) (rw p.key_is l) (λ ne. absurd (ne (rw p.link_is (omega arith))))

  -- the moment is this call, or an own call before
  module _ (d : End r e w) (z : effects r w e ≡ 0) where
    still_quiet : (i : ℕ) → Own (told r) w b e i → event_at r i ≡ nothing
    still_quiet = quiet r w kind k b e o ec d z

    present : ((kind ≡ FIND) × (a ≡ Yes)) ⊎ ((kind ≡ INSERT) × (a ≡ No)) → Presently (state r e).nodes (Past r e w) k → M
    present f (inl q) = (e, own_end r w kind k b e o ec d, says_there f d.none q)
    present f (inr q) = let p = q.2 in (p.call, own_past p, says_there f (still_quiet p.call (own_past p)) (there p))

    absent : (kind ≡ FIND) ⊎ (kind ≡ DELETE) → a ≡ No → Absently (state r e).nodes (Past r e w) k → M
    absent f n (inl q) = (e, own_end r w kind k b e o ec d, says_absent f n d.none q)
    absent f n (inr q) = let p = q.2 in (p.call, own_past p, says_absent f n (still_quiet p.call (own_past p)) (not_there p q.3))

  moment : (a ≡ Yes) ⊎ (a ≡ No) → M
  moment (inl y) = by (ℕ_discrete kind FIND)
    where
      d : End r e w
      d = ending r e w ec (ap names.ends y)

      eq : (kind ≡ (worker_of (state r e) w).kind) × (k ≡ (worker_of (state r e) w).key)
      eq = same r w kind k b e o ec d

      by : Dec (kind ≡ FIND) → M
      by (yes f) = present d (none_of r e w d (find_quiet r e w d (sym eq.0 ∙ f))) (inl (f, y)) (rw eq.1 (d.told.yes y (sym eq.0 ∙ f)))
      by (no nf) = let q = took r w kind k b e o ec d y nf in (q.0, q.1, subst (λ (c : Answer). Says k (Registered (state r q.0).nodes k) kind c (event_at r q.0)) (sym y) (says_own q.2))
  moment (inr n) = by (ℕ_discrete kind INSERT) (ℕ_discrete kind FIND)
    where
      d : End r e w
      d = ending r e w ec (ap names.ends n)

      eq : (kind ≡ (worker_of (state r e) w).kind) × (k ≡ (worker_of (state r e) w).key)
      eq = same r w kind k b e o ec d

      none : effects r w e ≡ 0
      none = none_of r e w d (d.told.undone (λ y. let z : ◌≡◌ {A = ℕ} 0 1 = cc in omega arith))

      -- a busy worker's kind is one of three
      known : (1 ≤ kind) × (kind ≤ DELETE)
      known = of_fact ((good r e).inv.fact w d.real (omega (arith, d.real)))
        where
          of_fact : Fact (state r e).header w (good r e).chain (state r e).nodes (Past r e w) (worker_of (state r e) w) → (1 ≤ kind) × (kind ≤ DELETE)
          of_fact (inl q) = absurd (d.busy (rw q refl))
          of_fact (inr q) = rw eq.0 (q.sane.some, q.sane.kind)

      else : kind ≢ INSERT → (kind ≡ FIND) ⊎ (kind ≡ DELETE) → M
      else ni f = absent d none f n (rw eq.1 (d.told.no_absent n (λ f. ni (eq.0 ∙ f))))

      by : Dec (kind ≡ INSERT) → Dec (kind ≡ FIND) → M
      by (yes f) q = present d none (inr (f, n)) (rw eq.1 (d.told.no_there n (sym eq.0 ∙ f)))
      by (no ni) (yes f) = else ni (inl f)
      by (no ni) (no nf) = else ni (inr (omega (arith, ni, nf, known.0, known.1)))

pub true_at_a_moment : (r : Trace) → TrueAtAMoment (told r)
true_at_a_moment r w kind k b e o ec d = moment r w kind k b e o ec d
