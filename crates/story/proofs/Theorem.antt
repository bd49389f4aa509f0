-- The invariant holds at every state of every run, by induction on the calls; what is said of a run is read off it.
-- Assumes nothing.
use mathlib.Core.Path.{◌≡◌, refl, sym, ap, ◌∙◌}
use mathlib.Core.Logic.{◌≢◌, ◌⊎◌, inl, inr, ⊎_elim, ◌↔◌}
use mathlib.Core.Bool.{Bool, true, false, ◌&&◌}
use mathlib.Core.List.Memᴰ.{head as here}
use mathlib.Core.List.Memᴰ.{tail as there}
use mathlib.Core.List.{List, [], ◌∷◌, Memᴰ as In}
use Prim.Native.Nat.{ℕ, zero, suc, ◌+◌, ◌*◌, ◌≤◌, ◌<◌}
use native.Mathlib.Omega.{arith}
use native.Mathlib.Decide.{ℕ_discrete}
use lib.Dec.{eqb}
use borrow.Author.Tests.{ne_eqb}
use Rattle.choice.specs.Choice.{pick}
use Rattle.choice.proofs.Cases.{by_eq, both}
use Rattle.names.specs.Names.{IDLE, KEY_LIMIT}
use Rattle.names.proofs.Classes.{stopped}
use Rattle.names.specs.declared.Answer.{Answer}
use Rattle.names.specs.declared.Answer.TheVariants.{Going, Short, Damaged, NoDummy}
use Rattle.record.specs.declared.Worker.{Worker}
use Rattle.register.specs.Registered.{key, link, On, Registered}
use Rattle.register.specs.Events.{Event, nothing, added, removed, Allowed, Then, adds, removes}
use Rattle.story.specs.Shared.{Call, start, step, Shared, worker_of}
use Rattle.story.specs.Story.{tallied, NeverDamaged, DummiesSuffice, Ledger, StepLaw, BitsAgree}
use Rattle.story.specs.Trace.{done, answer, Next, calls, pause, Trace, state, answer_at, event_at, told}
use Rattle.story.proofs.Spans.{starts_of, began}
use Rattle.story.proofs.Linked.{on_in, in_on}
use Rattle.story.proofs.Stable.{Grows}
use Rattle.story.proofs.Core.{Pasts}
use Rattle.story.proofs.Registers.{Change, regular_odd_all}
use Rattle.story.proofs.Ends.{valued, keeps_valued}
use Rattle.story.proofs.Calls.{InvOf, Made, step_done_lem, step_made, start_done_lem, start_made}
use Rattle.story.proofs.Fresh.{fresh_inv}

-- at an own step of the operation in progress the node was on the chain, unmarked, with this next node and this split key
pub record Saw (r : Trace) (i v n nx k : ℕ) : Type 0 where
  pub call : ℕ
  pub from : began r v i < call
  pub upto : call < i
  pub own : r.call call ≡ step v
  pub on : On (state r call).nodes n
  pub link_is : link (state r call).nodes n ≡ nx * 2
  pub key_is : key (state r call).nodes n ≡ k

-- for what is said of one call alone
abbrev Anything : Pasts
Anything v n nx k = Unit {0}

abbrev pub Past : Trace → ℕ → Pasts
Past r i v n nx k = Saw r i v n nx k

pub record Good (r : Trace) (i : ℕ) : Type 0 where
  pub chain : List ℕ
  pub inv : InvOf (state r i) (Past r i) chain

-- ---- when an operation began
began_step : (r : Trace) (i v w : ℕ) → r.call i ≡ step w → began r v (suc i) ≡ began r v i
unfolding pick
began_step r i v w e = rw e

began_other : (r : Trace) (i v w kind k : ℕ) → v ≢ w → r.call i ≡ start w kind k → began r v (suc i) ≡ began r v i
unfolding pick
began_other r i v w kind k ne e = rw (e, ne_eqb w v (λ q. ne (sym q)))

not_both : (t : Bool) (a b : ℕ) → pick (t && false) a b ≡ b
unfolding pick
not_both true a b = refl
not_both false a b = refl

began_refused : (r : Trace) (i v w kind k : ℕ) → answer_at r i ≢ Going → r.call i ≡ start w kind k → began r v (suc i) ≡ began r v i
began_refused r i v w kind k ng e = rw (e, stopped (answer_at r i) ng) (not_both (eqb w v) i (began r v i))

-- a start of a trace answers what the start does
start_answers : (s : Shared) (w kind k : ℕ) (a : Answer) (ev : Event) (s' : Shared) → Next s (start w kind k) a ev s' → a ≡ (done s (start w kind k)).answer
start_answers s w kind k a ev s' (calls q) = q.answer
start_answers s w kind k a ev s' (pause p) = let q = p.call in let z : ◌≡◌ {A = ℕ} 0 1 = cc in absurd (omega arith)

pub began_le : (r : Trace) (v i : ℕ) → began r v i ≤ i
began_le r v zero = omega arith
began_le r v (suc i) = both (λ (n : ℕ). n ≤ suc i) (starts_of v (r.call i) (answer_at r i)) (omega arith) (omega (arith, began_le r v i))

pub began_lt : (r : Trace) (v i : ℕ) → began r v (suc i) < suc i
began_lt r v i = both (λ (n : ℕ). n < suc i) (starts_of v (r.call i) (answer_at r i)) (omega arith) (omega (arith, began_le r v i))

-- what was seen stays seen while the operation goes on
kept : (r : Trace) (i v : ℕ) → began r v (suc i) ≡ began r v i → Grows (Past r i v) (Past r (suc i) v)
kept r i v e a b k s = record { call = s.call; from = rw e s.from; upto = omega (arith, s.upto); own = s.own; on = s.on; link_is = s.link_is; key_is = s.key_is }

-- a busy worker's operation began before now
pub alive : (r : Trace) (i : ℕ) (g : Good r i) (w : ℕ) → w < (state r i).header.w → (worker_of (state r i) w).place ≢ IDLE → began r w i < i
alive r zero g w lt ne =
    let p = r.first in
    absurd (ne (ap (λ (x : Worker). x.place) (p.rest w (rw p.header at lt))))
alive r (suc i) g w lt ne = began_lt r w i

-- ---- one call
module _ (r : Trace) (i : ℕ) (g : Good r i) where
  made : (c : Call) → r.call i ≡ c → Next (state r i) c (answer_at r i) (event_at r i) (state r (suc i)) → Made (state r i) (Past r i) (Past r (suc i)) c (answer_at r i) (state r (suc i)) (event_at r i)
  made (step w) e n = step_made (state r i) (Past r i) (Past r (suc i)) g.chain g.inv w (λ v. kept r i v (began_step r i v w e))
      (λ lt ne q nx o l. record {
        call = i;
        from = rw (began_step r i w w e) (alive r i g w lt ne);
        upto = omega arith;
        own = e;
        on = in_on (state r i).nodes g.chain g.inv.of_nodes.walk o;
        link_is = l;
        key_is = refl;
      }) (answer_at r i) (event_at r i) (state r (suc i)) n
  made (start w kind k) e n = start_made (state r i) (Past r i) (Past r (suc i)) g.chain g.inv w kind k
      (λ v ne. kept r i v (began_other r i v w kind k ne e))
      (λ ng. kept r i w (began_refused r i w w kind k (λ q. ng (sym (start_answers (state r i) w kind k (answer_at r i) (event_at r i) (state r (suc i)) n) ∙ q)) e))
      (answer_at r i) (event_at r i) (state r (suc i)) n

  pub made_at : Made (state r i) (Past r i) (Past r (suc i)) (r.call i) (answer_at r i) (state r (suc i)) (event_at r i)
  made_at = made (r.call i) refl (r.next i)

pub good : (r : Trace) (i : ℕ) → Good r i
good r zero = record { chain = 1 ∷ []; inv = fresh_inv r.limits (state r 0) r.first (Past r 0) }
good r (suc i) = let k = made_at r i (good r i) in record { chain = k.chain; inv = k.inv }

-- ---- no call answers 12, 11 or 19
any_call : (s : Shared) (Ps : Pasts) (c : List ℕ) → InvOf s Ps c → (k : Call) → (answer s k ≢ Damaged) × (answer s k ≢ Short) × (answer s k ≢ NoDummy)
any_call s Ps c inv (step w) =
    let k = step_done_lem s Ps Anything c inv w (λ v a b n p. tt) (λ lt ne n nx o l. tt) (valued (done s (step w)).stores s.value) (keeps_valued s.header.m (done s (step w)).stores s.value) in
    (k.sound, k.long, k.dummies)
any_call s Ps c inv (start w kind key) =
    let k = start_done_lem s Ps Anything c inv w kind key (λ v ne a b n p. tt) (λ ng a b n p. tt) s.value (λ i l. refl) in
    (k.sound, k.long, k.dummies)

pub never_damaged : (r : Trace) → NeverDamaged (λ (i : ℕ). answer (state r i))
never_damaged r i c = let g = good r i in let q = any_call (state r i) (Past r i) g.chain g.inv c in (q.0, q.1)

pub dummies_suffice : (r : Trace) → DummiesSuffice (λ (i : ℕ). answer (state r i))
dummies_suffice r i c = let g = good r i in (any_call (state r i) (Past r i) g.chain g.inv c).2

-- ---- registered keys change by events alone
pub changes : (r : Trace) (i : ℕ) → Change (state r i).nodes (state r (suc i)).nodes (event_at r i)
changes r i = (made_at r i (good r i)).change

allowed : (a b : List ℕ) (ev : Event) → Change a b ev → Allowed ev (Registered a)
allowed a b nothing c = tt
allowed a b (added k) c = c.before
allowed a b (removed k) c = c.before

then_is : (a b : List ℕ) (ev : Event) → Change a b ev → (j : ℕ) → j ≤ KEY_LIMIT → Registered b j ↔ Then ev (Registered a) j
then_is a b nothing c j l = ((c j).already, (c j).still)
then_is a b (added k) c j l = by (ℕ_discrete j k)
  where
    by : Dec (j ≡ k) → Registered b j ↔ Then (added k) (Registered a) j
    by (yes e) = (λ q. inl e, λ q. rw e c.after)
    by (no ne) = let o = c.others j l ne in (λ q. inr (o.already q), ⊎_elim (λ e. absurd (ne e)) o.still)
then_is a b (removed k) c j l = (λ q. let ne : j ≢ k = λ e. c.after (rw e at q) in (ne, (c.others j l ne).already q), λ q. (c.others j l q.0).still q.1)

pub step_law : (r : Trace) → StepLaw (told r)
step_law r i = let c = changes r i in (allowed (state r i).nodes (state r (suc i)).nodes (event_at r i) c, then_is (state r i).nodes (state r (suc i)).nodes (event_at r i) c)

-- the ledger of a key after one event
abbrev Balance : Type 0 → ℕ → ℕ → Type 0
Balance registered ins del = (registered × (ins ≡ del + 1)) ⊎ ((registered → ⊥) × (ins ≡ del))

plus_one : (k j a : ℕ) → k ≡ j → pick (eqb k j) 1 0 + a ≡ a + 1
plus_one k j a e = by_eq (λ (n : ℕ). n + a ≡ a + 1) k j (λ _. omega arith) (λ ne. absurd (ne e))

plus_none : (k j a : ℕ) → k ≢ j → pick (eqb k j) 1 0 + a ≡ a
plus_none k j a ne = by_eq (λ (n : ℕ). n + a ≡ a) k j (λ e. absurd (ne e)) (λ _. omega arith)

balance : (a b : List ℕ) (ev : Event) (k ins del : ℕ) → k ≤ KEY_LIMIT → Change a b ev
    → Balance (Registered a k) ins del → Balance (Registered b k) (adds (eqb k) ev + ins) (removes (eqb k) ev + del)
balance a b nothing k ins del l c (inl p) = inl ((c k).still p.0, omega (arith, p.1))
balance a b nothing k ins del l c (inr p) = inr (λ q. p.0 ((c k).already q), omega (arith, p.1))
balance a b (added j) k ins del l c p = by (ℕ_discrete k j) p
  where
    by : Dec (k ≡ j) → Balance (Registered a k) ins del → Balance (Registered b k) (adds (eqb k) (added j) + ins) (0 + del)
    by (yes e) (inl p) = absurd (c.before (rw e at p.0))
    by (yes e) (inr p) = inl (rw e c.after, omega (arith, plus_one k j ins e, p.1))
    by (no ne) (inl p) = inl ((c.others k l ne).still p.0, omega (arith, plus_none k j ins ne, p.1))
    by (no ne) (inr p) = inr (λ q. p.0 ((c.others k l ne).already q), omega (arith, plus_none k j ins ne, p.1))
balance a b (removed j) k ins del l c p = by (ℕ_discrete k j) p
  where
    by : Dec (k ≡ j) → Balance (Registered a k) ins del → Balance (Registered b k) (0 + ins) (removes (eqb k) (removed j) + del)
    by (yes e) (inl p) = inr (λ q. c.after (rw e at q), omega (arith, plus_one k j del e, p.1))
    by (yes e) (inr p) = absurd (p.0 (rw e c.before))
    by (no ne) (inl p) = inl ((c.others k l ne).still p.0, omega (arith, plus_none k j del ne, p.1))
    by (no ne) (inr p) = inr (λ q. p.0 ((c.others k l ne).already q), omega (arith, plus_none k j del ne, p.1))

-- no key is registered in a fresh register
pub none_yet : (r : Trace) (k : ℕ) → Registered (state r 0).nodes k → ⊥
none_yet r k g =
    let i = fresh_inv r.limits (state r 0) r.first (Past r 0) in
    let e : key (state r 0).nodes g.node ≡ 0 = rw (is_one (on_in (state r 0).nodes (1 ∷ []) i.of_nodes.walk g.on)) i.of_nodes.zero in
    omega (arith, regular_odd_all k, g.has)
  where
    is_one : {n : ℕ} → In n (1 ∷ []) → n ≡ 1
    is_one (here e) = e
    is_one {n = n} (there x) = elim x [ ]

pub ledger : (r : Trace) → Ledger (told r)
ledger r zero k l = inr (none_yet r k, refl)
ledger r (suc i) k l = balance (state r i).nodes (state r (suc i)).nodes (event_at r i) k (tallied (adds (eqb k)) (event_at r) i) (tallied (removes (eqb k)) (event_at r) i) l (changes r i) (ledger r i k l)

-- ---- busy bits
pub bits_agree : (r : Trace) → BitsAgree (told r)
bits_agree r i w lt = ⊎_elim (λ a. (λ _. a.1, λ _. a.0)) (λ a. (λ e. absurd (a.0 e), λ e. absurd (omega (arith, a.1, e)))) ((good r i).inv.bits w lt (omega arith))
