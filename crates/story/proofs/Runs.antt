-- Every run gives a trace, without pauses, and so what holds over every trace holds over every run.
-- Assumes nothing.
use mathlib.Core.Path.{◌≡◌, refl, ap, ◌∙◌}
use mathlib.Core.Bool.{false}
use mathlib.Core.List.{List}
use Prim.Native.Nat.{ℕ, zero, suc, ◌*◌, ◌≤◌}
use native.Mathlib.Omega.{arith}
use lib.Dec.{ltb}
use lib.ListN.{length, get_or, length-set}
use borrow.Author.Tests.{le-ltb}
use Rattle.std.specs.Prelude.{Ok, Err}
use Rattle.choice.specs.Choice.{pick}
use Rattle.choice.proofs.Cases.{both}
use Rattle.words.specs.Words.{Tables, lengths, Left, left, bucket}
use Rattle.words.proofs.Laws.{store_length, store_same, store_other}
use Rattle.names.specs.declared.Answer.{Answer}
use Rattle.names.specs.Verdicts.{Verdict}
use Rattle.header.specs.declared.Header.{Header}
use Rattle.header.specs.Header.{nodes_of, limit_broken, is_short}
use Rattle.header.proofs.Rows.{limits}
use Rattle.record.specs.Worker.{idle}
use Rattle.prepare.specs.declared.Limits.{Limits}
use Rattle.prepare.specs.Prepare.{fresh_header, prepared}
use Rattle.acts.specs.declared.Called.{Called as HandedBack}
use Rattle.acts.specs.declared.Outcome.{Outcome}
use Rattle.acts.specs.declared.Effect.{Effect}
use Rattle.acts.specs.declared.Effect.TheVariants.{Nothing, TakeKey, TakeDummy, Free, Aim, Place, Mark, Unlink, Store, Count as Counts, Size}
use Rattle.acts.specs.declared.Move.{Move}
use Rattle.acts.specs.declared.Move.TheVariants.{Damaged, Going as GoesOn, Ended}
use Rattle.moves.specs.Moves.{decided}
use Rattle.writes.specs.Writes.{stored_by, stored_in}
use Rattle.register.specs.declared.Turn.{Turn}
use Rattle.register.specs.Step.{refused_with, asked_bucket, word_with, word_at, word_for, seen_by, seen_with, carried}
use Rattle.register.specs.Calls.{start_verdict, started_by, start_of, step_verdict, stepped_by, step_of}
use Rattle.register.specs.Events.{Event, nothing, taking, stepping}
use Rattle.crew.specs.Crew.{Crew, turn_at, one_call, stored}
use Rattle.crew.proofs.Laws.{sized}
use Rattle.promises.specs.Fresh as F
use Rattle.promises.proofs.Fresh.{prepare_fresh}
use Rattle.promises.proofs.WritesOnly.{beyond_kept}
use Rattle.story.specs.Shared.{Call, start, step, worker_of}
use Rattle.story.specs.Story.{NeverDamaged, DummiesSuffice, BitsAgree, Ledger, StepLaw, Count, OnePlace, OfAnOperation, TrueAtAMoment, OwnEvent, OwnEffect}
use Rattle.story.specs.Trace.{Keeps, Done, First, Called, calls, Trace, Unpaused, seen_at, all_there, move_done, step_done, start_done, done}
use Rattle.story.specs.Trace as T
use Rattle.story.specs.Run.{State, state_of, leaves, answer, event, Run, state, would, shared, shown, PastKept}
use Rattle.story.proofs.Fresh.{asked, short, Ready, is_ready}
use Rattle.story.proofs.Fresh as fresh
use Rattle.story.proofs.Theorem as t
use Rattle.story.proofs.OnePlace as p
use Rattle.story.proofs.Counting as n
use Rattle.story.proofs.Answers as a

-- ---- what a run's call reads is what its place asks for
sees : (t : Turn) (ts : Tables) → seen_by t ts ≡ seen_with t ts.nodes (bucket ts.buckets (asked_bucket t))
unfolding word_for word_at word_with asked_bucket
sees t ts = refl

-- ---- what it stores keeps the laws
effect_keeps : (M : ℕ) (bs : List ℕ) → M ≤ length bs → (e : Effect)
    → Keeps M (stored_by e) (bucket bs) (bucket (stored_in (stored_by e) bs)) × (length (stored_in (stored_by e) bs) ≡ length bs)
effect_keeps M bs l Nothing = (λ i b. refl, refl)
effect_keeps M bs l (TakeKey n split) = (λ i b. refl, refl)
effect_keeps M bs l (TakeDummy n split) = (λ i b. refl, refl)
effect_keeps M bs l (Free n) = (λ i b. refl, refl)
effect_keeps M bs l (Aim n next) = (λ i b. refl, refl)
effect_keeps M bs l (Place n next prev) = (λ i b. refl, refl)
effect_keeps M bs l (Mark n next) = (λ i b. refl, refl)
effect_keeps M bs l (Unlink prev next n busy) = (λ i b. refl, refl)
effect_keeps M bs l (Store b n) = ((λ r. store_same bs b n (omega arith), λ i r ne. store_other bs b n i ne), store_length bs b n)
effect_keeps M bs l (Counts v) = (λ i b. refl, refl)
effect_keeps M bs l (Size v) = (λ i b. refl, refl)

-- ---- tables that are long enough
pub record Whole (s : State) : Type 0 where
  pub enough : s.header.w ≤ length s.workers
  pub room : s.header.m ≤ length s.tables.buckets

-- what a call leaves of them is what the trace's call does
record Is (s : State) (l : Left Crew) (ev : Event) (d : Done) : Type 0 where
  answer : l.out.called.answer ≡ d.answer
  event : ev ≡ d.event
  header : l.out.called.header ≡ d.header
  workers : l.out.workers ≡ d.workers
  nodes : l.tables.nodes ≡ d.nodes
  values : Keeps s.header.m d.stores (bucket s.tables.buckets) (bucket l.tables.buckets)
  room : length l.tables.buckets ≡ length s.tables.buckets
  enough : length l.out.workers ≡ length s.workers
  sizes : (l.out.called.header.m ≡ s.header.m) × (l.out.called.header.w ≡ s.header.w)

short_is : (h : Header) (nodes buckets : ℕ) → h.m ≤ buckets → is_short h (record { nodes = nodes; buckets = buckets }) ≡ is_short h (record { nodes = nodes; buckets = h.m })
unfolding is_short
short_is h nodes buckets l = rw (le-ltb buckets h.m l, le-ltb h.m h.m (omega arith)) refl

module _ (s : State) (k : Whole s) where
  abbrev turn_of : ℕ → Turn
  turn_of w = turn_at s.header s.workers w

  few : ltb (length s.workers) s.header.w ≡ false
  few = le-ltb (length s.workers) s.header.w k.enough

  long : is_short s.header (lengths s.tables) ≡ is_short s.header (all_there (shared s))
  long = short_is s.header (length s.tables.nodes) (length s.tables.buckets) k.room

  -- header, record and words as they came
  same : (w : ℕ) (b : Answer) → Is s (stored s.workers w (left (refused_with b (turn_of w)) s.tables)) nothing (step_done (shared s) w (Err b))
  same w b = record { answer = refl; event = refl; header = refl; workers = refl; nodes = refl; values = λ i l. refl; room = refl; enough = length-set s.workers w _; sizes = (refl, refl) }

  move_is : (w : ℕ) (m : Move) → Is s (stored s.workers w (carried (turn_of w) m s.tables)) (taking (worker_of (shared s) w) m) (move_done (shared s) w m)
  move_is w Damaged = record { answer = refl; event = refl; header = refl; workers = refl; nodes = refl; values = λ i l. refl; room = refl; enough = length-set s.workers w _; sizes = (refl, refl) }
  move_is w (GoesOn y e) =
      let q = effect_keeps s.header.m s.tables.buckets k.room e in
      let z = sized e s.header in
      record { answer = refl; event = refl; header = refl; workers = refl; nodes = refl; values = q.0; room = q.1; enough = length-set s.workers w _; sizes = (z.0, z.2) }
  move_is w (Ended b e) =
      let q = effect_keeps s.header.m s.tables.buckets k.room e in
      let z = sized e s.header in
      record { answer = refl; event = refl; header = refl; workers = refl; nodes = refl; values = q.0; room = q.1; enough = length-set s.workers w _; sizes = (z.0, z.2) }

  by_verdict : (w : ℕ) (v : Verdict) → Is s (stored s.workers w (stepped_by (turn_of w) s.tables v)) (stepping (turn_of w) v (decided (seen_by (turn_of w) s.tables))) (step_done (shared s) w v)
  by_verdict w (Err b) = same w b
  by_verdict w (Ok _) = rw (sees (turn_of w) s.tables) (move_is w (decided (seen_at (shared s) w)))

  step_is : (w : ℕ) → Is s (leaves s (step w)) (event s (step w)) (done (shared s) (step w))
  unfolding one_call step_of step_verdict pick
  step_is w = rw (few, long) (by_verdict w (step_verdict (turn_of w) (all_there (shared s))))

  started_is : (w kind key : ℕ) (v : Verdict) → Is s (stored s.workers w (left (started_by (turn_of w) kind key v) s.tables)) nothing (start_done (shared s) w kind key v)
  started_is w kind key (Err b) = record { answer = refl; event = refl; header = refl; workers = refl; nodes = refl; values = λ i l. refl; room = refl; enough = length-set s.workers w _; sizes = (refl, refl) }
  started_is w kind key (Ok _) = record { answer = refl; event = refl; header = refl; workers = refl; nodes = refl; values = λ i l. refl; room = refl; enough = length-set s.workers w _; sizes = (refl, refl) }

  start_is : (w kind key : ℕ) → Is s (leaves s (start w kind key)) nothing (done (shared s) (start w kind key))
  unfolding one_call start_of start_verdict pick
  start_is w kind key = rw (few, long) (started_is w kind key (start_verdict (turn_of w) kind key (all_there (shared s))))

  call_is : (c : Call) → Is s (leaves s c) (event s c) (done (shared s) c)
  call_is (step w) = step_is w
  call_is (start w kind key) = start_is w kind key

  next_whole : (c : Call) → Whole (state_of (leaves s c))
  next_whole c = let q = call_is c in record {
    enough = omega (arith, k.enough, q.enough, q.sizes.1);
    room = omega (arith, k.room, q.room, q.sizes.0);
  }

  pub called : (c : Call) → Called (shared s) c (answer s c) (event s c) (shared (state_of (leaves s c)))
  called c = let q = call_is c in record { answer = q.answer; event = q.event; header = q.header; workers = q.workers; nodes = q.nodes; values = q.values }

module _ (r : Run) where
  abbrev lent : Tables
  lent = r.lent.tables

  abbrev kept : Left HandedBack
  kept = prepared r.limits r.lent.header lent

  ready : Ready r.limits kept (state r 0)
  ready = is_ready r.limits r.lent.header r.lent.workers lent r.fresh

  prepares_fresh : F.Fresh r.limits lent kept
  prepares_fresh = prepare_fresh r.limits r.lent.header lent ready.going

  passed : (limit_broken (fresh_header r.limits) ≡ false) × (is_short (fresh_header r.limits) (lengths lent) ≡ false)
  passed = asked r.limits r.lent.header lent ready.going

  enough_words : (nodes_of (fresh_header r.limits) * 3 ≤ length lent.nodes) × (r.limits.m ≤ length lent.buckets)
  enough_words = short r.limits r.lent.header lent passed.1

  pub first : First r.limits (shared (state r 0))
  first = let f = prepares_fresh in record {
    limits = (limits (fresh_header r.limits)).sound passed.0;
    header = ready.header;
    long = rw (ready.tables, f.nodes_length) enough_words.0;
    first_taken = rw ready.tables f.first_taken;
    node_words = rw ready.tables f.node_words;
    first_bucket = rw ready.tables f.first_bucket;
    bucket_words = rw ready.tables f.bucket_words;
    enough = ready.enough;
    rest = ready.rest;
  }

  pub whole : (i : ℕ) → Whole (state r i)
  whole zero = record { enough = rw ready.header ready.enough; room = rw (ready.header, ready.tables, prepares_fresh.buckets_length) enough_words.1 }
  whole (suc i) = next_whole (state r i) (whole i) (r.call i)

  -- the trace of a run: its states, calls, answers and events, and no pause
  abbrev pub trace_of : Trace
  trace_of = record {
    limits = r.limits;
    states = (shown r).states;
    call = r.call;
    answers = (shown r).answers;
    events = (shown r).events;
    first = first;
    next = λ i. calls (called (state r i) (whole i) (r.call i));
  }

  past_records : (v : ℕ) → r.limits.w ≤ v → get_or (state r 0).workers v idle ≡ get_or r.lent.workers v idle
  past_records v b = fresh.leaves r.limits r.lent.header r.lent.workers lent v b r.fresh

  pub unpaused : Unpaused trace_of
  unpaused i = (called (state r i) (whole i) (r.call i), refl)

  -- what any call answers
  answer_is : (i : ℕ) (c : Call) → would r i c ≡ T.answer (shared (state r i)) c
  answer_is i c = (called (state r i) (whole i) c).answer

-- ---- the statements
pub never_damaged : (r : Run) → NeverDamaged (would r)
never_damaged r i c = let q = t.never_damaged (trace_of r) i c in rw (answer_is r i c) q

pub dummies_suffice : (r : Run) → DummiesSuffice (would r)
dummies_suffice r i c = rw (answer_is r i c) (t.dummies_suffice (trace_of r) i c)

pub bits_agree : (r : Run) → BitsAgree (shown r)
bits_agree r = t.bits_agree (trace_of r)

pub ledger : (r : Run) → Ledger (shown r)
ledger r = t.ledger (trace_of r)

pub step_law : (r : Run) → StepLaw (shown r)
step_law r = t.step_law (trace_of r)

pub count : (r : Run) → Count (shown r)
count r = n.count (trace_of r)

pub one_place : (r : Run) → OnePlace (shown r)
one_place r = p.one_place (trace_of r)

pub of_an_operation : (r : Run) → OfAnOperation (shown r)
of_an_operation r = a.of_an_operation (trace_of r)

pub true_at_a_moment : (r : Run) → TrueAtAMoment (shown r)
true_at_a_moment r = a.true_at_a_moment (trace_of r)

pub own_event : (r : Run) → OwnEvent (shown r)
own_event r = a.own_event (trace_of r)

pub own_effect : (r : Run) → OwnEffect (shown r)
own_effect r = a.own_effect (trace_of r)

-- ---- words past the tables' own
-- the lent words past 3N and M are as they were
record Past (h : Header) (ts us : Tables) (n : ℕ) : Type 0 where
  nodes : nodes_of h * 3 ≤ n → get_or us.nodes n 0 ≡ get_or ts.nodes n 0
  buckets : h.m ≤ n → get_or us.buckets n 0 ≡ get_or ts.buckets n 0

call_past : (s : State) (c : Call) (n : ℕ) → Past s.header s.tables (leaves s c).tables n
unfolding one_call
call_past s (step w) n =
    both (λ (l : Left Outcome). Past s.header s.tables l.tables n) (ltb (length s.workers) s.header.w)
    (record { nodes = λ _. refl; buckets = λ _. refl })
    (let k = beyond_kept (turn_at s.header s.workers w) s.tables in record { nodes = k.nodes n; buckets = k.buckets n })
call_past s (start w kind key) n =
    both (λ (l : Left Outcome). Past s.header s.tables l.tables n) (ltb (length s.workers) s.header.w)
    (record { nodes = λ _. refl; buckets = λ _. refl }) (record { nodes = λ _. refl; buckets = λ _. refl })

-- preparing touches none of them
fresh_past : (l : Limits) (ts : Tables) (k : Left HandedBack) → F.Fresh l ts k → (h : Header) (us : Tables) → h ≡ fresh_header l → us ≡ k.tables → (n : ℕ) → Past h ts us n
fresh_past l ts k f h us eh et n = rw (eh, et) (record { nodes = f.past_nodes n; buckets = f.past_buckets n })

pub past_kept : PastKept
past_kept r zero n =
    let p = ready r in
    let q = fresh_past r.limits r.lent.tables (kept r) (prepares_fresh r) (state r 0).header (state r 0).tables p.header p.tables n in
    let e : (state r 0).header.w ≡ r.limits.w = ap (λ (h : Header). h.w) p.header in
    (q.nodes, q.buckets, λ b. past_records r n (omega arith))
past_kept r (suc i) n =
    let s = (t.made_at (trace_of r) i (t.good (trace_of r) i)).sizes in
    let c = call_past (state r i) (r.call i) n in
    let q = past_kept r i n in (
      λ b. let b' : nodes_of (state r i).header * 3 ≤ n = omega arith in c.nodes b' ∙ q.0 b',
      λ b. let b' : (state r i).header.m ≤ n = omega arith in c.buckets b' ∙ q.1 b',
      λ b. let b' : (state r i).header.w ≤ n = omega arith in p.call_record (trace_of r) i n b' ∙ q.2 b',
    )
