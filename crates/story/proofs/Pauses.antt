-- Pauses may stand anywhere: whichever steps of a busy worker are chosen to count and do nothing else, what is left is a trace. So no statement over a
-- trace speaks of traces without pauses alone.
-- Assumes nothing.
use mathlib.Core.Path.{◌≡◌, refl, sym}
use mathlib.Core.Bool.{Bool, true, false, true≢false, not, ◌&&◌}
use Prim.Native.Nat.{ℕ, zero, suc}
use lib.Dec.{eqb, ltb}
use lib.ListN.{set}
use borrow.Author.Tests.{ltb-true, eqb-false, not-true}
use Rattle.choice.specs.Choice.{pick}
use Rattle.choice.proofs.Cases.{by_bool}
use Rattle.names.specs.Names.{IDLE}
use Rattle.names.specs.declared.Answer.{Answer}
use Rattle.names.specs.declared.Answer.TheVariants.{Going}
use Rattle.register.specs.Events.{Event, nothing}
use Rattle.record.specs.Worker.{ticked}
use Rattle.story.specs.Shared.{Call, start, step, Shared, worker_of}
use Rattle.story.specs.Trace.{done, Next, calls, pause, Trace}
use Rattle.story.specs.Run.{Run, state, shared}
use Rattle.story.proofs.Ends.{valued, keeps_valued}
use Rattle.story.proofs.Calls.{laid}
use Rattle.story.proofs.Runs.{first}

record Gone : Type 0 where
  answer : Answer
  event : Event
  then : Shared

abbrev called : Shared → Call → Gone
called s c = record { answer = (done s c).answer; event = (done s c).event; then = laid (done s c) (valued (done s c).stores s.value) }

abbrev counted : Shared → ℕ → Gone
counted s w = record {
  answer = Going;
  event = nothing;
  then = record { header = s.header; workers = set s.workers w (ticked (worker_of s w)); nodes = s.nodes; value = s.value };
}

-- the worker is there, and has an operation
abbrev busy : Shared → ℕ → Bool
busy s w = ltb w s.header.w && not (eqb (worker_of s w).place IDLE)

-- a call, which pauses where that is chosen and can be
abbrev gone : Shared → Call → Bool → Gone
gone s (start w kind key) p = called s (start w kind key)
gone s (step w) p = pick (p && busy s w) (counted s w) (called s (step w))

and_true : (a b : Bool) → (a && b) ≡ true → (a ≡ true) × (b ≡ true)
and_true true b e = (refl, e)
and_true false b e = absurd (true≢false (sym e))

as_called : (s : Shared) (c : Call) → Next s c (called s c).answer (called s c).event (called s c).then
as_called s c = calls (record { answer = refl; event = refl; header = refl; workers = refl; nodes = refl; values = keeps_valued s.header.m (done s c).stores s.value })

next_is : (s : Shared) (c : Call) (p : Bool) → Next s c (gone s c p).answer (gone s c p).event (gone s c p).then
next_is s (start w kind key) p = as_called s (start w kind key)
next_is s (step w) p = by_bool (λ (g : Gone). Next s (step w) g.answer g.event g.then) (p && busy s w) waits (λ _. as_called s (step w))
  where
    waits : (p && busy s w) ≡ true → Next s (step w) Going nothing (counted s w).then
    waits e =
        let q = and_true (ltb w s.header.w) (not (eqb (worker_of s w).place IDLE)) (and_true p (busy s w) e).1 in
        pause (record {
          who = w;
          call = refl;
          real = ltb-true w s.header.w q.0;
          busy = eqb-false (worker_of s w).place IDLE (not-true (eqb (worker_of s w).place IDLE) q.1);
          answer = refl;
          event = refl;
          header = refl;
          workers = refl;
          nodes = refl;
          values = λ i l. refl;
        })

module _ (r : Run) (p : ℕ → Bool) where
  states : ℕ → Shared
  states zero = shared (state r 0)
  states (suc i) = (gone (states i) (r.call i) (p i)).then

  -- a run's calls over what its preparing left, with pauses where they are chosen
  pub pausing : Trace
  unfolding states
  pausing = record {
    limits = r.limits;
    states = states;
    call = r.call;
    answers = λ i. (gone (states i) (r.call i) (p i)).answer;
    events = λ i. (gone (states i) (r.call i) (p i)).event;
    first = first r;
    next = λ i. next_is (states i) (r.call i) (p i);
  }
