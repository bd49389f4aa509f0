-- A refusal comes from the table of refusals or from a damaged word, and there the call hands back what it was handed.
-- Assumes nothing.
use Prim.Native.Nat.{ℕ}
use mathlib.Core.Bool.{true≢false, false≢true}
use mathlib.Core.Path.{refl, sym, ◌∙◌}
use Rattle.std.specs.Prelude.{Ok, Err}
use Rattle.words.specs.Words.{Tables, lengths}
use Rattle.header.specs.declared.Header.{Header}
use Rattle.acts.specs.declared.Move.{Move}
use Rattle.acts.specs.declared.Move.TheVariants.{Damaged, Going, Ended}
use Rattle.moves.specs.Moves.{decided}
use Rattle.prepare.specs.declared.Limits.{Limits}
use Rattle.register.specs.declared.Turn.{Turn}
use Rattle.names.specs.Verdicts.{Verdict}
use Rattle.register.specs.Step.{word_for, split_for, seen_by, carried}
use Rattle.prepare.specs.Prepare.{prepared_by, prepare_verdict, prepared}
use Rattle.register.specs.Calls.{started_by, start_verdict, start_of}
use Rattle.promises.specs.Unchanged.{Refusal, HandedBack, Untouched, AsBefore, StepUnchanged, StartUnchanged, PrepareUnchanged}
use Rattle.promises.proofs.InRange.{by_verdict}
use Rattle.promises.proofs.Shape.{Final, effect_at}

-- a decision that refuses is a damaged one
carried_unchanged :
    (t : Turn) (ts : Tables) (m : Move) → Final m → Refusal (carried t m ts).out.called.answer → Untouched t ts (carried t m ts)
carried_unchanged t ts Damaged f r = record { tables = refl; back = record { header = refl; worker = refl; steps = refl } }
carried_unchanged t ts (Going x e) f r = absurd (false≢true r)
carried_unchanged t ts (Ended a e) f r = absurd (true≢false (sym r ∙ f))

pub step_unchanged : StepUnchanged
step_unchanged t ts =
    by_verdict t ts (λ l. Refusal l.out.called.answer → Untouched t ts l)
    (λ a r. record { tables = refl; back = record { header = refl; worker = refl; steps = refl } })
    (λ _. carried_unchanged t ts (decided (seen_by t ts)) (effect_at t (word_for t ts) (split_for t ts.nodes)).final)

started_unchanged : (t : Turn) (kind key : ℕ) (v : Verdict) → Refusal (started_by t kind key v).called.answer → HandedBack t (started_by t kind key v)
started_unchanged t kind key (Err a) r = record { header = refl; worker = refl; steps = refl }
started_unchanged t kind key (Ok _) r = absurd (false≢true r)

pub start_unchanged : StartUnchanged
unfolding start_of
start_unchanged t kind key lengths r = started_unchanged t kind key (start_verdict t kind key lengths) r

prepared_unchanged :
    (l : Limits) (h : Header) (ts : Tables) (v : Verdict) → Refusal (prepared_by l h ts v).out.answer
    → AsBefore h ts (prepared_by l h ts v)
prepared_unchanged l h ts (Err a) r = record { tables = refl; header = refl; steps = refl }
prepared_unchanged l h ts (Ok _) r = absurd (false≢true r)

pub prepare_unchanged : PrepareUnchanged
unfolding prepared
prepare_unchanged l h ts r = prepared_unchanged l h ts (prepare_verdict l (lengths ts)) r
