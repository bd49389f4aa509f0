-- An exponent outside 1 to 10 gives a limit that preparing refuses.
-- Assumes nothing.
use Prim.Native.Nat.{ℕ, ◌^◌}
use mathlib.Core.Bool.{true}
use mathlib.Core.Path.{◌≡◌}
use mathlib.Core.List.{List}
use lib.Dec.{ltb}
use lib.ListN.{length, get_or, replicate}
use Rattle.std.specs.Prelude.{Err}
use Rattle.names.specs.Verdicts.{Verdict}
use Rattle.choice.proofs.Auto.{pick_true}
use Rattle.choice.proofs.Cases.{both}
use Rattle.names.specs.declared.Answer.TheVariants.{Limit, Short}
use Rattle.header.specs.declared.Header.{Header}
use Rattle.header.specs.Header.{outside, limit_broken}
use Rattle.tree.specs.Tree.{power_up_to}
use Rattle.record.specs.declared.Worker.{Worker}
use Rattle.record.specs.Worker.{idle}
use Rattle.prepare.specs.declared.Limits.{Limits}
use Rattle.prepare.specs.Prepare.{fresh_header, prepare_verdict, too_few_for, prepared}
use Rattle.words.specs.Words.{Tables, Left}
use Rattle.crew.specs.Crew.{Ready, prepare_one, prepare_at}
use Rattle.replay.specs.Play.{MOST_WORKERS, buckets_of, limits_of, blank, opened}

-- it gives 0 buckets, which breaks a limit, whatever K, W and L are
limits_broken : (body : List ℕ) → outside 1 10 (get_or body 0 0) ≡ true → limit_broken (fresh_header (limits_of body)) ≡ true
unfolding buckets_of limit_broken power_up_to
limits_broken body o = rw (pick_true (outside 1 10 (get_or body 0 0)) 0 (2 ^ get_or body 0 0) o)

-- a broken limit is refused with 10 by the register, and where there are too few records
limit_refused : (l : Limits) (h : Header) (ts : Tables) → limit_broken (fresh_header l) ≡ true → (prepared l h ts).out.answer ≡ Limit
unfolding prepared prepare_verdict
limit_refused l h ts e = rw (pick_true {A = Verdict} (limit_broken (fresh_header l)) (Err Limit) _ e)

refused_at : (l : Limits) (h : Header) (ws : List Worker) (ts : Tables) → limit_broken (fresh_header l) ≡ true → (prepare_at l h ws ts).out.called.answer ≡ Limit
unfolding prepare_one too_few_for
refused_at l h ws ts e = both (λ (p : Left Ready). p.out.called.answer ≡ Limit) (ltb (length ws) l.w) (pick_true (limit_broken (fresh_header l)) Limit Short e) (limit_refused l h ts e)

-- "an exponent outside 1 to 10 is refused with 10"
pub exponent_refused : (body : List ℕ) (ts : Tables) → outside 1 10 (get_or body 0 0) ≡ true → (opened body ts).out.called.answer ≡ Limit
unfolding opened
exponent_refused body ts o = refused_at (limits_of body) blank (replicate MOST_WORKERS idle) ts (limits_broken body o)
