-- Where the records are fewer than W the call asks its first row and then answers 11; where they are not, it is the register's own call.
-- Assumes nothing.
use Prim.Native.Nat.{ℕ}
use mathlib.Core.Bool.{Bool, true, false, true≢false}
use mathlib.Core.List.{List}
use mathlib.Core.Logic.{◌⊎◌, inl, inr, ⊎_elim}
use mathlib.Core.Path.{◌≡◌, refl, sym, ap, ◌∙◌}
use lib.Dec.{ltb}
use lib.ListN.{length, set}
use lib.Seq.{set-get_or}
use Rattle.choice.specs.Choice.{pick}
use Rattle.choice.specs.Table.{Claims, row}
use Rattle.choice.proofs.Auto.{pick_false}
use Rattle.choice.proofs.Cases.{both}
use Rattle.choice.proofs.Exactly.{Tells, fails, Gives, here, later, refused_exactly, gives_row}
use Rattle.choice.proofs.Telling.{tells_lt}
use Rattle.words.specs.declared.Lengths.{Lengths}
use Rattle.words.specs.Words.{Tables, lengths, Left, left}
use Rattle.names.specs.Names.{goes_on}
use Rattle.names.specs.declared.Answer.{Answer}
use Rattle.names.specs.declared.Answer.TheVariants.{Short, Damaged}
use Rattle.names.proofs.Classes.{refused_stops}
use Rattle.header.specs.declared.Header.{Header}
use Rattle.header.specs.Header.{header_damaged, missing}
use Rattle.header.proofs.Rows.{limit_broken_lem, header_damaged_lem}
use Rattle.record.specs.declared.Worker.{Worker}
use Rattle.record.specs.Worker.{idle}
use Rattle.acts.specs.declared.Outcome.{Outcome}
use Rattle.prepare.specs.Prepare.{fresh_header, too_few_for, prepared}
use Rattle.register.specs.declared.Call.{Call}
use Rattle.register.specs.declared.Call.TheVariants.{Start, Step}
use Rattle.register.specs.declared.Turn.{Turn}
use Rattle.register.specs.Calls.{asked_of}
use Rattle.crew.specs.Crew.{Ready, crew, turn_at, one_call, stored, call_at, filled, prepare_one}
use Rattle.crew.proofs.Laws.{filled_none}
use Rattle.promises.specs.Unchanged.{Refusal, Untouched}
use Rattle.promises.specs.Tables.{AllAsBefore, UnchangedIn, PrepareAtExactly, StartAtExactly, StepAtExactly, PrepareAtUnchanged, StartAtUnchanged, StepAtUnchanged}
use Rattle.promises.proofs.Refusals.{Allowed, prepare_gives, start_gives, step_gives}
use Rattle.promises.proofs.Unchanged.{step_unchanged, start_unchanged, prepare_unchanged}

-- 11 claims more than it did: where that holds only the row before 11 comes first, and elsewhere nothing is new
also :
    {B : Type 0} (answer : B → Answer) {Before Claim More : Type 0} {a b : Answer} {rest : Claims Answer} {before more : Bool} {l m : B}
    → Tells before Before → Tells more More → (more ≡ true → answer l ≡ pick before a b) → Gives Allowed (answer m) (row Before a (row Claim b rest))
    → Gives Allowed (answer (pick more l m)) (row Before a (row (Claim ⊎ More) b rest))
unfolding pick
also answer {more = true} tells few e g = rw (e refl) (gives_row (λ (z : Answer). z) tells refl (λ _. here (inr (few.sound refl)) refl))
also answer {more = false} tells few e (here c q) = here c q
also answer {more = false} tells few e (later n (here c q)) = later n (here (inl c) q)
also answer {more = false} tells few e (later n (later k g)) = later n (later (⊎_elim k (fails few refl)) g)

-- where there are too few records, 12 or 11
few_missing : (h : Header) (lengths : Lengths) (few : Bool) → few ≡ true → missing h few lengths ≡ pick (header_damaged h) Damaged Short
unfolding missing pick
few_missing h lengths few e = rw e

abbrev answer_of : Left Outcome → Answer
answer_of l = l.out.called.answer

pub prepare_at_exactly : PrepareAtExactly
unfolding prepare_one too_few_for
prepare_at_exactly l h ws ts a r =
    refused_exactly a (also (λ (p : Left Ready). p.out.called.answer) (limit_broken_lem (fresh_header l)) (tells_lt _ _) (λ _. refl) (prepare_gives l h ts)) (λ f. true≢false (sym r ∙ f))

pub start_at_exactly : StartAtExactly
unfolding one_call
start_at_exactly h ws w kind key ts a r =
    refused_exactly a (also answer_of (header_damaged_lem h) (tells_lt _ _) (few_missing h (lengths ts) _) (start_gives (turn_at h ws w) kind key (lengths ts))) (λ f. true≢false (sym r ∙ f))

pub step_at_exactly : StepAtExactly
unfolding one_call
step_at_exactly h ws w ts a r =
    refused_exactly a (also answer_of (header_damaged_lem h) (tells_lt _ _) (few_missing h (lengths ts) _) (step_gives (turn_at h ws w) ts)) (λ f. true≢false (sym r ∙ f))

-- ---- a refusal changes nothing
module _ (h : Header) (ws : List Worker) (w : ℕ) (ts : Tables) where
  abbrev t : Turn
  t = turn_at h ws w

  -- the record that is stored back is the one that was taken out
  stored_unchanged : (l : Left Outcome) → Untouched t ts l → AllAsBefore h ws ts (stored ws w l)
  stored_unchanged l u =
      record {
        header = u.back.header;
        steps = u.back.steps;
        workers = ap (set ws w) u.back.worker ∙ set-get_or ws w idle;
        tables = u.tables;
      }

  -- what the register's own call keeps, the call over the table keeps
  call_unchanged : (c : Call) → (Refusal (asked_of t c ts).out.called.answer → Untouched t ts (asked_of t c ts)) → UnchangedIn h ws ts (call_at h ws w c ts)
  unfolding one_call
  call_unchanged c on =
      both (λ (l : Left Outcome). UnchangedIn h ws ts (stored ws w l)) (ltb (length ws) h.w)
      (λ _. stored_unchanged _ (record { tables = refl; back = record { header = refl; worker = refl; steps = refl } }))
      (λ r. stored_unchanged _ (on r))

pub start_at_unchanged : StartAtUnchanged
start_at_unchanged h ws w kind key ts =
    call_unchanged h ws w ts (Start kind key) (λ r. record { tables = refl; back = start_unchanged (turn_at h ws w) kind key (lengths ts) r })

pub step_at_unchanged : StepAtUnchanged
step_at_unchanged h ws w ts = call_unchanged h ws w ts Step (step_unchanged (turn_at h ws w) ts)

pub prepare_at_unchanged : PrepareAtUnchanged
unfolding prepare_one
prepare_at_unchanged l h ws ts =
    both (λ (p : Left Ready). UnchangedIn h ws ts (left (crew p.out.called (filled p.out.count p.out.worker ws)) p.tables)) (ltb (length ws) l.w)
    (λ r. record { header = refl; steps = refl; workers = none (too_few_for l) r; tables = refl })
    (λ r. let u = prepare_unchanged l h ts r in record { header = u.header; steps = u.steps; workers = none (prepared l h ts).out.answer r; tables = u.tables })
  where
    none : (a : Answer) → Refusal a → filled (pick (goes_on a) l.w 0) idle ws ≡ ws
    none a r = ap (λ (n : ℕ). filled n idle ws) (pick_false (goes_on a) l.w 0 (refused_stops a r)) ∙ filled_none idle ws
