-- Over the words of records each test is the one over the records, and what is record_put are the words of what is record_put there.
-- Assumes nothing.
use Prim.Native.Nat.{ℕ, ◌≤◌}
use mathlib.Core.Path.{◌≡◌, refl, sym, ap, ◌∙◌}
use mathlib.Core.Bool.{Bool, true, false}
use mathlib.Core.List.{List}
use lib.Dec.{ltb}
use lib.ListN.{length, get_or, set}
use lib.Seq.{set-get_or}
use borrow.Author.Tests.{ltb-false}
use Rattle.std.specs.Prelude.{Ok, Err}
use Rattle.choice.specs.Choice.{pick}
use Rattle.choice.proofs.Auto.{pick_false}
use Rattle.choice.proofs.Cases.{by_bool}
use Rattle.names.specs.Names.{refuses, goes_on}
use Rattle.header.specs.Header.{limit_broken}
use Rattle.header.specs.declared.Header.{Header}
use Rattle.record.specs.declared.Worker.{Worker}
use Rattle.record.specs.Worker.{idle}
use Rattle.prepare.specs.declared.Limits.{Limits}
use Rattle.words.specs.Words.{Tables, lengths, Left, left}
use Rattle.acts.specs.declared.Called.{Called}
use Rattle.acts.specs.declared.Outcome.{Outcome}
use Rattle.acts.specs.Acts.{answered}
use Rattle.names.specs.declared.Answer.TheVariants.{Limit, Short}
use Rattle.names.specs.Verdicts.{Verdict}
use Rattle.prepare.specs.Prepare.{fresh_header, prepare_verdict, too_few_for, prepared_by, prepared}
use Rattle.header.specs.Header.{is_short}
use Rattle.promises.specs.Unchanged as un
use Rattle.crew.specs.Crew.{Ready, turn_at, one_call, filled, wants, prepare_one, made}
use Rattle.crew.proofs.Laws.{none_for}
use Rattle.welmuzra.specs.Words.{header_words, record_of, words_at}
use Rattle.welmuzra.specs.Calls.{Replied, replied, says, reply_of, kept, readied, prepare_words}
use Rattle.welmuzra.specs.Promises.{packed, words_of, CallAsRecords, PrepareAsRecords}
use Rattle.welmuzra.proofs.Promises.{call_unchanged}
use Rattle.welmuzra.proofs.Packed.{record_back, words_packed, stored_packed, few_packed, cleared_packed}

-- a choice between what is made of two things is what is made of the choice
chosen : {A B : Type 0} (f : A → B) (t : Bool) (x y : B) (a b : A) → x ≡ f a → (t ≡ false → y ≡ f b) → pick t x y ≡ f (pick t a b)
unfolding pick
chosen f true x y a b p q = p
chosen f false x y a b p q = q refl

-- record w of the packed records
taken : (ws : List Worker) (w : ℕ) → record_of (words_at (packed ws) w) ≡ get_or ws w idle
taken ws w = ap record_of (words_packed ws w) ∙ record_back (get_or ws w idle)

-- what a start or a step hands back, record_put in the words and in the records
kept_packed :
    (h : Header) (ws : List Worker) (w : ℕ) (o : Outcome) → (un.Refusal o.called.answer → un.HandedBack (turn_at h ws w) o)
    → kept (header_words h) (packed ws) w o ≡ replied (reply_of o.called) (header_words o.called.header) (packed (set ws w o.worker))
unfolding kept
kept_packed h ws w o back =
    by_bool (λ (k : Replied). k ≡ replied (reply_of o.called) (header_words o.called.header) (packed (set ws w o.worker))) (refuses o.called.answer)
    (λ e. let b = back e in rw (b.header, b.worker, set-get_or ws w idle))
    (λ _. ap (replied (reply_of o.called) (header_words o.called.header)) (stored_packed ws w o.worker))

-- a call in the words and in the records
pub call_as_records : CallAsRecords
call_as_records h ws w c ts =
    let l = one_call (turn_at h ws w) (ltb (length ws) h.w) c ts in
    rw (few_packed ws h.w, taken ws w)
    (ap (λ (o : Replied). left o l.tables) (kept_packed h ws w l.out (λ r. (call_unchanged (turn_at h ws w) (ltb (length ws) h.w) c ts r).back)))

-- what preparing hands back, in the words and in the records
abbrev Readied : Limits → Header → List Worker → Left Called → Type 0
Readied l h ws k = left (readied l.w (header_words h) (packed ws) k.out) k.tables ≡ words_of (made ws (left (wants l.w k.out) k.tables))

-- each way of a preparing by itself: refused with 10, refused with 11, or done
limits_packed : (l : Limits) (h : Header) (ws : List Worker) (ts : Tables) → Readied l h ws (prepared_by l h ts (Err Limit))
unfolding readied filled pick
limits_packed l h ws ts = refl

short_packed : (l : Limits) (h : Header) (ws : List Worker) (ts : Tables) → Readied l h ws (prepared_by l h ts (Err Short))
unfolding readied filled pick
short_packed l h ws ts = refl

done_packed : (l : Limits) (h : Header) (ws : List Worker) (ts : Tables) → l.w ≤ length ws → Readied l h ws (prepared_by l h ts (Ok tt))
unfolding readied pick
done_packed l h ws ts enough = rw (cleared_packed l.w ws enough)

-- preparing is refused with 10 or 11, or done
readied_packed : (l : Limits) (h : Header) (ws : List Worker) (ts : Tables) → l.w ≤ length ws → Readied l h ws (prepared l h ts)
unfolding prepared prepare_verdict
readied_packed l h ws ts enough =
    let P : Verdict → Type 0 = λ v. Readied l h ws (prepared_by l h ts v) in
    by_bool P (limit_broken (fresh_header l)) (λ _. limits_packed l h ws ts)
    (λ _. by_bool P (is_short (fresh_header l) (lengths ts)) (λ _. short_packed l h ws ts) (λ _. done_packed l h ws ts enough))

pub prepare_as_records : PrepareAsRecords
unfolding prepare_words prepare_one filled
prepare_as_records l h ws ts =
    rw (few_packed ws l.w)
    (chosen (λ (k : Left Ready). words_of (made ws k)) (ltb (length ws) l.w) _ _ _ _ none (λ e. readied_packed l h ws ts (ltb-false (length ws) l.w e)))
  where
    none : left (replied (says (too_few_for l) 0) (header_words h) (packed ws)) ts ≡ words_of (made ws (left (wants l.w (answered (too_few_for l) h)) ts))
    none = ap (λ (n : ℕ). left (replied (says (too_few_for l) 0) (header_words h) (packed (filled n idle ws))) ts) (sym (pick_false (goes_on (too_few_for l)) l.w 0 (none_for l)))
