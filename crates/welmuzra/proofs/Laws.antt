-- What the code of a call over words needs: the record that the table has, the worker that there is not, and a turn more of the loop that stores a record.
-- Assumes nothing.
use Prim.Native.Nat.{ℕ, ◌+◌, ◌*◌, ◌≤◌}
use mathlib.Core.Path.{◌≡◌, refl, sym, ap, ◌∙◌}
use mathlib.Core.Bool.{Bool, true, false, true≢false}
use mathlib.Core.List.{List}
use native.Mathlib.Numerals.{add-one}
use lib.ListN.{length, get_or, set, take, drop}
use borrow.Author.Tests.{le-leb}
use Rattle.choice.proofs.Auto.{pick_true, pick_false}
use Rattle.choice.proofs.Cases.{both}
use Rattle.names.specs.Names.{refuses}
use Rattle.names.specs.declared.Answer.{Answer}
use Rattle.header.specs.Header.{limit_broken, missing}
use Rattle.header.specs.declared.Header.{Header}
use Rattle.header.proofs.Rows.{limits}
use Rattle.prepare.specs.declared.Limits.{Limits}
use Rattle.names.specs.Verdicts.{Verdict}
use Rattle.prepare.specs.Prepare.{fresh_header, prepare_verdict, prepared_by, prepared}
use Rattle.words.specs.Words.{Tables, lengths, Left, left}
use Rattle.acts.specs.declared.Outcome.{Outcome}
use Rattle.register.specs.declared.Call.{Call}
use Rattle.register.specs.declared.Turn.{Turn}
use Rattle.register.specs.Step.{refused_with}
use Rattle.register.specs.Calls.{asked_of}
use Rattle.register.proofs.Laws.{past_asked}
use Rattle.crew.specs.Crew.{one_call}
use Rattle.welmuzra.specs.Calls.{Replied, replied, says, turn_in, lacks_records, kept, call_words}
use Rattle.welmuzra.specs.Words.{RECORD, header_of, record_of, lacks, words_at, words_put}

-- record w of a table that has it is the one that its fifteen words are
pub record_within : (n : ℕ) (rs : List ℕ) (w : ℕ) → n ≡ RECORD → lacks rs w ≡ false → record_of (take n (drop (w * RECORD) rs)) ≡ record_of (words_at rs w)
unfolding words_at
record_within n rs w whole e = ap (λ (n : ℕ). record_of (take n (drop (w * RECORD) rs))) whole ∙ ap record_of (sym (pick_false _ _ _ e))

-- ---- a worker that there is not
module _ (hs rs : List ℕ) (w : ℕ) (c : Call) (ts : Tables) where
  abbrev few : Bool
  few = lacks_records (length rs) (header_of hs).w

  abbrev t : Turn
  t = turn_in hs rs w

  missing_refuses : (b : Bool) → refuses (missing (header_of hs) b (lengths ts)) ≡ true
  unfolding missing
  missing_refuses b = both (λ (a : Answer). refuses a ≡ true) _ refl (both (λ (a : Answer). refuses a ≡ true) _ refl refl)

  -- refused, the words are as they came
  none : (b : Bool) → one_call t few c ts ≡ left (refused_with (missing (header_of hs) b (lengths ts)) t) ts
      → left (replied (says (missing (header_of hs) b (lengths ts)) 0) hs rs) ts ≡ call_words hs rs w c ts
  unfolding kept
  none b e = ap (λ (o : Replied). left o ts) (sym (pick_true _ _ _ (missing_refuses b))) ∙ ap (λ (l : Left Outcome). left (kept hs rs w l.out) l.tables) (sym e)

  pub too_few : few ≡ true → left (replied (says (missing (header_of hs) true (lengths ts)) 0) hs rs) ts ≡ call_words hs rs w c ts
  unfolding one_call
  too_few e = none true (pick_true _ _ _ e ∙ ap (λ (b : Bool). left (refused_with (missing (header_of hs) b (lengths ts)) t) ts) e)

  -- where there are enough records, the register's replied call
  pub there_is : few ≡ false → one_call t few c ts ≡ asked_of t c ts
  unfolding one_call
  there_is e = pick_false _ _ _ e

  pub no_worker : few ≡ false → (header_of hs).w ≤ w → left (replied (says (missing (header_of hs) false (lengths ts)) 0) hs rs) ts ≡ call_words hs rs w c ts
  no_worker e l = none false (there_is e ∙ past_asked t c ts (le-leb (header_of hs).w w l))

-- ---- a record is stored word by word
pub laid_suc : (n : ℕ) (ws : List ℕ) (at : ℕ) (rs : List ℕ) → words_put (n + 1) ws at rs ≡ set (words_put n ws at rs) (at + n) (get_or ws n 0)
unfolding words_put
laid_suc n ws at rs = rw (add-one n)

-- a register that is prepared has at most 16 workers
pub prepared_small : (l : Limits) (h : Header) (ts : Tables) → refuses (prepared l h ts).out.answer ≡ false → l.w ≤ 16
unfolding prepared prepare_verdict
prepared_small l h ts = by (limit_broken (fresh_header l)) refl
  where
    by : (t : Bool) → limit_broken (fresh_header l) ≡ t → refuses (prepared l h ts).out.answer ≡ false → l.w ≤ 16
    by true e r = absurd (true≢false (sym (ap (λ (v : Verdict). refuses (prepared_by l h ts v).out.answer) (pick_true _ _ _ e)) ∙ r))
    by false e r = ((limits (fresh_header l)).sound e).workers.1
