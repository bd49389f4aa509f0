-- A call over words goes by the same tests as the register's replied call; what that call hands back where it refuses is what it was handed.
-- Assumes nothing.
use Prim.Native.Nat.{ℕ, ◌*◌, ◌+◌, ◌≤◌, ◌<◌}
use native.Mathlib.Omega.{arith}
use mathlib.Core.Path.{◌≡◌, refl, sym, ap, ◌∙◌}
use mathlib.Core.Bool.{Bool, true}
use mathlib.Core.List.{List}
use lib.ListN.{length, get_or, take, drop}
use lib.Seq.{get_or-take, get_or-drop}
use borrow.Author.Tests.{lt-leb, lt-ltb, le-ltb}
use Rattle.choice.proofs.Auto.{pick_true, pick_false}
use Rattle.choice.proofs.Cases.{by_bool, both}
use Rattle.names.specs.Names.{D6, refuses}
use Rattle.names.proofs.Classes.{one_number}
use Rattle.names.specs.declared.Answer.{Answer}
use Rattle.names.specs.declared.Answer.TheVariants.{Damaged}
use Rattle.header.specs.declared.Header.{Header}
use Rattle.record.specs.declared.Worker.{Worker}
use Rattle.faults.specs.Faults.{unknown_name, worker_damaged}
use Rattle.words.specs.Words.{Tables, lengths, Left, left}
use Rattle.acts.specs.declared.Called.{Called}
use Rattle.acts.specs.declared.Outcome.{Outcome}
use Rattle.names.specs.Verdicts.{Verdict}
use Rattle.register.specs.Step.{refused_with}
use Rattle.prepare.specs.Prepare.{prepared}
use Rattle.register.specs.declared.Call.{Call}
use Rattle.register.specs.declared.Call.TheVariants.{Start, Step}
use Rattle.register.specs.declared.Turn.{Turn}
use Rattle.register.specs.Calls.{step_verdict, stepped_by, step_of, asked_of}
use Rattle.promises.specs.Unchanged as un
use Rattle.promises.proofs.Unchanged.{start_unchanged, step_unchanged, prepare_unchanged}
use Rattle.crew.specs.Crew.{one_call}
use Rattle.crew.specs.One.{turn}
use Rattle.welmuzra.specs.Words.{RECORD, MARK, zeros, header_of, place_read, record_of, lacks, words_at}
use Rattle.welmuzra.specs.Calls.{Replied, replied, says, reply_of, kept, turn_in, lacks_records, readied, prepare_words}
use Rattle.welmuzra.specs.Promises.{Refused, CallWordsUnchanged, StartWritesNeither, PrepareWordsUnchanged, NoRecord}

-- a number is one answer's alone
refusal : (a : Answer) (steps : ℕ) → Refused (says a steps) → un.Refusal a
refusal a steps r = ap refuses (one_number a r.of r.number) ∙ r.refusal

-- header and records are as they came where the answer refuses
kept_answer : (hs rs : List ℕ) (w : ℕ) (o : Outcome) → (kept hs rs w o).reply ≡ says o.called.answer o.called.steps
unfolding kept
kept_answer hs rs w o = by_bool (λ (k : Replied). k.reply ≡ says o.called.answer o.called.steps) (refuses o.called.answer) (λ _. refl) (λ _. refl)

kept_refused : (hs rs : List ℕ) (w : ℕ) (o : Outcome) → un.Refusal o.called.answer → kept hs rs w o ≡ replied (says o.called.answer o.called.steps) hs rs
unfolding kept
kept_refused hs rs w o r = pick_true _ _ _ r

-- the call with the record in hand, where it is refused
pub asked_unchanged : (t : Turn) (c : Call) (ts : Tables) → un.Refusal (asked_of t c ts).out.called.answer → un.Untouched t ts (asked_of t c ts)
asked_unchanged t (Start kind key) ts r = record { tables = refl; back = start_unchanged t kind key (lengths ts) r }
asked_unchanged t Step ts r = step_unchanged t ts r

pub call_unchanged : (t : Turn) (few : Bool) (c : Call) (ts : Tables) → un.Refusal (one_call t few c ts).out.called.answer → un.Untouched t ts (one_call t few c ts)
unfolding one_call
call_unchanged t few c ts =
    both (λ (l : Left Outcome). un.Refusal l.out.called.answer → un.Untouched t ts l) few
    (λ _. record { tables = refl; back = record { header = refl; worker = refl; steps = refl } }) (asked_unchanged t c ts)

pub call_words_unchanged : CallWordsUnchanged
call_words_unchanged hs rs w c ts r =
    let t = turn_in hs rs w in
    let few = lacks_records (length rs) (header_of hs).w in
    let o = (one_call t few c ts).out in
    let f = refusal o.called.answer o.called.steps (rw (kept_answer hs rs w o) at r) in
    let u = call_unchanged t few c ts f in
    let e = kept_refused hs rs w o f in
    rw u.tables (ap (λ (k : Replied). left k ts) (e ∙ ap (λ (k : Replied). replied k.reply hs rs) (sym e)))

pub start_writes_neither : StartWritesNeither
unfolding one_call
start_writes_neither hs rs w kind key ts = both (λ (l : Left Outcome). l.tables ≡ ts) (lacks_records (length rs) (header_of hs).w) refl refl

readied_answer : (w : ℕ) (hs rs : List ℕ) (c : Called) → (readied w hs rs c).reply ≡ reply_of c
unfolding readied
readied_answer w hs rs c = by_bool (λ (k : Replied). k.reply ≡ reply_of c) (refuses c.answer) (λ _. refl) (λ _. refl)

readied_refused : (w : ℕ) (hs rs : List ℕ) (c : Called) → un.Refusal c.answer → readied w hs rs c ≡ replied (reply_of c) hs rs
unfolding readied
readied_refused w hs rs c r = pick_true _ _ _ r

pub prepare_words_unchanged : PrepareWordsUnchanged
unfolding prepare_words
prepare_words_unchanged l hs rs ts =
    by_bool (λ (k : Left Replied). Refused k.out.reply → k ≡ left (replied k.out.reply hs rs) ts) (lacks_records (length rs) l.w)
    (λ _ r. refl)
    (λ _ r.
    let c = (prepared l (header_of hs) ts).out in
    let f = refusal c.answer c.steps (rw (readied_answer l.w hs rs c) at r) in
    let u = prepare_unchanged l (header_of hs) ts f in
    let e = readied_refused l.w hs rs c f in
    rw u.tables (ap (λ (k : Replied). left k ts) (e ∙ ap (λ (k : Replied). replied k.reply hs rs) (sym e))))

-- ---- words that are no record
unknown_place : (h : Header) (w : ℕ) (x : Worker) → D6 < x.place → worker_damaged h w x ≡ true
unfolding worker_damaged unknown_name
unknown_place h w x u = rw (lt-ltb D6 x.place u)

mark_read : (rs : List ℕ) (at : ℕ) → get_or (take RECORD (drop at rs)) MARK 0 ≡ get_or rs (at + MARK) 0
mark_read rs at = get_or-take RECORD (drop at rs) MARK 0 (omega arith) ∙ get_or-drop at rs MARK 0

no_place : (rs : List ℕ) (w : ℕ) → w * RECORD + RECORD ≤ length rs → 1 < get_or rs (w * RECORD + MARK) 0 → (record_of (words_at rs w)).place ≡ D6 + 1
unfolding words_at place_read
no_place rs w all bad =
    rw (pick_false (lacks rs w) zeros (take RECORD (drop (w * RECORD) rs)) (le-ltb _ _ all), mark_read rs (w * RECORD))
    (pick_true _ _ _ (lt-ltb _ _ bad))

pub no_record : NoRecord
unfolding one_call step_of step_verdict
no_record hs rs w ts sound enough long is-worker bad =
    let h = header_of hs in
    let x = record_of (words_at rs w) in
    let d : worker_damaged h w x ≡ true = unknown_place h w x (rw (no_place rs w (omega arith) bad) (omega arith)) in
    let v = pick_false _ _ _ sound ∙ pick_false _ _ _ long ∙ pick_false _ _ _ (lt-leb h.w w is-worker) ∙ pick_true _ _ _ d in
    ap (λ (l : Left Outcome). left (kept hs rs w l.out) l.tables)
    (pick_false _ _ _ (le-ltb (length rs) (h.w * RECORD) enough) ∙ ap (λ (v : Verdict). stepped_by (turn h w x) ts v) v) ∙
    ap (λ (k : Replied). left k ts) (kept_refused hs rs w (refused_with Damaged (turn h w x)) refl)
