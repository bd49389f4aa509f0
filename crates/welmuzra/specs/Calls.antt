-- The calls over words: the register's replied call on the header and the record that the words are, and the words of what it hands back.
use Rattle.std.specs.Prelude.{ℕ, ◌*◌, Bool, List, ltb, length}
use Rattle.choice.specs.Choice.{pick}
use Rattle.words.specs.Words.{Tables, Left, left}
use Rattle.scans.specs.Scans.{cleared}
use Rattle.names.specs.Names.{number_of, refuses}
use Rattle.names.specs.declared.Answer.{Answer}
use Rattle.acts.specs.declared.Called.{Called}
use Rattle.acts.specs.declared.Outcome.{Outcome}
use Rattle.prepare.specs.declared.Limits.{Limits}
use Rattle.prepare.specs.Prepare.{too_few_for, prepared}
use Rattle.register.specs.declared.Call.{Call}
use Rattle.register.specs.declared.Turn.{Turn}
use Rattle.crew.specs.Crew.{one_call}
use Rattle.crew.specs.One.{turn}
use Rattle.welmuzra.specs.declared.Reply.{Reply}
use Rattle.welmuzra.specs.Words.{RECORD, header_of, header_words, record_of, record_words, words_at, record_put}

-- what a call answers, and the words of header and records that it leaves
pub record Replied : Type 0 where
  pub reply : Reply
  pub header : List ℕ
  pub records : List ℕ

abbrev pub replied : Reply → List ℕ → List ℕ → Replied
replied r hs rs = record { reply = r; header = hs; records = rs }

-- the paper's number of an answer, with so many steps
abbrev pub says : Answer → ℕ → Reply
says a steps = record { answer = number_of a; steps = steps }

abbrev pub reply_of : Called → Reply
reply_of c = says c.answer c.steps

-- ---- one worker's call
-- header and record w are record_put; refused, the words are as they came
unfoldable pub kept : List ℕ → List ℕ → ℕ → Outcome → Replied
kept hs rs w o =
    pick (refuses o.called.answer) (replied (reply_of o.called) hs rs)
    (replied (reply_of o.called) (header_words o.called.header) (record_put rs w (record_words o.worker)))

-- what worker w's call goes by: the header and its record
abbrev pub turn_in : List ℕ → List ℕ → ℕ → Turn
turn_in hs rs w = turn (header_of hs) w (record_of (words_at rs w))

-- so many words are fewer than W records
abbrev pub lacks_records : ℕ → ℕ → Bool
lacks_records len w = ltb len (w * RECORD)

-- worker w is called
abbrev pub call_words : List ℕ → List ℕ → ℕ → Call → Tables → Left Replied
call_words hs rs w c ts =
    let l = one_call (turn_in hs rs w) (lacks_records (length rs) (header_of hs).w) c ts in
    left (kept hs rs w l.out) l.tables

-- ---- preparing
abbrev pub limits : ℕ → ℕ → ℕ → ℕ → Limits
limits m k w l = record { m = m; k = k; w = w; l = l }

-- the header is record_put and the words of W records are 0; refused, the words are as they came
unfoldable pub readied : ℕ → List ℕ → List ℕ → Called → Replied
readied w hs rs c = pick (refuses c.answer) (replied (reply_of c) hs rs) (replied (reply_of c) (header_words c.header) (cleared (w * RECORD) rs))

-- a register is prepared; fewer than W records: 10, then 11
unfoldable pub prepare_words : Limits → List ℕ → List ℕ → Tables → Left Replied
prepare_words l hs rs ts =
    let p = prepared l (header_of hs) ts in
    pick (lacks_records (length rs) l.w) (left (replied (says (too_few_for l) 0) hs rs) ts) (left (readied l.w hs rs p.out) p.tables)
