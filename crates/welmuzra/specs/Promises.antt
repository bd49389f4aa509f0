-- What follows for the calls over words: nothing is lost on the way to words and back, a refusal changes no word, words that are no record are damaged, and over the words of records the calls are those of the lent table of records.
use Rattle.std.specs.Prelude.{ℕ, ◌*◌, ◌+◌, ◌≤◌, ◌<◌, true, false, List, [], ◌∷◌, ◌++◌, ◌≡◌, length, get_or}
use Rattle.words.specs.Words.{Tables, lengths, Left, left}
use Rattle.names.specs.Names.{number_of, refuses}
use Rattle.names.specs.declared.Answer.{Answer}
use Rattle.names.specs.declared.Answer.TheVariants.{Damaged}
use Rattle.header.specs.declared.Header.{Header}
use Rattle.header.specs.Header.{header_damaged}
use Rattle.record.specs.declared.Worker.{Worker}
use Rattle.prepare.specs.declared.Limits.{Limits}
use Rattle.header.specs.Header.{is_short}
use Rattle.register.specs.declared.Call.{Call}
use Rattle.register.specs.declared.Call.TheVariants.{Start, Step}
use Rattle.crew.specs.Crew.{Crew, call_at, prepare_at}
use Rattle.welmuzra.specs.declared.Reply.{Reply}
use Rattle.welmuzra.specs.Words.{RECORD, MARK, header_of, header_words, record_of, record_words}
use Rattle.welmuzra.specs.Calls.{Replied, replied, says, reply_of, call_words, prepare_words}

-- ---- there and back
-- a header and a record are what their words are
abbrev pub HeaderBack : Type 0
HeaderBack = (h : Header) → header_of (header_words h) ≡ h

abbrev pub RecordBack : Type 0
RecordBack = (x : Worker) → record_of (record_words x) ≡ x

-- any fifteen words whose mark is 0 or 1 are the words of the record that they are
abbrev pub fifteen : ℕ → ℕ → ℕ → ℕ → ℕ → ℕ → ℕ → ℕ → ℕ → ℕ → ℕ → ℕ → ℕ → ℕ → ℕ → List ℕ
fifteen place errand kind key wanted making size start prev cur next mark held dummy steps =
    place ∷ errand ∷ kind ∷ key ∷ wanted ∷ making ∷ size ∷ start ∷ prev ∷ cur ∷ next ∷ mark ∷ held ∷ dummy ∷ steps ∷ []

abbrev pub WordsBack : Type 0
WordsBack =
    (place errand kind key wanted making size start prev cur next mark held dummy steps : ℕ) → mark ≤ 1
    → let ws = fifteen place errand kind key wanted making size start prev cur next mark held dummy steps in
    record_words (record_of ws) ≡ ws

-- ---- "all the others from 10 on change no word": the number is that of an answer that refuses
pub record Refused (r : Reply) : Type 0 where
  pub of : Answer
  pub refusal : refuses of ≡ true
  pub number : r.answer ≡ number_of of

abbrev pub CallWordsUnchanged : Type 0
CallWordsUnchanged =
    (hs rs : List ℕ) (w : ℕ) (c : Call) (ts : Tables) → Refused (call_words hs rs w c ts).out.reply
    → call_words hs rs w c ts ≡ left (replied (call_words hs rs w c ts).out.reply hs rs) ts

abbrev pub PrepareWordsUnchanged : Type 0
PrepareWordsUnchanged =
    (l : Limits) (hs rs : List ℕ) (ts : Tables) → Refused (prepare_words l hs rs ts).out.reply
    → prepare_words l hs rs ts ≡ left (replied (prepare_words l hs rs ts).out.reply hs rs) ts

-- ---- a start writes neither nodes nor buckets
abbrev pub StartWritesNeither : Type 0
StartWritesNeither = (hs rs : List ℕ) (w kind key : ℕ) (ts : Tables) → (call_words hs rs w (Start kind key) ts).tables ≡ ts

-- ---- a mark that is neither 0 nor 1 makes no record: where header, lengths and worker's number pass, a step is 12
abbrev pub NoRecord : Type 0
NoRecord =
    (hs rs : List ℕ) (w : ℕ) (ts : Tables) → header_damaged (header_of hs) ≡ false → (header_of hs).w * RECORD ≤ length rs
    → is_short (header_of hs) (lengths ts) ≡ false → w < (header_of hs).w → 1 < get_or rs (w * RECORD + MARK) 0
    → call_words hs rs w Step ts ≡ left (replied (says Damaged 0) hs rs) ts

-- ---- over the words of records
-- the words of the records, side by side
abbrev pub packed : List Worker → List ℕ
packed [] = []
packed (x ∷ xs) = record_words x ++ packed xs

-- the words of what a call over the lent table of records leaves
abbrev pub words_of : Left Crew → Left Replied
words_of l = left (replied (reply_of l.out.called) (header_words l.out.called.header) (packed l.out.workers)) l.tables

abbrev pub CallAsRecords : Type 0
CallAsRecords = (h : Header) (ws : List Worker) (w : ℕ) (c : Call) (ts : Tables) → call_words (header_words h) (packed ws) w c ts ≡ words_of (call_at h ws w c ts)

abbrev pub PrepareAsRecords : Type 0
PrepareAsRecords = (l : Limits) (h : Header) (ws : List Worker) (ts : Tables) → prepare_words l (header_words h) (packed ws) ts ≡ words_of (prepare_at l h ws ts)
