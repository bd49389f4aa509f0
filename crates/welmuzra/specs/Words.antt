-- The header and a worker's record as words, in the order in which the paper names their fields, and the record back in its place.
use Rattle.std.specs.Prelude.{ℕ, zero, suc, ◌+◌, ◌*◌, Bool, List, [], ◌∷◌, ltb, eqb, length, get_or, set, take, drop, replicate}
use Rattle.choice.specs.Choice.{pick}
use Rattle.names.specs.Names.{D6}
use Rattle.header.specs.declared.Header.{Header}
use Rattle.record.specs.declared.Worker.{Worker}

-- ---- the header is seven words
abbrev pub header_of : List ℕ → Header
header_of hs =
    record { m = get_or hs 0 0; k = get_or hs 1 0; w = get_or hs 2 0; l = get_or hs 3 0; size = get_or hs 4 0; count = get_or hs 5 0; busy = get_or hs 6 0 }

abbrev pub header_words : Header → List ℕ
header_words h = h.m ∷ h.k ∷ h.w ∷ h.l ∷ h.size ∷ h.count ∷ h.busy ∷ []

-- ---- a record is fifteen words
abbrev pub RECORD : ℕ
RECORD = 15

-- the word of its mark
abbrev pub MARK : ℕ
MARK = 11

-- the mark is 0 or 1; a word that is neither makes no record, and then the place is an unknown one
unfoldable pub place_read : ℕ → ℕ → ℕ
place_read mark place = pick (ltb 1 mark) (D6 + 1) place

abbrev pub mark_word : Bool → ℕ
mark_word marked = pick marked 1 0

abbrev pub record_with : ℕ → List ℕ → Worker
record_with place ws =
    record {
      place = place;
      errand = get_or ws 1 0;
      kind = get_or ws 2 0;
      key = get_or ws 3 0;
      wanted = get_or ws 4 0;
      making = get_or ws 5 0;
      size = get_or ws 6 0;
      start = get_or ws 7 0;
      prev = get_or ws 8 0;
      cur = get_or ws 9 0;
      next = get_or ws 10 0;
      marked = eqb (get_or ws MARK 0) 1;
      held = get_or ws 12 0;
      dummy = get_or ws 13 0;
      steps = get_or ws 14 0;
    }

abbrev pub record_of : List ℕ → Worker
record_of ws = record_with (place_read (get_or ws MARK 0) (get_or ws 0 0)) ws

abbrev pub record_words : Worker → List ℕ
record_words x =
    x.place ∷ x.errand ∷ x.kind ∷ x.key ∷ x.wanted ∷ x.making ∷ x.size ∷ x.start ∷ x.prev ∷ x.cur ∷ x.next ∷ mark_word x.marked ∷ x.held ∷ x.dummy ∷ x.steps ∷ []

-- ---- the records side by side
-- the table has not all the words of record w
abbrev pub lacks : List ℕ → ℕ → Bool
lacks rs w = ltb (length rs) (w * RECORD + RECORD)

-- the words of an idle record
abbrev pub zeros : List ℕ
zeros = replicate RECORD 0

-- the words of record w; past the table they are 0, and there w is W or above
unfoldable pub words_at : List ℕ → ℕ → List ℕ
words_at rs w = pick (lacks rs w) zeros (take RECORD (drop (w * RECORD) rs))

-- the table once the first n of the words stand in it from `at` on
unfoldable pub words_put : ℕ → List ℕ → ℕ → List ℕ → List ℕ
words_put zero ws at rs = rs
words_put (suc n) ws at rs = set (words_put n ws at rs) (at + n) (get_or ws n 0)

-- the table with the words of record w; past the table there is nothing to store
unfoldable pub record_put : List ℕ → ℕ → List ℕ → List ℕ
record_put rs w ws = pick (lacks rs w) rs (words_put RECORD ws (w * RECORD) rs)
