-- The words of records side by side: record w begins at word 15 w, so reading and storing it there is reading and storing it in the list of records.
-- Assumes nothing.
use Prim.Native.Nat.{ℕ, zero, suc, ◌+◌, ◌*◌, ◌≤◌, ◌<◌}
use native.Mathlib.Omega.{arith}
use native.Mathlib.Nat.{zero-add, suc-add, add-zero, add-suc, add_assoc}
use mathlib.Core.Path.{◌≡◌, refl, sym, ap, ◌∙◌}
use mathlib.Core.Bool.{Bool, true, false}
use mathlib.Core.List.{List, [], ◌∷◌, ◌++◌}
use lib.Dec.{ltb, eqb}
use lib.ListN.{length, get_or, set, take, drop, get_or-replicate, get_or-eq_default}
use lib.Seq.{drop-append-add, take_at, set_out}
use borrow.Author.Tests.{lt-ltb, le-ltb, ltb-true, ltb-false}
use Rattle.choice.specs.Choice.{pick}
use Rattle.choice.proofs.Auto.{pick_true, pick_false}
use Rattle.record.specs.declared.Worker.{Worker}
use Rattle.record.specs.Worker.{idle}
use Rattle.scans.specs.Scans.{cleared}
use Rattle.scans.proofs.Laws.{cleared_none}
use Rattle.words.specs.Words.{store}
use Rattle.crew.specs.Crew.{filled}
use Rattle.crew.proofs.Laws.{filled_length}
use Rattle.welmuzra.specs.Words.{RECORD, zeros, place_read, mark_word, record_words, lacks, words_put, words_at, record_put}
use Rattle.welmuzra.specs.Promises.{HeaderBack, RecordBack, WordsBack, packed}

pub header_back : HeaderBack
header_back h = refl

-- the word of a mark is 0 or 1, so the place stays
place_back : (b : Bool) (p : ℕ) → place_read (mark_word b) p ≡ p
unfolding place_read pick
place_back true p = refl
place_back false p = refl

mark_back : (b : Bool) → eqb (mark_word b) 1 ≡ b
unfolding pick
mark_back true = refl
mark_back false = refl

pub record_back : RecordBack
record_back x = rw (place_back x.marked x.place, mark_back x.marked)

-- a mark word that is 0 or 1 is the word of its bit
mark_word_back : (m : ℕ) → m ≤ 1 → mark_word (eqb m 1) ≡ m
unfolding pick
mark_word_back zero h = refl
mark_word_back (suc zero) h = refl
mark_word_back (suc (suc m)) h = absurd (omega arith)

place_kept : (m p : ℕ) → m ≤ 1 → place_read m p ≡ p
unfolding place_read
place_kept m p h = pick_false _ _ _ (le-ltb 1 m h)

pub words_back : WordsBack
words_back place errand kind key wanted making size start prev cur next mark held dummy steps small = rw (place_kept mark place small, mark_word_back mark small)

pub packed_length : (ws : List Worker) → length (packed ws) ≡ length ws * RECORD
packed_length [] = refl
packed_length (x ∷ xs) = omega (arith, packed_length xs)

-- a place past the first words of a table is a place of the rest
set_append_add : (xs ys : List ℕ) (n v : ℕ) → set (xs ++ ys) (length xs + n) v ≡ xs ++ set ys n v
set_append_add [] ys n v = rw (zero-add n)
set_append_add (x ∷ xs) ys n v = rw (suc-add (length xs) n) (ap (λ (l : List ℕ). x ∷ l) (set_append_add xs ys n v))

laid_past : (n : ℕ) (ws : List ℕ) (at : ℕ) (xs rs : List ℕ) → words_put n ws (length xs + at) (xs ++ rs) ≡ xs ++ words_put n ws at rs
unfolding words_put
laid_past zero ws at xs rs = refl
laid_past (suc n) ws at xs rs = rw (laid_past n ws at xs rs, add_assoc (length xs) at n) (set_append_add xs (words_put n ws at rs) (at + n) (get_or ws n 0))

one_more : (w : ℕ) → suc w * RECORD ≡ RECORD + w * RECORD
one_more w = omega arith

-- storing the first record's words
laid_first : (x y : Worker) (rs : List ℕ) → words_put RECORD (record_words x) 0 (record_words y ++ rs) ≡ record_words x ++ rs
unfolding words_put
laid_first x y rs = refl

-- the words of record w of the packed records
taken_packed : (ws : List Worker) (w : ℕ) → w < length ws → take RECORD (drop (w * RECORD) (packed ws)) ≡ record_words (get_or ws w idle)
taken_packed [] w h = absurd (omega arith)
taken_packed (x ∷ xs) zero h = take_at (record_words x) (packed xs) RECORD refl
taken_packed (x ∷ xs) (suc w) h =
    ap (λ (at : ℕ). take RECORD (drop at (packed (x ∷ xs)))) (one_more w) ∙ ap (take RECORD) (drop-append-add (record_words x) (packed xs) (w * RECORD)) ∙
    taken_packed xs w (omega arith)

laid_packed : (ws : List Worker) (w : ℕ) (x : Worker) → w < length ws → words_put RECORD (record_words x) (w * RECORD) (packed ws) ≡ packed (set ws w x)
laid_packed [] w x h = absurd (omega arith)
laid_packed (y ∷ ys) zero x h = laid_first x y (packed ys)
laid_packed (y ∷ ys) (suc w) x h =
    ap (λ (at : ℕ). words_put RECORD (record_words x) at (packed (y ∷ ys))) (one_more w) ∙ laid_past RECORD (record_words x) (w * RECORD) (record_words y) (packed ys) ∙
    ap (λ (l : List ℕ). record_words y ++ l) (laid_packed ys w x (omega arith))

-- the packed records have all the words of record w exactly where there is a record w
lacks_packed : (ws : List Worker) (w : ℕ) → w < length ws → lacks (packed ws) w ≡ false
lacks_packed ws w h = le-ltb (length (packed ws)) (w * RECORD + RECORD) (omega (arith, packed_length ws))

lacks_past : (ws : List Worker) (w : ℕ) → length ws ≤ w → lacks (packed ws) w ≡ true
lacks_past ws w h = lt-ltb (length (packed ws)) (w * RECORD + RECORD) (omega (arith, packed_length ws))

zeros_idle : zeros ≡ record_words idle
unfolding pick
zeros_idle = refl

pub words_packed : (ws : List Worker) (w : ℕ) → words_at (packed ws) w ≡ record_words (get_or ws w idle)
unfolding words_at
words_packed ws w = by (ltb w (length ws)) refl
  where
    by : (t : Bool) → ltb w (length ws) ≡ t → pick (lacks (packed ws) w) zeros (take RECORD (drop (w * RECORD) (packed ws))) ≡ record_words (get_or ws w idle)
    by true e = let h = ltb-true w (length ws) e in pick_false _ _ _ (lacks_packed ws w h) ∙ taken_packed ws w h
    by false e =
        let h = ltb-false w (length ws) e in
        pick_true _ _ _ (lacks_past ws w h) ∙ zeros_idle ∙ ap record_words (sym (get_or-eq_default ws idle h))

pub stored_packed : (ws : List Worker) (w : ℕ) (x : Worker) → record_put (packed ws) w (record_words x) ≡ packed (set ws w x)
unfolding record_put
stored_packed ws w x = by (ltb w (length ws)) refl
  where
    by : (t : Bool) → ltb w (length ws) ≡ t → pick (lacks (packed ws) w) (packed ws) (words_put RECORD (record_words x) (w * RECORD) (packed ws)) ≡ packed (set ws w x)
    by true e = let h = ltb-true w (length ws) e in pick_false _ _ _ (lacks_packed ws w h) ∙ laid_packed ws w x h
    by false e = let h = ltb-false w (length ws) e in pick_true _ _ _ (lacks_past ws w h) ∙ ap packed (sym (set_out ws w x h))

-- there are fewer records than W exactly where there are fewer than 15 W words
pub few_packed : (ws : List Worker) (w : ℕ) → ltb (length (packed ws)) (w * RECORD) ≡ ltb (length ws) w
few_packed ws w = by (ltb (length ws) w) refl
  where
    by : (t : Bool) → ltb (length ws) w ≡ t → ltb (length (packed ws)) (w * RECORD) ≡ ltb (length ws) w
    by true e = lt-ltb (length (packed ws)) (w * RECORD) (omega (arith, packed_length ws, ltb-true (length ws) w e)) ∙ sym e
    by false e = le-ltb (length (packed ws)) (w * RECORD) (omega (arith, packed_length ws, ltb-false (length ws) w e)) ∙ sym e

cleared_one : (k : ℕ) (rs : List ℕ) → cleared (suc k) rs ≡ set (cleared k rs) k 0
unfolding cleared store
cleared_one k rs = refl

-- words more that are 0 are words of an idle record
cleared_laid : (n at : ℕ) (rs : List ℕ) → n ≤ RECORD → cleared (at + n) rs ≡ words_put n zeros at (cleared at rs)
unfolding words_put
cleared_laid zero at rs h = rw (add-zero at)
cleared_laid (suc n) at rs h =
    ap (λ (k : ℕ). cleared k rs) (add-suc at n) ∙ cleared_one (at + n) rs ∙
    rw (cleared_laid n at rs (omega arith), get_or-replicate {A = ℕ} RECORD n 0 0 (omega arith))

pub cleared_packed : (n : ℕ) (ws : List Worker) → n ≤ length ws → cleared (n * RECORD) (packed ws) ≡ packed (filled n idle ws)
unfolding filled
cleared_packed zero ws h = cleared_none (packed ws)
cleared_packed (suc n) ws h =
    ap (λ (k : ℕ). cleared k (packed ws)) (next n) ∙ cleared_laid RECORD (n * RECORD) (packed ws) (omega arith) ∙
    rw (cleared_packed n ws (omega arith), zeros_idle)
    (laid_packed (filled n idle ws) n idle (omega (arith, filled_length n idle ws)))
  where
    next : (n : ℕ) → suc n * RECORD ≡ n * RECORD + RECORD
    next n = omega arith
