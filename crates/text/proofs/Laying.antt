-- A text is laid byte by byte, so laying two texts one right after the other lays them joined, and copying what fits lays the text; past the buffer's end nothing is stored.
-- Assumes nothing.
use Prim.Native.Nat.{ℕ, zero, suc, ◌-◌, ◌+◌, ◌≤◌, ◌<◌, min}
use mathlib.Core.Path.{◌≡◌, refl, sym, ◌∙◌}
use mathlib.Core.List.{List, [], ◌∷◌, ◌++◌, append_assoc}
use native.Mathlib.Omega.{arith}
use lib.ListN.{length, set, take, drop, length-append, length-set, take-append-drop}
use lib.Seq.{set_out, length-sets, sets-eq, take_at, drop_at, take-nil, length-take-le, drop-drop}
use Rattle.choice.proofs.Cases.{by_lt}
use Rattle.text.specs.declared.Page.{Page}
use Rattle.text.specs.Text.{laid, after, written}

-- the buffer keeps its length
pub laid_length : (out : List ℕ) (at : ℕ) (text : List ℕ) → length (laid out at text) ≡ length out
unfolding laid
laid_length out at text = length-sets out at text

-- past the buffer's end nothing is stored
pub laid_past : (out : List ℕ) (at : ℕ) (text : List ℕ) → length out ≤ at → laid out at text ≡ out
unfolding laid
laid_past out at [] h = refl
laid_past out at (b ∷ text) h = rw (set_out out at b h) (laid_past out (suc at) text (omega arith))

-- two texts, the second where the first ends
laid_join : (out : List ℕ) (at : ℕ) (s t : List ℕ) → laid out at (s ++ t) ≡ laid (laid out at s) (at + length s) t
unfolding laid
laid_join out at [] t = let e : at + 0 ≡ at = omega arith in rw e
laid_join out at (b ∷ s) t = let e : at + suc (length s) ≡ suc at + length s = omega arith in rw e (laid_join (set out at b) (suc at) s t)

-- the same where the second is laid at the place that the first returned
pub laid_laid : (out : List ℕ) (at : ℕ) (s t : List ℕ) → laid (laid out at s) (after out at s) t ≡ laid out at (s ++ t)
laid_laid out at s t =
    by_lt (λ (_ : ℕ). laid (laid out at s) (after out at s) t ≡ laid out at (s ++ t)) (length out) (at + length s) {a = 0} {b = 0}
    (λ h. let e : after out at s ≡ length out = omega arith in
    rw (e, laid_join out at s t) (laid_past (laid out at s) (length out) t (omega (arith, laid_length out at s)) ∙ sym (laid_past (laid out at s) (at + length s) t (omega (arith, laid_length out at s)))))
    (λ h. let e : after out at s ≡ at + length s = omega arith in rw e (sym (laid_join out at s t)))

-- where a text fits: what stands before it, the text, and what stands behind it
laid_whole : (out : List ℕ) (at : ℕ) (text : List ℕ) → at + length text ≤ length out → laid out at text ≡ take at out ++ (text ++ drop (at + length text) out)
unfolding laid
laid_whole out at text h = sets-eq text out at h ∙ append_assoc (take at out) text (drop (at + length text) out)

-- the stretch at its place is the text
pub laid_take : (out : List ℕ) (at : ℕ) (text : List ℕ) → at + length text ≤ length out → take (length text) (drop at (laid out at text)) ≡ text
laid_take out at text h =
    rw (laid_whole out at text h, drop_at (take at out) (text ++ drop (at + length text) out) at (length-take-le at out (omega arith)))
    (take_at text (drop (at + length text) out) (length text) refl)

-- of a text, only what stands before the buffer's end is stored
laid_cut : (out : List ℕ) (at : ℕ) (text : List ℕ) (k : ℕ) → k ≡ min (length text) (length out - at) → laid out at text ≡ laid out at (take k text)
unfolding laid
laid_cut out at [] k h = rw take-nil
laid_cut out at (b ∷ text) zero h = laid_past out at (b ∷ text) (omega arith)
laid_cut out at (b ∷ text) (suc k) h = laid_cut (set out at b) (suc at) text k (omega (arith, length-set out at b))

-- what a copy of as much as fits leaves: what stands before it, the copy, and what stands behind it
pub laid_stored : (out : List ℕ) (at start end : ℕ) (text : List ℕ) → start ≡ min at (length out) → end ≡ min (start + length text) (length out)
    → take start out ++ (take (end - start) text ++ drop (end - start) (drop start out)) ≡ laid out at text
laid_stored out at start end text s e = by_lt (λ (_ : ℕ). stored ≡ laid out at text) (length out) at {a = 0} {b = 0} past inside
  where
    stored : List ℕ
    stored = take start out ++ (take (end - start) text ++ drop (end - start) (drop start out))

    past : length out < at → stored ≡ laid out at text
    past h = let n : end - start ≡ 0 = omega arith in rw (n, take-append-drop start out) (sym (laid_past out at text (omega arith)))

    inside : at ≤ length out → stored ≡ laid out at text
    inside h =
        let f : start ≡ at = omega arith in
        let n : length (take (end - at) text) ≡ end - at = length-take-le (end - at) text (omega arith) in
        rw (f, laid_cut out at text (end - at) (omega arith), laid_whole out at (take (end - at) text) (omega arith), n, drop-drop)

-- two texts laid on a page, one after the other, are their joining laid
pub written_on : (page : Page) (s t : List ℕ) → written (written page s) t ≡ written page (s ++ t)
unfolding written
written_on page s t =
    let out = page.buffer.now in
    let end : after (laid out page.end s) (after out page.end s) t ≡ after out page.end (s ++ t) = omega (arith, length-append s t, laid_length out page.end s) in
    rw (laid_laid out page.end s t, end)
