-- A read into the part of a buffer after its front: the front and what was read stand one after the other.
-- Assumes nothing.
use Rattle.std.proofs.Common.{◌≡◌, ℕ, ◌+◌, ◌-◌, ◌≤◌, List, ◌++◌, arith, length, take, drop, slice_range, sym, ap, ◌∙◌, le_refl, drop_at, length-take-le}
use Rattle.std.proofs.lemmas.Slice.{take-put_mid_below}
use borrow.Rule.Slice.PartMut.{put_mid, post_of}
use lib.Seq.{take-add, take-append-le}

-- the part's first n bytes stand from its place on
range_placed : (a k n : ℕ) (xs ys : List ℕ) → a ≤ length xs → n ≤ length ys → slice_range (put_mid a k xs ys) a (a + n) ≡ take n ys
range_placed a k n xs ys within fits =
    let same : (a + n) - a ≡ n = omega arith in
    let after = post_of a k xs in
    ap (take ((a + n) - a)) (drop_at (take a xs) (ys ++ after) a (length-take-le a xs within)) ∙ ap (λ m. take m (ys ++ after)) same ∙ take-append-le n ys after fits

pub front_placed : (a k n : ℕ) (xs ys : List ℕ) → a ≤ length xs → n ≤ length ys → take a xs ++ take n ys ≡ take (a + n) (put_mid a k xs ys)
front_placed a k n xs ys within fits =
    let new = put_mid a k xs ys in
    let same : (a + n) - a ≡ n = omega arith in
    let part = range_placed a k n xs ys within fits in
    let front : take a new ≡ take a xs = take-put_mid_below _ _ _ _ _ (le_refl _) within in
    ap (λ l. take a xs ++ l) (sym part) ∙ ap (λ l. l ++ slice_range new a (a + n)) (sym front) ∙ ap (λ m. take a new ++ take m (drop a new)) same ∙ sym (take-add a n new)
