-- The place that laying returns counts bytes of the buffer; where the text fits, they are the text.
-- Assumes nothing.
use Prim.Native.Nat.{ℕ, ◌≤◌}
use mathlib.Core.Path.{◌≡◌, sym, ap, ◌∙◌}
use mathlib.Core.List.{List}
use native.Mathlib.Omega.{arith}
use lib.ListN.{length, take}
use lib.Seq.{length-take-le}
use Rattle.io.specs.Counts.{IsPrefixLen}
use Rattle.text.specs.Text.{Laid}
use Rattle.text.proofs.Laying.{laid_length, laid_take}

module _ {out : List ℕ} {at : ℕ} {text exit : List ℕ} {place : ℕ} where
  -- the place is never past the buffer
  within_exit : Laid out at text exit place → place ≤ length exit
  within_exit h = omega (arith, h.next, ap length h.buffer ∙ laid_length out at text)

  pub laid_counts : Laid out at text exit place → IsPrefixLen place exit
  laid_counts h = (within_exit h, sym (length-take-le place exit (within_exit h)))

-- a text that fits is what stands at the buffer's start, and the place is where it ends
pub laid_all : {out text exit : List ℕ} {place : ℕ} → Laid out 0 text exit place → length text ≤ length out → take place exit ≡ text
laid_all {out} {text} {exit} {place} h fits =
    let e : place ≡ length text = omega (arith, h.next) in
    rw (e, h.buffer) (laid_take out 0 text (omega arith))
