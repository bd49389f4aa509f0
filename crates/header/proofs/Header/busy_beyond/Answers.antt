-- A number that reaches 2 ^ W leaves something when it is divided by that, and a word is below 2 ^ 32.
use Rattle.std.proofs.Common.{◌≡◌, ℕ, ◌/◌, ◌^◌, ◌<◌, ◌≤◌, nat_lt, nat_le, false, one-mul, arith, pow_mono, pow_pos}
use Rattle.std.proofs.lemmas.Grind.{common_steps}
use Rattle.std.proofs.lemmas.Bool.Decides.{nat_tests}
use Rattle.std.proofs.Math.Nat.{div-lt_iff_lt-mul}
use Rattle.header.specs.Header.{busy_beyond}
use Rattle.header.proofs.Header.busy_beyond.Goals as goal

reaches : (w x : ℕ) → nat_lt 0 (x / 2 ^ w) ≡ nat_le (2 ^ w) x
reaches w x =
    let d = div-lt_iff_lt-mul {k = 2 ^ w} {x = x} {y = 1} (pow_pos w) in
    grind (arith, nat_tests, one-mul (2 ^ w), d.0, d.1)

far : (w x : ℕ) → 32 ≤ w → x < 2 ^ 32 → nat_le (2 ^ w) x ≡ false
far w x l u = let p = pow_mono {i = 32} {j = w} l in grind (arith, nat_tests)

pub returns : goal.returns
unfolding busy_beyond
returns c = let h = c.args.self in grind (arith, common_steps, reaches h.w h.busy, far h.w h.busy)
