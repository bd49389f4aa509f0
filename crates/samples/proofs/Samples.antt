-- Each sample is a closed run, so the definitions compute it.
-- Assumes nothing.
use mathlib.Core.Path.{refl}
use Rattle.samples.specs.Samples.{Samples}
use Rattle.samples.proofs.Computing.{computed}

pub samples : Samples
unfolding computed
samples = record {
  f4_fails_lem = record { prepared = refl; turned = (refl, refl); printed_lines = refl; ended = refl };
  l2_fails_lem = record { prepared = refl; turned = (refl, refl); printed_lines = refl; ended = refl };
  d4a_fails_lem = record { prepared = refl; turned = (refl, refl); printed_lines = refl; ended = refl };
  d4b_fails_lem = record { prepared = refl; turned = ((refl, refl), refl); printed_lines = refl; ended = refl };
  below_zero_lem = record { prepared = refl; turned = (refl, refl); printed_lines = refl; ended = refl };
  old_size_lem = record { prepared = refl; turned = (refl, refl, refl, refl); printed_lines = refl; ended = refl };
}
