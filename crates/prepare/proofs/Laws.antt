-- Limits that pass have numbers small enough to multiply.
-- Assumes nothing.
use Prim.Native.Nat.{◌*◌, ◌<◌}
use native.Mathlib.Omega.{arith}
use mathlib.Core.Path.{◌≡◌}
use Rattle.std.specs.Prelude.{Ok}
use Rattle.words.specs.declared.Lengths.{Lengths}
use Rattle.names.proofs.Verdicts.{passes}
use Rattle.header.specs.Header.{nodes_of}
use Rattle.header.proofs.Rows.{limits, limits_small}
use Rattle.prepare.specs.declared.Limits.{Limits}
use Rattle.prepare.specs.Prepare.{prepare_verdict, fresh_header}

pub prepare_small : (l : Limits) (lengths : Lengths) → prepare_verdict l lengths ≡ Ok tt → nodes_of (fresh_header l) * 3 < 4294967296
unfolding prepare_verdict
prepare_small l lengths e =
    omega (arith, limits_small (fresh_header l) ((limits (fresh_header l)).sound (passes _ _ _ e)))
