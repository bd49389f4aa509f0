-- What a table of refusals says of its first row.
-- Assumes nothing.
use mathlib.Core.Path.{◌≡◌, refl}
use mathlib.Core.Bool.{Bool, true, false}
use Rattle.std.specs.Prelude.{Ok, Err}
use Rattle.choice.specs.Choice.{pick}
use Rattle.choice.proofs.Auto.{pick_true}
use Rattle.names.specs.declared.Answer.{Answer}
use Rattle.names.specs.Verdicts.{Verdict}

-- a table that passes passes its first row
pub passes : (a : Answer) (t : Bool) (later : Verdict) → pick t (Err a) later ≡ Ok tt → t ≡ false
passes a true later e = cc (pick_true true (Err a) later refl)
passes a false later e = refl
