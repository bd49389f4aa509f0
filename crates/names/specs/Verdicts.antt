-- A call's refusals are a table of rows, in the scope paper's order.
use Rattle.std.specs.Prelude.{Bool, Result, Err}
use Rattle.choice.specs.Table.{Row}
use Rattle.names.specs.declared.Answer.{Answer}

-- whether a call is refused before any word is read: `Ok tt` where it passes, `Err a` where it is refused with a
abbrev pub Verdict : Type 0
Verdict = Result (Unit {0}) Answer

-- a row of refusals
abbrev pub refused_if : Answer → Bool → Row Verdict
refused_if a t = record { test = t; says = Err a }
