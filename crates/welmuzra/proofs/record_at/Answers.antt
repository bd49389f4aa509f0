-- The part that is read is the fifteen words of the record, which the table has.
use Rattle.std.proofs.Common.{◌+◌, ◌-◌, ◌*◌, ℕ, List, take, drop, ap, ◌∙◌, arith}
use borrow.Author.Tests.{le-ltb}
use Rattle.welmuzra.specs.Words.{RECORD, record_with}
use Rattle.welmuzra.proofs.Laws.{record_within}
use Rattle.welmuzra.proofs.record_at.Goals as goal

pub returns : goal.returns
returns c =
    let a = c.args in
    let n : ℕ = a.w * RECORD + RECORD - a.w * RECORD in
    let words : List ℕ = take n (drop (a.w * RECORD) a.records.now) in
    ap (λ (place : ℕ). record_with place words) c.place_of.ensures ∙ record_within n a.records.now a.w (omega arith) (le-ltb _ _ c.requires)
