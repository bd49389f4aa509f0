-- The decision at a place that is known.
-- Assumes nothing.
use Rattle.std.proofs.Common.{◌≡◌, ℕ, sym, ap}
use Rattle.moves.specs.declared.Seen.{Seen}
use Rattle.moves.specs.Moves.{decided, decided_at}

pub here : (s : Seen) (k : ℕ) → s.worker.place ≡ k → decided_at k s ≡ decided s
unfolding decided
here s k e = ap (λ (p : ℕ). decided_at p s) (sym e)
