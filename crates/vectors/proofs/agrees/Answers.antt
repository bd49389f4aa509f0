-- A buffer is as long as it was made, and what is read or laid ends within it.
use Rattle.std.proofs.Common.{ℕ, sym}
use Rattle.std.proofs.lemmas.List.{length-replicate}
use Rattle.replay.proofs.Whole.{laid_counts}
use Rattle.vectors.proofs.agrees.Goals as goal

pub slice_bounds-run-end-2 : goal.slice_bounds-run-end-2
slice_bounds-run-end-2 c = sym (length-replicate {A = ℕ} 589824 0)

pub slice_bounds-read_case-end-4 : goal.slice_bounds-read_case-end-4
slice_bounds-read_case-end-4 c = sym (length-replicate {A = ℕ} 589824 0)

pub slice_bounds-printed-end : goal.slice_bounds-printed-end
slice_bounds-printed-end c = (laid_counts c.run-end.ensures).0

pub slice_bounds-eq-end : goal.slice_bounds-eq-end
slice_bounds-eq-end c = (laid_counts c.run-end.ensures).1

pub slice_bounds-text-end : goal.slice_bounds-text-end
slice_bounds-text-end c = c.read_case-length.ensures.0

pub slice_bounds-eq-end-2 : goal.slice_bounds-eq-end-2
slice_bounds-eq-end-2 c = c.read_case-length.ensures.1
