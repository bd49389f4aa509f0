-- A buffer is as long as it was made, and the run ends within it.
use Rattle.std.proofs.Common.{ℕ, sym}
use Rattle.std.proofs.lemmas.List.{length-replicate}
use Rattle.replay.proofs.Whole.{laid_counts}
use Rattle.schedule.proofs.write_run.Goals as goal

pub slice_bounds-run-end : goal.slice_bounds-run-end
slice_bounds-run-end c = sym (length-replicate {A = ℕ} 589824 0)

pub slice_bounds-out-end : goal.slice_bounds-out-end
slice_bounds-out-end c = (laid_counts c.run-end.ensures).0

pub slice_bounds-write_all-end : goal.slice_bounds-write_all-end
slice_bounds-write_all-end c = (laid_counts c.run-end.ensures).1
