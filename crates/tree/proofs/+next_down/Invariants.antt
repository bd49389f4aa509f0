use Rattle.tree.proofs.+next_down.Given as goal

abbrev pub decreases-next_down : goal.decreases-next_down
decreases-next_down l = l.bucket
