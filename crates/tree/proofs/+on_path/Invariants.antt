use Rattle.tree.proofs.+on_path.Given as goal

abbrev pub decreases-on_path : goal.decreases-on_path
decreases-on_path l = l.bucket
