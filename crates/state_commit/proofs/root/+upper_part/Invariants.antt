use Rattle.state_commit.proofs.root.+upper_part.Given as goal

abbrev pub decreases-upper_part : goal.decreases-upper_part
decreases-upper_part g l = l.above
