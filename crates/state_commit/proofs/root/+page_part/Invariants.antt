use Rattle.state_commit.proofs.root.+page_part.Given as goal

abbrev pub decreases-page_part : goal.decreases-page_part
decreases-page_part g l = l.level
