use Rattle.tournament.proofs.sheet.Sheet.+open_pairs.Given as goal

abbrev pub decreases-open_pairs : goal.decreases-open_pairs
decreases-open_pairs l = l.left
