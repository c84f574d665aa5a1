use Rattle.mem_tree.proofs.scratch.+part.Given as goal

abbrev pub decreases-part : goal.decreases-part
decreases-part g l = l.level
