use Rattle.merkle_nodes.proofs.climbing.climb.Given as goal

abbrev pub ghosts-climb_in : goal.ghosts-climb_in
ghosts-climb_in g a = record { name = a.blank.name; parts = a.blank.parts }
