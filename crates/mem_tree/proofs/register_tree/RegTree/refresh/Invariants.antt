use Rattle.mem_tree.proofs.register_tree.RegTree.refresh.Given as goal

abbrev pub ghosts-refresh_in : goal.ghosts-refresh_in
ghosts-refresh_in g a = record { name = a.blank.name; parts = a.blank.parts }
