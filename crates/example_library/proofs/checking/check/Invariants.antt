use Rattle.example_library.proofs.checking.check.Given as goal

abbrev pub ghosts-check_in : goal.ghosts-check_in
ghosts-check_in g a = record { name = a.blank.name; parts = a.blank.parts }
