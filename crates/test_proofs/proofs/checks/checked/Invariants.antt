use Rattle.test_proofs.proofs.checks.checked.Given as goal

abbrev pub ghosts-checked_in : goal.ghosts-checked_in
ghosts-checked_in a = record { name = a.blank.name; parts = a.blank.parts }
