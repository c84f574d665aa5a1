use Rattle.open_proof.proofs.collision.state_string.Given as goal

abbrev pub ghosts-text_in : goal.ghosts-text_in
ghosts-text_in g a = record { name = a.blank.name; parts = a.blank.parts }
