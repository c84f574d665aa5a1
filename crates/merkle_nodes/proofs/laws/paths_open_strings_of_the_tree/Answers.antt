use Rattle.merkle_nodes.proofs.StringLemmas.{path-string}
use Rattle.merkle_nodes.proofs.laws.paths_open_strings_of_the_tree.Goals as goal

pub returns : goal.returns
returns c = record { strings = path-string c.paths_climb_to_nodes.ensures.climbs }
