use Rattle.tournament.proofs.length.MostLemmas.{most-rounds}
use Rattle.tournament.proofs.laws.there_is_a_most_number_of_rounds.Goals as goal

pub returns : goal.returns
returns c = most-rounds
