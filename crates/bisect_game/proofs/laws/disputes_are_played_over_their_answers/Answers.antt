use Rattle.bisect_game.proofs.PlayedLemmas.{disputes_are_played}
use Rattle.bisect_game.proofs.laws.disputes_are_played_over_their_answers.Goals as goal

pub returns : goal.returns
returns c = disputes_are_played
