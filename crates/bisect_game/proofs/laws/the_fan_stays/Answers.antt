use Rattle.bisect_game.proofs.PlayedLemmas.{fan-side}
use Rattle.bisect_game.proofs.laws.the_fan_stays.Goals as goal

pub returns : goal.returns
returns c = fan-side
