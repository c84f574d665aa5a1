use Rattle.bisect_game.proofs.HalvesLemmas.{halves_are_bisection}
use Rattle.bisect_game.proofs.laws.halves_are_bisection.Goals as goal

pub returns : goal.returns
returns c = halves_are_bisection
