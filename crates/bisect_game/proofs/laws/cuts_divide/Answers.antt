use Rattle.bisect_game.proofs.CutLemmas.{cuts_divide}
use Rattle.bisect_game.proofs.laws.cuts_divide.Goals as goal

pub returns : goal.returns
returns c = cuts_divide
