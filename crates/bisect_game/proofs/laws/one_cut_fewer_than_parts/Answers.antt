use Rattle.bisect_game.proofs.CutLemmas.{one-cut-fewer}
use Rattle.bisect_game.proofs.laws.one_cut_fewer_than_parts.Goals as goal

pub returns : goal.returns
returns c = one-cut-fewer
