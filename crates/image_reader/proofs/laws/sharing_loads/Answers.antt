use Rattle.image_reader.proofs.OverlapLemmas.{apart-alone}
use Rattle.image_reader.proofs.laws.sharing_loads.Goals as goal

pub returns : goal.returns
returns c = apart-alone
