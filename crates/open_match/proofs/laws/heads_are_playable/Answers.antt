use Rattle.open_match.proofs.HeadLemmas.{playable, short}
use Rattle.open_match.proofs.laws.heads_are_playable.Goals as goal

pub returns-clause-playable : goal.returns-clause-playable
returns-clause-playable c = playable

pub returns-clause-short : goal.returns-clause-short
returns-clause-short c = short
