use Rattle.tournament.proofs.safety.ListedLemmas.{the-live-are-listed}
use Rattle.tournament.proofs.laws.the_live_are_listed.Goals as goal

pub returns : goal.returns
returns c = the-live-are-listed
