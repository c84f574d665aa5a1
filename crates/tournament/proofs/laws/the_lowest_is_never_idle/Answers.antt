use Rattle.tournament.proofs.few.LowestLemmas as lemmas
use Rattle.tournament.proofs.laws.the_lowest_is_never_idle.Goals as goal

pub returns : goal.returns
returns c = record { stage = lemmas.lowest-is-never-idle; all = lemmas.lowest-plays-all; first = lemmas.first-plays-all; disputes = lemmas.stages-have-disputes }
