use Rattle.tournament.proofs.safety.UndecidedLemmas as lemmas
use Rattle.tournament.proofs.laws.disputes_put_out_or_collide.Goals as goal

pub returns : goal.returns
returns c = record { ends = lemmas.disputes-put-out-or-collide; collisions = lemmas.collisions-put-out-nobody; one = lemmas.one-is-undecided }
