use Rattle.tournament.proofs.length.NumberLemmas.{records-are-of-provers}
use Rattle.tournament.proofs.PostLemmas.{posts_settle}
use Rattle.tournament.proofs.safety.TheoremLemmas as lemmas
use Rattle.tournament.proofs.laws.a_record_is_of_its_provers.Goals as goal

pub returns : goal.returns
returns c = record { provers = records-are-of-provers posts_settle; fan = lemmas.disputes_have_the_fan c.bisection_laws.ensures }
