use Rattle.tournament.proofs.safety.TheoremLemmas as lemmas
use Rattle.tournament.proofs.laws.a_match_has_few_disputes_and_rounds.Goals as goal

pub returns : goal.returns
returns c = record { disputes = lemmas.few_disputes_of_posts; rounds = lemmas.few_rounds_of_posts c.bisection_laws.ensures; rulings = lemmas.rulings_are_few c.bisection_laws.ensures }
