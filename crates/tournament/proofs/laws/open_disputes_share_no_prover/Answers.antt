use Rattle.tournament.proofs.order.SoFarLemmas as lemmas
use Rattle.tournament.proofs.laws.open_disputes_share_no_prover.Goals as goal

pub returns : goal.returns
returns c = record { one = lemmas.open_disputes_share_no_prover c.bisection_laws.ensures; two = lemmas.sides_are_two_provers c.bisection_laws.ensures }
