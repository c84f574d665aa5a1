use Rattle.tournament.proofs.few.PeriodLemmas.{periods-are-few}
use Rattle.tournament.proofs.laws.served_matches_end.Goals as goal

pub returns : goal.returns
returns c =
    periods-are-few c.a_record_is_of_its_provers.ensures.provers c.nobody_asked_means_over.ensures c.bisection_laws.ensures c.a_match_has_few_disputes_and_rounds.ensures.disputes
    c.a_match_has_few_disputes_and_rounds.ensures.rounds c.open_disputes_share_no_prover.ensures.two c.open_disputes_share_no_prover.ensures.one
