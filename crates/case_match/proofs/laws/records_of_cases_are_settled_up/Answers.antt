use Rattle.case_match.proofs.EndingLemmas.{case-is-settled-up}
use Rattle.case_match.proofs.laws.records_of_cases_are_settled_up.Goals as goal

pub returns : goal.returns
returns c =
    case-is-settled-up c.spare_is_enough.ensures c.nobody_asked_means_over.ensures c.there_is_a_most_number_of_rounds.ensures c.one_record_of_a_case.ensures c.a_match_that_has_ended_is_settled_up.ensures
