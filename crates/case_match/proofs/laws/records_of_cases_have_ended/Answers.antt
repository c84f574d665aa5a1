use Rattle.case_match.proofs.EndingLemmas.{case-has-ended}
use Rattle.case_match.proofs.laws.records_of_cases_have_ended.Goals as goal

pub returns : goal.returns
returns c = case-has-ended c.spare_is_enough.ensures c.nobody_asked_means_over.ensures c.there_is_a_most_number_of_rounds.ensures c.one_record_of_a_case.ensures
