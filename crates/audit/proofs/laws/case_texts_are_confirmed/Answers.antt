use Rattle.audit.proofs.ExactLemmas as lemmas
use Rattle.audit.proofs.laws.case_texts_are_confirmed.Goals as goal

pub returns : goal.returns
returns c = lemmas.case-confirmed c.one_record_of_a_case.ensures c.spare_is_enough.ensures c.there_is_a_most_number_of_rounds.ensures c.nobody_asked_means_over.ensures
