use Rattle.audit.proofs.ExactLemmas as lemmas
use Rattle.audit.proofs.laws.confirmed_exactly.Goals as goal

pub returns : goal.returns
returns c = lemmas.confirmed_exactly c.one_record_of_a_case.ensures c.spare_is_enough.ensures c.there_is_a_most_number_of_rounds.ensures c.nobody_asked_means_over.ensures
