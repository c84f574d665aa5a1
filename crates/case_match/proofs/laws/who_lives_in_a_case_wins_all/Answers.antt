use Rattle.case_match.proofs.EndingLemmas.{who-lives-in-a-case-wins-all}
use Rattle.case_match.proofs.laws.who_lives_in_a_case_wins_all.Goals as goal

pub returns : goal.returns
returns c =
    who-lives-in-a-case-wins-all c.spare_is_enough.ensures c.nobody_asked_means_over.ensures c.there_is_a_most_number_of_rounds.ensures c.one_record_of_a_case.ensures c.who_lives_wins_all.ensures.lives
