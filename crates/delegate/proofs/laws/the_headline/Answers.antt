use Rattle.case_match.specs.TruthfulInCase.{TruthfulProversOfCasesAreSafe}
use Rattle.delegate.proofs.HeadlineLemmas.{by-name, headline-of-cases}
use Rattle.delegate.proofs.laws.the_headline.Goals as goal

pub returns : goal.returns
returns c =
    headline-of-cases (by-name TruthfulProversOfCasesAreSafe c.truthful_provers_of_cases_are_safe.ensures c.truthful_provers_of_cases_are_safe-2.ensures)
    c.nothing_is_said_against_the_truthful.ensures
    c.who_lives_in_a_case_wins_all.ensures
