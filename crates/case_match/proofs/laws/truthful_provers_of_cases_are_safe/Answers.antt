use Rattle.step_referee.specs.MachineFair.{machine_ruling_is_fair}
use Rattle.case_match.proofs.SafetyLemmas.{safe-in-cases}
use Rattle.case_match.proofs.laws.truthful_provers_of_cases_are_safe.Goals as goal

pub returns : goal.returns
returns g c =
    safe-in-cases g.D.Digester.digest_of
    (record {
      spare = c.spare_is_enough.ensures;
      over = c.nobody_asked_means_over.ensures;
      most = c.there_is_a_most_number_of_rounds.ensures;
      of_case = c.one_record_of_a_case.ensures;
      safe = c.truthful_provers_are_safe.ensures;
    })
    c.machine_runs_are_true.ensures
    (machine_ruling_is_fair g.D.Digester.digest_of g.met.D.Digester.is_digest)
