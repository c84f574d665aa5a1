use Rattle.machine_audit.proofs.VerdictLemmas.{cases-confirmed}
use Rattle.machine_audit.proofs.laws.written_cases_are_confirmed.Goals as goal

pub returns : goal.returns
returns g c = cases-confirmed g.D.Digester.digest_of c.collisions_of_the_machine_have_strings.ensures.cases c.written_cases_are_confirmed.ensures
