use Rattle.machine_audit.proofs.CaseLemmas.{cases-right}
use Rattle.machine_audit.proofs.laws.confirmed_cases_are_right.Goals as goal

pub returns : goal.returns
returns g c =
    cases-right g.D.Digester.digest_of g.met.D.Digester.is_digest c.machine_runs_are_true.ensures c.a_confirmed_text_is_right.ensures c.read_texts_may_be_audited.ensures c.reading_is_the_inverse_of_writing.ensures.exactly
