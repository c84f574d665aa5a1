use Rattle.prover_run.proofs.OrderLemmas.{in_order, as_many}
use Rattle.prover_run.proofs.provers.answerers_with_input.Goals as goal

pub returns-clause-count : goal.returns-clause-count
returns-clause-count g c = as_many _ _ _ _ _ c.new-answerers.ensures.items c.in_ok-put_answerers.ensures

pub returns-clause-answers : goal.returns-clause-answers
returns-clause-answers g c = in_order _ g.D.Digester.digest_of _ _ _ _ _ c.new-answerers.ensures.items c.in_ok-put_answerers.ensures
