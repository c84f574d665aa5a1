use Rattle.prover_run.specs.CaseScripts.{script_says}
use Rattle.prover_run.proofs.OrderLemmas.{on_made, put_one}
use Rattle.prover_run.proofs.provers.+put_answerers.Goals as goal

pub returns : goal.returns
returns g t c =
    on_made _ _
    (λ rest. put_one _ (script_says g.D.Digester.digest_of c.args.start.now c.args.plan.bound) c.args.answerers.now.items c.push.new.self.items c.put_answerers.new.answerers.items
    c.in_ok-answerer.answerer c.args.scripts.now c.script-item.result c.in-len1-up.len_at_least c.script-item.is c.in_ok-answerer.ensures c.in_ok-push.ensures.items rest)
    c.put_answerers.result c.put_answerers.ensures
