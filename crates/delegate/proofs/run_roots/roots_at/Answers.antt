use Rattle.std.proofs.Common.{◌≢◌, sym, subst}
use Rattle.std.proofs.lemmas.Result.{IfOk-weaker}
use Rattle.delegate.specs.declared.response.Answered.TheVariants as answered
use Rattle.delegate.specs.declared.response.Response.{Response}
use Rattle.delegate.proofs.run_roots.roots_at.Goals as goal

pub returns-clause-own : goal.returns-clause-own
returns-clause-own c =
    IfOk-weaker c.roots_response_to.result _ _ (λ response is. subst (λ (r : Response). r.answered ≢ answered.Memory) (sym is) (c.roots_are_no_fault.ensures c.args.steps.now c.args.bytes.now)) c.roots_response_to.ensures
