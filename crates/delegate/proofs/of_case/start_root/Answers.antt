use Rattle.std.proofs.Common.{◌≡◌, true, sym, subst}
use Rattle.std.proofs.lemmas.Result.{IfOk-weaker}
use Rattle.delegate.specs.Answered.{is_of_case}
use Rattle.delegate.specs.declared.response.Response.{Response}
use Rattle.delegate.proofs.of_case.start_root.Goals as goal

pub returns-clause-own : goal.returns-clause-own
returns-clause-own c =
    IfOk-weaker c.start_response_to.result _ _ (λ response is. subst (λ (r : Response). is_of_case r.answered ≡ true) (sym is) (c.starts_are_answers_of_cases.ensures c.args.bytes.now)) c.start_response_to.ensures.response
