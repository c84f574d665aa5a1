use Rattle.std.proofs.Common.{ap}
use Rattle.std.proofs.lemmas.Result.{IfOk-weaker}
use Rattle.case_reader.specs.Case.{CaseData}
use Rattle.case_reader.specs.Tasks.{One}
use Rattle.delegate.proofs.CaseLemmas.{summary-in-range, big-stands}
use Rattle.delegate.proofs.commands.big.big.Goals as goal

pub returns-clause-stands : goal.returns-clause-stands
returns-clause-stands g c =
    big-stands c.args.seed _ _ c.response_to_tasks.result c.summing_up-asked.ensures (ap (λ (x : CaseData). One x) c.in_ok-case.ensures.case) c.response_to_tasks.ensures.stands

pub returns-clause-in_range : goal.returns-clause-in_range
returns-clause-in_range g c =
    IfOk-weaker c.response_to_tasks.result _ _
    (λ response range bytes. summary-in-range c.args.seed bytes _ _ c.summing_up-asked.ensures (ap (λ (x : CaseData). One x) c.in_ok-case.ensures.case) range) c.response_to_tasks.ensures.in_range
