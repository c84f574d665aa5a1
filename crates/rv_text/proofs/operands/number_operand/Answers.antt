use Rattle.std.proofs.Common.{ap, ◌∙◌}
use Rattle.rv_text.specs.Numbers.{number_of_text}
use Rattle.rv_text.specs.Operands.{ranged_or}
use Rattle.rv_text.specs.declared.fault.FaultKind.TheVariants.{OtherForm}
use Rattle.rv_text.proofs.digits.CappedLemmas.{written-capped}
use Rattle.rv_text.proofs.operands.number_operand.Goals as goal

pub returns-clause-value : goal.returns-clause-value
returns-clause-value c = c.written.ensures.value ∙ (ap (λ o. ranged_or OtherForm c.args.field o) c.number.ensures ∙ written-capped c.args.field (number_of_text c.args.text.now))
