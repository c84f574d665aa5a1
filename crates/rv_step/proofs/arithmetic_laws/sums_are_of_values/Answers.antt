use Rattle.rv_step.proofs.ArithmeticLawLemmas.{sums}
use Rattle.rv_step.proofs.arithmetic_laws.sums_are_of_values.Goals as goal

pub returns : goal.returns
returns c = sums
