use Rattle.rv_step.proofs.ArithmeticLawLemmas.{divides_unsigned, divides_signed}
use Rattle.rv_step.proofs.arithmetic_laws.dividends_come_back.Goals as goal

pub returns-clause-unsigned : goal.returns-clause-unsigned
returns-clause-unsigned c = divides_unsigned

pub returns-clause-signed : goal.returns-clause-signed
returns-clause-signed c = divides_signed
