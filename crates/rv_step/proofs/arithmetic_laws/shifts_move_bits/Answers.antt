use Rattle.rv_step.proofs.ArithmeticLawLemmas.{moves}
use Rattle.rv_step.proofs.arithmetic_laws.shifts_move_bits.Goals as goal

pub returns : goal.returns
returns c = moves
