use Rattle.rv_step.proofs.ArithmeticLawLemmas.{extends}
use Rattle.rv_step.proofs.arithmetic_laws.extensions_keep_bits.Goals as goal

pub returns : goal.returns
returns c = extends
