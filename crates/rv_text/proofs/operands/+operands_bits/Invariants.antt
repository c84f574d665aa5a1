use Rattle.std.proofs.Common.{length}
use Rattle.rv_text.proofs.operands.+operands_bits.Given as goal

abbrev pub decreases-operands_bits : goal.decreases-operands_bits
decreases-operands_bits l = length l.slots.now
