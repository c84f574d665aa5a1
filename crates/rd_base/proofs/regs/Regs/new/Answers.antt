use Rattle.std.proofs.Common.{refl}
use Rattle.rd_base.proofs.RegsLemmas.{zeros-fit}
use Rattle.rd_base.proofs.regs.Regs.new.Goals as goal

pub invariant_of-result : goal.invariant_of-result
invariant_of-result c = (refl, zeros-fit 32)
