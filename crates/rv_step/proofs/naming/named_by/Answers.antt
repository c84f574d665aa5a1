use Rattle.std.proofs.Common.{Some, sym, subst}
use Rattle.rv_step.specs.Named.{AreRegisters}
use Rattle.rv_step.proofs.naming.named_by.Goals as goal

pub returns-in-Some-clause-registers : goal.returns-in-Some-clause-registers
returns-in-Some-clause-registers c = subst AreRegisters (sym c.named.ensures) (c.names_are_registers.ensures (Some c.in-Some.instr))
