-- Derived: the parts that the code changes as what is held of a state.
use Rattle.open_proof.specs.Held.{Held}
use Rattle.step_referee.specs.declared.check.carrying.Parts.{Parts}

abbrev pub held_in : Parts → Held
held_in parts = record { mem = parts.mem.0; regs = parts.regs; ctl = parts.ctl }
