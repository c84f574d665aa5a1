-- To believe: the address of the word that is fetched, by the control fields of a state.
use Rattle.std.specs.Prelude.{ℕ, Option}
use Rattle.rd_base.specs.declared.status.Ctl.{Ctl}
use Rattle.rv_step.specs.NextEffect.{address_fetched}

-- pc, if the machine is running and pc is a multiple of 4
abbrev pub fetch_address : Ctl → Option ℕ
fetch_address ctl = address_fetched ctl.status ctl.pc
