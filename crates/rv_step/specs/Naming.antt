-- Derived, of the code's own functions alone: that the register which an effect writes is one.
use Rattle.std.specs.Prelude.{◌<◌}
use Rattle.rv_step.specs.declared.effect.Effect.{Effect}
use Rattle.rv_step.specs.declared.effect.Effect.TheVariants.{Write, Jump}

-- the register that an effect writes, if it writes one, is one of x0 to x31
abbrev pub NamesRegister : Effect → Type 0
NamesRegister (Write rd value) = rd < 32
NamesRegister (Jump rd target) = rd < 32
NamesRegister e = Unit {0}
