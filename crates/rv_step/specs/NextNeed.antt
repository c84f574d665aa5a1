-- To believe: what the next step needs of memory or of the input, by what it sees. The law `needs_tell_what_is_read` says that this is
-- what its effect depends on.
use Rattle.std.specs.Prelude.{ℕ, List, Option, Some, None}
use Rattle.rd_base.specs.declared.scheme.InputScheme.{InputScheme}
use Rattle.rv_decode.specs.declared.instr.Instr.{Instr}
use Rattle.rv_step.specs.NextEffect.{Seen, fetched}
use Rattle.rv_step.specs.Parts.{needed_in}
use Rattle.rv_step.specs.declared.asked.Need.{Need}
use Rattle.rv_step.specs.declared.asked.Need.TheVariants as need

-- what an instruction that is fetched needs, by how the input is held and by the registers; nothing if none is fetched
abbrev pub needed_by : InputScheme → List ℕ → Option Instr → Need
needed_by input xs (Some i) = needed_in input xs i
needed_by input xs None = need.Nothing

-- what the next step needs
abbrev pub next_need : Seen → Need
next_need s = needed_by s.input_scheme s.regs (fetched s)
