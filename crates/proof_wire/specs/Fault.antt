-- To believe. The numbers of the rules.
use Rattle.std.specs.Prelude.{ℕ, Option, Some, None}
use Rattle.proof_wire.specs.declared.fault.WireFault.{WireFault}
use Rattle.proof_wire.specs.declared.fault.WireFault.TheVariants.{Short, BadTag, BadStatus, TrailingBytes, BadLength, Memory}

-- the number of the rule that is broken, and none if memory ran out
abbrev pub wire_rule : WireFault → Option ℕ
wire_rule Short = Some 1
wire_rule BadTag = Some 2
wire_rule BadStatus = Some 3
wire_rule TrailingBytes = Some 4
wire_rule BadLength = Some 5
wire_rule Memory = None
