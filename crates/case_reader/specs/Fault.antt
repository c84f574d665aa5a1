-- To believe: the numbers of a case's rules. Derived: the fault of a whole text, as the code passes it on.
use Rattle.std.specs.Prelude.{ℕ, Option, Some, None}
use Rattle.case_reader.specs.declared.fault.CaseFault.{CaseFault}
use Rattle.case_reader.specs.declared.fault.CaseFault.TheVariants.{NotJson, NotObject, Missing, WrongType, BadHex, OutOfRange, BadProver, Memory}
use Rattle.case_reader.specs.declared.fault.TaskFault.{TaskFault}
use Rattle.case_reader.specs.declared.fault.TaskFault.TheVariants as task

-- the number of the rule that is broken, and none if memory ran out
abbrev pub case_rule : CaseFault → Option ℕ
case_rule NotJson = Some 1
case_rule NotObject = Some 2
case_rule (Missing key) = Some 3
case_rule (WrongType key) = Some 4
case_rule (BadHex key) = Some 5
case_rule (OutOfRange key) = Some 6
case_rule (BadProver number) = Some 7
case_rule Memory = None

-- a rule that the whole text breaks, and out of memory as it is
abbrev pub whole_fault : CaseFault → TaskFault
whole_fault Memory = task.Memory
whole_fault fault = task.Whole fault
