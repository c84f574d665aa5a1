-- To believe. The responses to what is refused: each names the first rule that is broken. Out of memory is no rule, and the texts for it
-- here are never answered: a law states that each refusal has a text (`Answering.antt`).
use Rattle.std.specs.Prelude.{ℕ, List, [], ◌++◌, codes, decimal, Result, Ok, Err, Option, Some, None}
use Rattle.case_reader.specs.Key.{key_text}
use Rattle.case_reader.specs.declared.fault.Key.TheVariants.{Bound}
use Rattle.case_reader.specs.declared.fault.CaseFault.{CaseFault}
use Rattle.case_reader.specs.declared.fault.CaseFault.TheVariants.{NotJson, NotObject, Missing, WrongType, BadHex, OutOfRange, BadProver, Memory}
use Rattle.case_reader.specs.declared.fault.TaskFault.{TaskFault}
use Rattle.case_reader.specs.declared.fault.TaskFault.TheVariants as tasks
use Rattle.image_reader.specs.Fault.{image_rule}
use Rattle.image_reader.specs.declared.fault.ImageFault.{ImageFault}
use Rattle.rv_text.specs.Faults.{number_of_kind}
use Rattle.delegate.specs.declared.loading.AsmImageFault.{AsmImageFault}
use Rattle.delegate.specs.declared.loading.AsmImageFault.TheVariants as asm
use Rattle.delegate.specs.declared.response.Subject.{Subject}
use Rattle.delegate.specs.declared.response.Subject.TheVariants.{Whole, Task}
use Rattle.delegate.specs.declared.response.Response.{Response}
use Rattle.delegate.specs.declared.response.Answered.TheVariants as answered

-- arguments that name no command
abbrev pub usage : Response
usage = record { answered = answered.Usage; text = codes "fault usage\n" }

-- more bytes than are read
abbrev pub too_long : Response
too_long = record { answered = answered.TooLong; text = codes "fault too long\n" }

-- what a refusal is of: of all that is read, of which nothing is said, or of a task, which is named
abbrev pub subject_text : Subject → List ℕ
subject_text Whole = []
subject_text (Task t) = codes "task " ++ (decimal t ++ codes " ")

-- the rule of a case that is broken, with its key, or the prover's number
abbrev pub case_fault_text : Subject → CaseFault → List ℕ
case_fault_text subject NotJson = codes "fault " ++ (subject_text subject ++ codes "case 1\n")
case_fault_text subject NotObject = codes "fault " ++ (subject_text subject ++ codes "case 2\n")
case_fault_text subject (Missing key) = codes "fault " ++ (subject_text subject ++ (codes "case 3 " ++ (key_text key ++ codes "\n")))
case_fault_text subject (WrongType key) = codes "fault " ++ (subject_text subject ++ (codes "case 4 " ++ (key_text key ++ codes "\n")))
case_fault_text subject (BadHex key) = codes "fault " ++ (subject_text subject ++ (codes "case 5 " ++ (key_text key ++ codes "\n")))
case_fault_text subject (OutOfRange key) = codes "fault " ++ (subject_text subject ++ (codes "case 6 " ++ (key_text key ++ codes "\n")))
case_fault_text subject (BadProver number) = codes "fault " ++ (subject_text subject ++ (codes "case 7 " ++ (decimal number ++ codes "\n")))
case_fault_text subject Memory = []

abbrev pub case_refusal : Subject → CaseFault → Response
case_refusal subject fault = record { answered = answered.Case; text = case_fault_text subject fault }

-- of one case or of tasks: the rule is one of the whole text, or of the case of a task
abbrev pub task_refusal : TaskFault → Response
task_refusal (tasks.Whole fault) = case_refusal Whole fault
task_refusal (tasks.Task t fault) = case_refusal (Task t) fault
task_refusal tasks.Memory = case_refusal Whole Memory

-- a bound above the most steps whose roots are written
abbrev pub bound_refusal : Response
bound_refusal = case_refusal Whole (OutOfRange Bound)

-- the rule of an image that is broken
abbrev pub rule_text : Subject → Option ℕ → List ℕ
rule_text subject (Some rule) = codes "fault " ++ (subject_text subject ++ (codes "image " ++ (decimal rule ++ codes "\n")))
rule_text subject None = []

abbrev pub image_refusal : Subject → ImageFault → Response
image_refusal subject fault = record { answered = answered.Image; text = rule_text subject (image_rule fault) }

-- what is wrong with an assembly text: its fault, by kind and line, or the rule of images that its words break
abbrev pub asm_fault_text : Subject → AsmImageFault → List ℕ
asm_fault_text subject (asm.Text fault) = codes "fault " ++ (subject_text subject ++ (codes "image 12 " ++ (decimal (number_of_kind fault.kind) ++ (codes " " ++ (decimal fault.line ++ codes "\n")))))
asm_fault_text subject (asm.Image fault) = rule_text subject (image_rule fault)
asm_fault_text subject asm.Memory = []

abbrev pub asm_refusal : Subject → AsmImageFault → Response
asm_refusal subject fault = record { answered = answered.Image; text = asm_fault_text subject fault }

-- what a reader gives, its fault as the response to it
abbrev pub or_refusal : {A E : Type 0} → (E → Response) → Result A E → Result A Response
or_refusal refusal (Ok x) = Ok x
or_refusal refusal (Err fault) = Err (refusal fault)
