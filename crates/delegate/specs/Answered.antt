-- To believe. The program's exit statuses, and what an answer says of the source.
use Rattle.std.specs.Prelude.{ℕ, Bool, true, false, Option, Some, None}
use Rattle.command_line.specs.declared.request.Command.{Command}
use Rattle.command_line.specs.declared.request.Command.TheVariants.{Judge, Run, Roots, Audit, Listing, Big}
use Rattle.delegate.specs.declared.response.Answered.{Answered}
use Rattle.delegate.specs.declared.response.Answered.TheVariants.{Done, Usage, Case, Image, ReadFault, WriteFault, AuditRefused, Memory, NoneLeft, Collision, TooLong}

abbrev pub status_number : Answered → ℕ
status_number Done = 0
status_number Usage = 2
status_number Case = 3
status_number Image = 4
status_number ReadFault = 5
status_number WriteFault = 6
status_number AuditRefused = 8
status_number Memory = 9
status_number NoneLeft = 10
status_number Collision = 11
status_number TooLong = 12

-- an answer with which a whole text is written: no fault of a device, and memory didn't run out
abbrev pub is_outcome : Answered → Bool
is_outcome ReadFault = false
is_outcome WriteFault = false
is_outcome Memory = false
is_outcome _ = true

-- an answer for which the source is read to its end
abbrev pub reads_all : Answered → Bool
reads_all Usage = false
reads_all TooLong = false
reads_all answered = is_outcome answered

-- the arguments, a case, its image or a full text are refused, or there are too many bytes
abbrev pub is_refusal : Answered → Bool
is_refusal Usage = true
is_refusal Case = true
is_refusal Image = true
is_refusal AuditRefused = true
is_refusal TooLong = true
is_refusal _ = false

-- THE ANSWERS OF EACH COMMAND, but for faults of the devices and out of memory

abbrev pub is_done : Answered → Bool
is_done Done = true
is_done _ = false

-- of one that reads a case
abbrev pub is_of_case : Answered → Bool
is_of_case Done = true
is_of_case Case = true
is_of_case Image = true
is_of_case TooLong = true
is_of_case _ = false

-- of one that plays its match
abbrev pub is_of_match : Answered → Bool
is_of_match NoneLeft = true
is_of_match Collision = true
is_of_match answered = is_of_case answered

-- of one that reads a full text
abbrev pub is_of_text : Answered → Bool
is_of_text Done = true
is_of_text AuditRefused = true
is_of_text TooLong = true
is_of_text _ = false

abbrev pub is_answer_of : Command → Answered → Bool
is_answer_of (Judge text name) answered = is_of_match answered
is_answer_of Run answered = is_of_case answered
is_answer_of Roots answered = is_of_case answered
is_answer_of Audit answered = is_of_text answered
is_answer_of Listing answered = is_of_case answered
is_answer_of (Big seed) answered = is_done answered

-- arguments that name no command are refused
abbrev pub is_answer_to : Option Command → Answered → Bool
is_answer_to (Some command) answered = is_answer_of command answered
is_answer_to None Usage = true
is_answer_to None _ = false

-- the graver of two answers to tasks: a collision, else that nobody is left
abbrev pub graver : Answered → Answered → Answered
graver Collision other = Collision
graver NoneLeft Collision = Collision
graver NoneLeft other = NoneLeft
graver answered other = other
