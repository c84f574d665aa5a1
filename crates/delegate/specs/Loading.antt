-- To believe. How a case is read and loaded, by every command on a case, and how tasks are: one case is read and loaded as the tasks of one,
-- of which nothing is said.
use Rattle.std.specs.Prelude.{ℕ, ◌+◌, List, [], ◌∷◌, length, nat_lt, Result, Ok, Err, if◌then◌else◌}
use Rattle.rd_base.specs.Results.{◌>>=◌}
use Rattle.rv_step.specs.State.{State}
use Rattle.rv_step.specs.Loaded.{started}
use Rattle.case_reader.specs.Case.{CaseData, case_at}
use Rattle.case_reader.specs.Tasks.{TasksData, One, Many, tasks_at}
use Rattle.case_reader.specs.declared.case.Format.{Format}
use Rattle.case_reader.specs.declared.case.Format.TheVariants.{Flat, Elf, Asm}
use Rattle.image_reader.specs.Image.{Image, flat_at}
use Rattle.image_reader.specs.Elf.{elf_at}
use Rattle.delegate.specs.AsmImage.{asm_at}
use Rattle.delegate.specs.Refusal.{too_long, case_refusal, task_refusal, image_refusal, asm_refusal, or_refusal}
use Rattle.delegate.specs.declared.response.Subject.{Subject}
use Rattle.delegate.specs.declared.response.Subject.TheVariants.{Whole, Task}
use Rattle.delegate.specs.declared.response.Response.{Response}

-- bytes that are not more than the most that are read
abbrev pub within_limit : List ℕ → Result (List ℕ) Response
within_limit bytes = if nat_lt 16777216 (length bytes) then Err too_long else Ok bytes

-- the case of bytes
abbrev pub case_or_refusal : List ℕ → Result CaseData Response
case_or_refusal bytes = or_refusal (case_refusal Whole) (case_at bytes)

-- the one case of bytes, or those of tasks
abbrev pub tasks_or_refusal : List ℕ → Result TasksData Response
tasks_or_refusal bytes = or_refusal task_refusal (tasks_at bytes)

-- the image of a file by its format, or what is wrong with it
abbrev pub image_by : Subject → Format → List ℕ → Result Image Response
image_by subject Flat file = or_refusal (image_refusal subject) (flat_at file)
image_by subject Elf file = or_refusal (image_refusal subject) (elf_at file)
image_by subject Asm text = or_refusal (asm_refusal subject) (asm_at text)

-- the state in which the run of a case starts, of its version
unfoldable pub start_or_refusal : Subject → CaseData → Result State Response
start_or_refusal subject c = do
  image ← image_by subject c.format c.image
  Ok (started c.version image.memory image.entry c.input)

-- what is answered of the case of bytes, whose run starts in this state. A case that doesn't pass a test is refused before its image is loaded.
unfoldable pub of_case : (CaseData → Result (Unit {0}) Response) → (CaseData → State → Response) → List ℕ → Result Response Response
of_case test answer bytes = do
  c ← case_or_refusal bytes
  passed ← test c
  start ← start_or_refusal Whole c
  Ok (answer c start)

-- the test that each case passes
abbrev pub every_case : CaseData → Result (Unit {0}) Response
every_case c = Ok tt

-- a case that is loaded: the case, and the state in which its run starts
pub record LoadedData : Type 0 where
  pub case : CaseData
  pub start : State

-- the subject of the case behind one: of tasks, the next
abbrev pub next_subject : Subject → Subject
next_subject Whole = Whole
next_subject (Task t) = Task (t + 1)

-- cases, loaded, the first of which is of this subject
unfoldable pub loads_or_refusal : Subject → List CaseData → Result (List LoadedData) Response
loads_or_refusal subject [] = Ok []
loads_or_refusal subject (c ∷ cs) = do
  start ← start_or_refusal subject c
  loads ← loads_or_refusal (next_subject subject) cs
  Ok (record { case = c; start = start } ∷ loads)

-- the cases of what was read, and the first one's subject
abbrev pub cases_of_tasks : TasksData → List CaseData
cases_of_tasks (One c) = c ∷ []
cases_of_tasks (Many cs) = cs

abbrev pub first_subject : TasksData → Subject
first_subject (One c) = Whole
first_subject (Many cs) = Task 1
