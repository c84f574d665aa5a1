-- To believe. Reading tasks: a text holds one case, or under the key `tasks` 1 to 8 cases. The first fault of the first task that has
-- one is the fault of all. Beside `tasks` no key is looked at.
use Rattle.std.specs.Prelude.{◌≡◌, ◌≢◌, ◌↔◌, ◌≤◌, ℕ, ◌+◌, ◌&&◌, List, [], ◌∷◌, map, length, nat_le, Result, Ok, Err, if◌then◌else◌}
use Rattle.std.specs.Option.{ok_or}
use Rattle.serde_json.specs.Data.{Data}
use Rattle.rd_base.specs.Results.{◌>>=◌, map_fault}
use Rattle.case_reader.specs.Fields.{has_tasks, array_field}
use Rattle.case_reader.specs.Case.{CaseData, data_of, case_of, case_at, tree_of}
use Rattle.case_reader.specs.declared.case.Tasks.{Tasks as ReadTasks}
use Rattle.case_reader.specs.declared.case.Tasks.TheVariants as read
use Rattle.case_reader.specs.declared.fault.Key.TheVariants.{Tasks}
use Rattle.case_reader.specs.declared.fault.CaseFault.{CaseFault}
use Rattle.case_reader.specs.declared.fault.CaseFault.TheVariants.{NotJson, OutOfRange}
use Rattle.case_reader.specs.declared.fault.TaskFault.{TaskFault}
use Rattle.case_reader.specs.declared.fault.TaskFault.TheVariants.{Whole, Task}

-- what a text holds
pub data TasksData : Type 0 where
  One : CaseData → TasksData
  Many : List CaseData → TasksData

abbrev pub tasks_data : ReadTasks → TasksData
tasks_data (read.One c) = One (data_of c)
tasks_data (read.Many cs) = Many (map data_of cs.items)

-- 1 to 8 tasks
abbrev pub AreFew : ReadTasks → Type 0
AreFew (read.One c) = Unit {0}
AreFew (read.Many cs) = (1 ≤ length cs.items) × (length cs.items ≤ 8)

-- the elements of `tasks`, 1 to 8 of them
unfoldable pub tasks_in : Data → Result (List Data) CaseFault
tasks_in tree = do
  tasks ← array_field Tasks tree
  if nat_le 1 (length tasks) && nat_le (length tasks) 8 then Ok tasks else Err (OutOfRange Tasks)

-- the cases of tasks, the first of which has this number
unfoldable pub cases_in : ℕ → List Data → Result (List CaseData) TaskFault
cases_in number [] = Ok []
cases_in number (task ∷ tasks) = do
  c ← map_fault (Task number) (case_of task)
  cs ← cases_in (number + 1) tasks
  Ok (c ∷ cs)

unfoldable pub many_of : Data → Result TasksData TaskFault
many_of tree = do
  tasks ← map_fault Whole (tasks_in tree)
  cs ← cases_in 1 tasks
  Ok (Many cs)

unfoldable pub one_of : Data → Result TasksData TaskFault
one_of tree = do
  c ← map_fault Whole (case_of tree)
  Ok (One c)

-- tasks if the key is there, and else one case
abbrev pub tasks_of : Data → Result TasksData TaskFault
tasks_of tree = if has_tasks tree then many_of tree else one_of tree

-- what bytes hold, or the first fault
unfoldable pub tasks_at : List ℕ → Result TasksData TaskFault
tasks_at bytes = do
  tree ← map_fault Whole (ok_or (tree_of bytes) NotJson)
  tasks_of tree

-- bytes read as one task if and only if they read as a case, and as the same one; and if they are refused as a case, but not for
-- the key `tasks`, the fault of the whole text is the same
pub record CasesAreTasks : Type 0 where
  pub same : (bytes : List ℕ) (c : CaseData) → tasks_at bytes ≡ Ok (One c) ↔ case_at bytes ≡ Ok c
  pub refused : (bytes : List ℕ) (fault : CaseFault) → case_at bytes ≡ Err fault → fault ≢ OutOfRange Tasks → tasks_at bytes ≡ Err (Whole fault)
