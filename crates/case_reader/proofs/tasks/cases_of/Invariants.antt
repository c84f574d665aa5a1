use Rattle.std.proofs.Common.{◌≡◌, ◌≤◌, ◌+◌, drop, map, length}
use Rattle.serde_json.specs.View.{view}
use Rattle.case_reader.specs.Case.{data_of}
use Rattle.case_reader.specs.Tasks.{cases_in}
use Rattle.case_reader.proofs.TaskLemmas.{after}
use Rattle.case_reader.proofs.tasks.cases_of.Given as goal

-- the cases so far, before those of the tasks that are left, are all
abbrev pub invariant-tasks : goal.invariant-tasks
invariant-tasks l = (after (map data_of l.cases.items) (cases_in (l.i + 1) (map view (drop l.i l.tasks))) ≡ cases_in 1 (map view l.tasks)) × (length l.cases.items ≡ l.i) × (l.i ≤ length l.tasks)
