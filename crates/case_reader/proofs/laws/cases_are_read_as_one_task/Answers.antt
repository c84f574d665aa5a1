use Rattle.case_reader.proofs.TaskFaults.{cases_are_tasks}
use Rattle.case_reader.proofs.laws.cases_are_read_as_one_task.Goals as goal

pub returns : goal.returns
returns c = cases_are_tasks
