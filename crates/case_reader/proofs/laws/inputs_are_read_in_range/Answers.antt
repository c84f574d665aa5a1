use Rattle.case_reader.proofs.TamperLemmas.{inputs_are_read, inputs_of_tasks_are_read}
use Rattle.case_reader.proofs.laws.inputs_are_read_in_range.Goals as goal

pub returns-clause-case : goal.returns-clause-case
returns-clause-case c = inputs_are_read

pub returns-clause-tasks : goal.returns-clause-tasks
returns-clause-tasks c = inputs_of_tasks_are_read
