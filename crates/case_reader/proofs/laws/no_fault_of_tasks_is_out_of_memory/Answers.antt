use Rattle.case_reader.proofs.TaskFaults.{no_task_fault_is_memory, no_whole_fault_is_memory, no_fault_of_a_task_is_memory}
use Rattle.case_reader.proofs.laws.no_fault_of_tasks_is_out_of_memory.Goals as goal

pub returns-clause-none : goal.returns-clause-none
returns-clause-none c = no_task_fault_is_memory

pub returns-clause-whole : goal.returns-clause-whole
returns-clause-whole c = no_whole_fault_is_memory

pub returns-clause-task : goal.returns-clause-task
returns-clause-task c = no_fault_of_a_task_is_memory
