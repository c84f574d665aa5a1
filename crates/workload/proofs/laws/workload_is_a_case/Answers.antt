use Rattle.workload.proofs.TreeLemmas.{case_of-big_tree, length-input_of, input_is_bytes}
use Rattle.workload.proofs.laws.workload_is_a_case.Goals as goal

pub returns-clause-case : goal.returns-clause-case
returns-clause-case c = case_of-big_tree

pub returns-clause-input : goal.returns-clause-input
returns-clause-input c = length-input_of

pub returns-clause-bytes : goal.returns-clause-bytes
returns-clause-bytes c = input_is_bytes
