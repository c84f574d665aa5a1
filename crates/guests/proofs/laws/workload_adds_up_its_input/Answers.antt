use Rattle.guests.proofs.SumLemmas.{inputs_summed, seeds_summed}
use Rattle.guests.proofs.laws.workload_adds_up_its_input.Goals as goal

pub returns-clause-inputs : goal.returns-clause-inputs
returns-clause-inputs c = inputs_summed (record { laid = c.laying_bytes.ensures.laid; stored = c.laying_bytes.ensures.stored; loaded_back = c.stores_are_loaded.ensures })

pub returns-clause-seeds : goal.returns-clause-seeds
returns-clause-seeds c = seeds_summed (returns-clause-inputs c) c.workload_is_a_case.ensures.input c.workload_is_a_case.ensures.bytes
