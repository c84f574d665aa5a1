use Rattle.delegate.proofs.KindLemmas.{outcome-own}
use Rattle.delegate.proofs.WhyLemmas.{refusals-say-why}
use Rattle.delegate.proofs.laws.answers_are_those_of_the_command.Goals as goal

pub returns : goal.returns
returns c = record {
  own = outcome-own;
  why = refusals-say-why
      (record {
        case_ = c.no_fault_of_a_case_is_out_of_memory.ensures;
        none = c.no_fault_of_tasks_is_out_of_memory.ensures.none;
        whole = c.no_fault_of_tasks_is_out_of_memory.ensures.whole;
        task = c.no_fault_of_tasks_is_out_of_memory.ensures.task;
        text = c.no_fault_of_a_text_is_out_of_memory.ensures;
      });
}
