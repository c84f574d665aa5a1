use Rattle.rv_step.proofs.PartsLemmas.{reads_as_needed, asks_as_needed}
use Rattle.rv_step.proofs.laws.needs_tell_what_is_read.Goals as goal

pub returns : goal.returns
returns c = record {
  memory = reads_as_needed;
  input = asks_as_needed;
}
