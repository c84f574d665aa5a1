use Rattle.rv_step.specs.State.{state_of}
use Rattle.state_commit.proofs.root.state_root_with.Goals as goal

pub root_of_parts-requires-clause-input : goal.root_of_parts-requires-clause-input
root_of_parts-requires-clause-input g c = c.root.ensures.root (state_of c.args.machine.now) c.requires.input
