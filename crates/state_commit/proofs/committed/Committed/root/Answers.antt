use Rattle.rv_step.specs.State.{state_of}
use Rattle.state_commit.proofs.committed.Committed.root.Goals as goal

pub root_of_parts-requires-clause-input : goal.root_of_parts-requires-clause-input
root_of_parts-requires-clause-input g c = c.root-2.ensures.root (state_of c.self.inside.machine) c.self.invariant.2
