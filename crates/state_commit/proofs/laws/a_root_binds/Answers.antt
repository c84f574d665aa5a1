use Rattle.state_commit.proofs.BindingLemmas.{bound}
use Rattle.state_commit.proofs.laws.a_root_binds.Goals as goal

pub returns : goal.returns
returns c = record { binds = bound c.roots_bind_trees.ensures.leaves c.roots_bind_trees.ensures.strings c.chains_bind_outputs.ensures.outputs }
