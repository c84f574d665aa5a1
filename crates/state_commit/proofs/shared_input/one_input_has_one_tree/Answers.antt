use Rattle.state_commit.proofs.VersionLemmas.{input-kept}
use Rattle.state_commit.proofs.shared_input.one_input_has_one_tree.Goals as goal

pub returns : goal.returns
returns c = input-kept
