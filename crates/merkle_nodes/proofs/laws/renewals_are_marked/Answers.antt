use Rattle.merkle_nodes.proofs.RenewalLemmas.{many-marked, root-marked}
use Rattle.merkle_nodes.proofs.laws.renewals_are_marked.Goals as goal

pub returns-clause-many : goal.returns-clause-many
returns-clause-many c = many-marked

pub returns-clause-root : goal.returns-clause-root
returns-clause-root c = root-marked
