use Rattle.merkle_nodes.proofs.RenewalLemmas.{few, most, root-changed, some-changed}
use Rattle.merkle_nodes.proofs.laws.renewals_are_few.Goals as goal

pub returns-clause-few : goal.returns-clause-few
returns-clause-few c = few

pub returns-clause-most : goal.returns-clause-most
returns-clause-most c = most

pub returns-clause-root : goal.returns-clause-root
returns-clause-root c = root-changed

pub returns-clause-some : goal.returns-clause-some
returns-clause-some c = some-changed
