use Rattle.deposits.proofs.LawLemmas.{who-stays-keeps-stake, truthful-keep-stake}
use Rattle.deposits.proofs.laws.truthful_provers_keep_their_stakes.Goals as goal

pub returns : goal.returns
returns c = record { stays = who-stays-keeps-stake; truthful = truthful-keep-stake c.truthful_provers_are_safe.ensures }
