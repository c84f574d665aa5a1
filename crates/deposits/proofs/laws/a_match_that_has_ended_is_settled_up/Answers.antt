use Rattle.deposits.proofs.EndedLemmas.{ended-is-settled-up}
use Rattle.deposits.proofs.laws.a_match_that_has_ended_is_settled_up.Goals as goal

pub returns : goal.returns
returns c = ended-is-settled-up c.a_record_is_of_its_provers.ensures.provers c.nobody_is_put_out_twice.ensures c.open_disputes_share_no_prover.ensures.two
