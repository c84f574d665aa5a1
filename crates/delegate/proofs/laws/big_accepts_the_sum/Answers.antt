use Rattle.delegate.proofs.GuestLemmas.{accepts-sum}
use Rattle.delegate.proofs.laws.big_accepts_the_sum.Goals as goal

pub returns : goal.returns
returns c = accepts-sum c.workload_adds_up_its_input.ensures.seeds
