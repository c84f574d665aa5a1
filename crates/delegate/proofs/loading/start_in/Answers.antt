use Rattle.std.proofs.Common.{ap}
use Rattle.rv_step.specs.State.{State}
use Rattle.delegate.proofs.loading.start_in.Goals as goal

pub returns-clause-fresh : goal.returns-clause-fresh
returns-clause-fresh c = λ digest. record { chained = c.in_ok-start.ensures.chained digest; silent = ap (λ (s : State). s.output) c.in_ok-start.ensures.state }
