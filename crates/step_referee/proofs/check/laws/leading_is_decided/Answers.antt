use Rattle.step_referee.specs.TestLaws.{checked-leads}
use Rattle.step_referee.proofs.check.laws.leading_is_decided.Goals as goal

pub returns : goal.returns
returns c = λ digest version a b facts. checked-leads digest version a facts b
