use Rattle.rv_step.proofs.NamedLemmas.{named-effect, named-needed, effect-writes}
use Rattle.rv_step.proofs.laws.effects_read_named_registers.Goals as goal

pub returns-clause-effect : goal.returns-clause-effect
returns-clause-effect c = λ offer xs ys pc read i zeros same. named-effect xs ys zeros offer pc read i same

pub returns-clause-needed : goal.returns-clause-needed
returns-clause-needed c = λ version xs ys i zeros same. named-needed xs ys zeros version i same

pub returns-clause-writes : goal.returns-clause-writes
returns-clause-writes c = effect-writes
