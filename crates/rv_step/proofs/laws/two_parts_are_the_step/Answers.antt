use Rattle.rv_step.proofs.PartsLemmas.{parts_are_the_step, effect_meets, effect_finishes, needed_aligned}
use Rattle.rv_step.proofs.laws.two_parts_are_the_step.Goals as goal

pub returns-clause-step : goal.returns-clause-step
returns-clause-step c = parts_are_the_step

pub returns-clause-any_reader : goal.returns-clause-any_reader
returns-clause-any_reader c = effect_meets

pub returns-clause-any_offer : goal.returns-clause-any_offer
returns-clause-any_offer c = effect_finishes

pub returns-clause-aligned : goal.returns-clause-aligned
returns-clause-aligned c = needed_aligned
