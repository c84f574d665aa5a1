use Rattle.open_proof.specs.Conditions.{LeadsFrom, FirstFails, conditions}
use Rattle.open_proof.specs.Conditions.Refusal.{opening, shape}
use Rattle.open_proof.specs.Facts.{facts_of}
use Rattle.sha2.specs.Sha256.{sha256}
use Rattle.step_referee.specs.declared.check.StepCheck.TheVariants.{Leads, NotOpen, WrongShape}
use Rattle.coshalit_c.proofs.StepLemmas.{of-bytes, spelled, of-none, unspelled}
use Rattle.coshalit_c.proofs.step.check_wire.Goals as goal

pub returns-in-Ok-clause-leads : goal.returns-in-Ok-clause-leads
returns-in-Ok-clause-leads c = λ b. of-bytes c.args.wire.now c.in-Ok.proof c.checked.result (Leads b)
    (λ proof. LeadsFrom sha256 c.args.version c.args.from (facts_of proof) b) c.in-Ok.ensures.found c.in-Ok.ensures.only (c.checked.ensures.leads b)

pub returns-in-Ok-clause-not_open : goal.returns-in-Ok-clause-not_open
returns-in-Ok-clause-not_open c = of-bytes c.args.wire.now c.in-Ok.proof c.checked.result NotOpen
    (λ proof. FirstFails opening (conditions sha256 c.args.version c.args.from (facts_of proof))) c.in-Ok.ensures.found c.in-Ok.ensures.only c.checked.ensures.not_open

pub returns-in-Ok-clause-wrong_shape : goal.returns-in-Ok-clause-wrong_shape
returns-in-Ok-clause-wrong_shape c = of-bytes c.args.wire.now c.in-Ok.proof c.checked.result WrongShape
    (λ proof. FirstFails shape (conditions sha256 c.args.version c.args.from (facts_of proof))) c.in-Ok.ensures.found c.in-Ok.ensures.only c.checked.ensures.wrong_shape

pub returns-in-Ok-clause-no_proof : goal.returns-in-Ok-clause-no_proof
returns-in-Ok-clause-no_proof c = spelled c.args.wire.now c.in-Ok.proof c.checked.result c.in-Ok.ensures.found

pub returns-in-Err-clause-leads : goal.returns-in-Err-clause-leads
returns-in-Err-clause-leads c = λ b. of-none c.args.wire.now c.in-Err.field-0 (Leads b)
    (λ proof. LeadsFrom sha256 c.args.version c.args.from (facts_of proof) b) c.in-Err.ensures.only

pub returns-in-Err-clause-not_open : goal.returns-in-Err-clause-not_open
returns-in-Err-clause-not_open c = of-none c.args.wire.now c.in-Err.field-0 NotOpen
    (λ proof. FirstFails opening (conditions sha256 c.args.version c.args.from (facts_of proof))) c.in-Err.ensures.only

pub returns-in-Err-clause-wrong_shape : goal.returns-in-Err-clause-wrong_shape
returns-in-Err-clause-wrong_shape c = of-none c.args.wire.now c.in-Err.field-0 WrongShape
    (λ proof. FirstFails shape (conditions sha256 c.args.version c.args.from (facts_of proof))) c.in-Err.ensures.only

pub returns-in-Err-clause-no_proof : goal.returns-in-Err-clause-no_proof
returns-in-Err-clause-no_proof c = unspelled c.args.wire.now c.in-Err.field-0 c.in-Err.ensures.only
