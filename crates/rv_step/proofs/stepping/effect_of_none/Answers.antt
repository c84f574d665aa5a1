use Rattle.std.proofs.Common.{◌≡◌, ◌≢◌, ◌%◌, sym, ap, subst, ◌∙◌}
use Rattle.rd_base.specs.Status.{is_running}
use Rattle.rv_step.proofs.StepLemmas.{next-stopped, next-misaligned, next-illegal}
use Rattle.rv_step.proofs.stepping.effect_of_none.Goals as goal

pub returns-then-not-is_running-clause-value : goal.returns-then-not-is_running-clause-value
returns-then-not-is_running-clause-value g c =
    next-stopped (g.A.StateAccess.seen c.args.state.now) (ap is_running (sym c.status.ensures) ∙ sym c.if-not-is_running.ensures)

pub returns-then-pc-ne0-clause-value : goal.returns-then-pc-ne0-clause-value
returns-then-pc-ne0-clause-value g c =
    next-misaligned (g.A.StateAccess.seen c.args.state.now) (ap is_running (sym c.status.ensures) ∙ sym c.if-not-is_running.ensures) (subst (λ pc. pc % 4 ≢ 0) c.pc.ensures c.if-pc-ne0.true)

pub returns-clause-value : goal.returns-clause-value
returns-clause-value g c =
    next-illegal (g.A.StateAccess.seen c.args.state.now) (ap is_running (sym c.status.ensures) ∙ sym c.if-not-is_running.ensures) (subst (λ pc. pc % 4 ≡ 0) c.pc.ensures c.if-pc-ne0.false) c.requires
