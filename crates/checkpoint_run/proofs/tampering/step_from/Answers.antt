use Rattle.std.proofs.Common.{ap, ◌∙◌}
use Rattle.rv_step.specs.State.{state_of}
use Rattle.checkpoint_run.proofs.tampering.step_from.Goals as goal

pub returns-2-clause-adds : goal.returns-2-clause-adds
returns-2-clause-adds g c =
    let e = c.output_only_grows.ensures (state_of c.args.machine.now) in
    (e.0, ap (λ s. s.output) c.in_ok-page.ensures.ok ∙ e.1)
