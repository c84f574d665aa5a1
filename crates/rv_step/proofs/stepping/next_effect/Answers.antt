use Rattle.std.proofs.Common.{Some, sym, ap, ◌∙◌}
use Rattle.rv_step.proofs.StepLemmas.{next-fetched}
use Rattle.rv_step.proofs.stepping.next_effect.Goals as goal

pub returns-in-Some-clause-value : goal.returns-in-Some-clause-value
returns-in-Some-clause-value g c =
    ap Some c.effect_by.ensures.value ∙ next-fetched (g.A.StateAccess.seen c.args.state.now) c.in-Some.instr (sym c.in-Some.ensures)
