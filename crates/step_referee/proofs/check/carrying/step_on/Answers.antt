use Rattle.std.proofs.Common.{arith, ap, ◌∙◌}
use Rattle.open_proof.specs.Facts.{held_with}
use Rattle.open_proof.specs.Next.{held_by}
use Rattle.step_referee.specs.Ticks.{digests_by}
use Rattle.step_referee.proofs.check.carrying.step_on.Goals as goal

pub returns-in-Some-clause-held : goal.returns-in-Some-clause-held
returns-in-Some-clause-held g c =
    let facts = c.args.state.now.facts.now in
    c.carry_out.ensures.held ∙ ap (held_by g.C.Counted.digest_of facts.operand (held_with facts c.args.state.now.regs)) c.in-Some.ensures.value

pub returns-in-None-clause-held : goal.returns-in-None-clause-held
returns-in-None-clause-held g c =
    let facts = c.args.state.now.facts.now in
    ap (held_by g.C.Counted.digest_of facts.operand (held_with facts c.args.state.now.regs)) c.in-None.ensures.value

pub returns-in-Some-clause-steps : goal.returns-in-Some-clause-steps
returns-in-Some-clause-steps g c =
    let same = ap (digests_by c.args.state.now.facts.now.operand) c.in-Some.ensures.value in
    omega (arith, c.carry_out.ensures.steps, c.tick.ensures, same)

pub returns-in-None-clause-steps : goal.returns-in-None-clause-steps
returns-in-None-clause-steps g c =
    let same = ap (digests_by c.args.state.now.facts.now.operand) c.in-None.ensures.value in
    omega (arith, c.tick.ensures, same)
