use Rattle.std.proofs.Common.{arith, ap, ◌∙◌}
use Rattle.step_referee.specs.HeldParts.{held_in}
use Rattle.step_referee.proofs.CarryLemmas.{held_apart, digests_apart}
use Rattle.step_referee.proofs.check.carrying.carry_out.Goals as goal

pub returns-in_default-clause-held : goal.returns-in_default-clause-held
returns-in_default-clause-held g c =
    ap held_in c.applied-in_default.ensures ∙ held_apart g.C.Counted.digest_of c.args.operand.now (held_in c.args.parts) c.args.effect.now c.in_default.not-Store c.in_default.not-Put

pub returns-in_default-clause-steps : goal.returns-in_default-clause-steps
returns-in_default-clause-steps g c =
    let none = digests_apart c.args.operand.now c.args.effect.now c.in_default.not-Store c.in_default.not-Put in omega (arith, none)
