use Rattle.std.proofs.Common.{sym, ap, ◌∙◌}
use Rattle.step_referee.specs.MachineRuling.{root_led}
use Rattle.step_referee.proofs.LeadLemmas.{led-by}
use Rattle.step_referee.proofs.judge.MachineJudgeJudge.leads.Goals as goal

pub returns-in-Leads : goal.returns-in-Leads
returns-in-Leads g c =
    sym (ap root_led c.in-Leads.is)
    ∙ led-by g.D.Digester.digest_of (c.leading_is_decided.ensures g.D.Digester.digest_of) c.args.self.now.version c.args.from c.args.proof.now c.checked.result c.proofs_are_in_range.ensures c.checked.ensures

pub returns-in-NotOpen : goal.returns-in-NotOpen
returns-in-NotOpen g c =
    sym (ap root_led c.in-NotOpen.is)
    ∙ led-by g.D.Digester.digest_of (c.leading_is_decided.ensures g.D.Digester.digest_of) c.args.self.now.version c.args.from c.args.proof.now c.checked.result c.proofs_are_in_range.ensures c.checked.ensures

pub returns-in-WrongShape : goal.returns-in-WrongShape
returns-in-WrongShape g c =
    sym (ap root_led c.in-WrongShape.is)
    ∙ led-by g.D.Digester.digest_of (c.leading_is_decided.ensures g.D.Digester.digest_of) c.args.self.now.version c.args.from c.args.proof.now c.checked.result c.proofs_are_in_range.ensures c.checked.ensures
