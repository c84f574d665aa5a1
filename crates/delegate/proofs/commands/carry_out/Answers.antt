use Rattle.std.proofs.lemmas.Result.{IfOk-weaker}
use Rattle.delegate.proofs.CaseLemmas.{judge-in-range, big-in-range}
use Rattle.delegate.proofs.commands.carry_out.Goals as goal

pub returns-in-Judge-clause-in_range : goal.returns-in-Judge-clause-in_range
returns-in-Judge-clause-in_range g c = IfOk-weaker c.judge.result _ _ (λ response range. judge-in-range c.args.request.command c.in-Judge.text c.in-Judge.name c.args.bytes.items c.in-Judge.is range) c.judge.ensures.in_range

pub returns-in-Big-clause-in_range : goal.returns-in-Big-clause-in_range
returns-in-Big-clause-in_range g c =
    IfOk-weaker c.big.result _ _ (λ response range. big-in-range c.args.request.command c.in-Big.seed c.args.bytes.items c.in-Big.is (range c.args.bytes.items)) c.big.ensures.in_range
