use Rattle.std.proofs.lemmas.Result.{IfOk-weaker}
use Rattle.delegate.proofs.commands.answer_alone.Goals as goal

pub returns-clause-own : goal.returns-clause-own
returns-clause-own c =
    IfOk-weaker c.respond_alone.result _ _ (λ response is. c.outcomes_alone_are_of_the_command.ensures c.args.command c.args.bytes.now response is) c.respond_alone.ensures
