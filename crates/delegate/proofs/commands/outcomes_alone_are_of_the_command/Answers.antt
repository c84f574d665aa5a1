use Rattle.std.proofs.Common.{[]}
use Rattle.delegate.proofs.AloneLemmas.{own-alone}
use Rattle.delegate.proofs.commands.outcomes_alone_are_of_the_command.Goals as goal

pub returns : goal.returns
returns c = own-alone (c.plain_words.ensures.run []) (c.plain_words.ensures.audit []) (c.plain_words.ensures.list [])
