use Rattle.delegate.proofs.PlainlyLemmas.{plainly}
use Rattle.delegate.proofs.laws.in_short_is_said_plainly.Goals as goal

pub returns : goal.returns
returns c = plainly c.plain_options_are_taken.ensures c.plain_words.ensures.run
