use Rattle.checkpoint_run.proofs.RecordLemmas.{named_apart, named_either}
use Rattle.checkpoint_run.proofs.laws.pages_of_two_places.Goals as goal

pub returns : goal.returns
returns c pages page two = (named_apart pages two page, named_either pages two page)
