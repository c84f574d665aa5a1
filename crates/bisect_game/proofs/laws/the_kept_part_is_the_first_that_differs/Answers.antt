use Rattle.bisect_game.proofs.KeptPartLemmas.{kept-part-is-first-that-differs}
use Rattle.bisect_game.proofs.laws.the_kept_part_is_the_first_that_differs.Goals as goal

pub returns : goal.returns
returns c = kept-part-is-first-that-differs
