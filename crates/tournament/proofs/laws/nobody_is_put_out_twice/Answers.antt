use Rattle.tournament.proofs.safety.OutLemmas.{nobody-is-out-twice}
use Rattle.tournament.proofs.laws.nobody_is_put_out_twice.Goals as goal

pub returns : goal.returns
returns c = nobody-is-out-twice
