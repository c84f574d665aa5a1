use Rattle.rv_text.proofs.meaning.LabelLemmas.{places}
use Rattle.rv_text.proofs.laws.labels_stand_for_places.Goals as goal

pub returns : goal.returns
returns c = places
