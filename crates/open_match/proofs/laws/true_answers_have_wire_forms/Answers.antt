use Rattle.open_match.proofs.SpelledLemmas.{spelled}
use Rattle.open_match.proofs.laws.true_answers_have_wire_forms.Goals as goal

pub returns : goal.returns
returns g c = spelled g.D.Digester.digest_of g.met.D.Digester.is_digest g.met.D.Digester.is_bytes c.steps_keep_valid_states.ensures
