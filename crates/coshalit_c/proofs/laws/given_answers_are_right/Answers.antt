use Rattle.sha2.specs.Sha256.{sha256}
use Rattle.coshalit_c.proofs.GivenLemmas.{Below, right, answered}
use Rattle.coshalit_c.proofs.laws.given_answers_are_right.Goals as goal

pub returns-clause-right : goal.returns-clause-right
returns-clause-right c =
    let below : Below = record {
      playable = c.heads_are_playable.ensures.playable;
      short = c.heads_are_playable.ensures.short;
      right = c.open_matches_are_right.ensures;
      forms = c.true_answers_have_wire_forms.ensures;
      plain_true = c.plain_answers_are_true.ensures sha256;
      reading = c.reading_is_spelling.ensures.read;
      grows = c.outputs_grow_slowly.ensures;
      untouched = c.tampered_runs.ensures.plain;
      within = c.questions_are_within_the_bound.ensures.open_;
    } in
    right below

pub returns-clause-answered : goal.returns-clause-answered
returns-clause-answered c =
    let below : Below = record {
      playable = c.heads_are_playable.ensures.playable;
      short = c.heads_are_playable.ensures.short;
      right = c.open_matches_are_right.ensures;
      forms = c.true_answers_have_wire_forms.ensures;
      plain_true = c.plain_answers_are_true.ensures sha256;
      reading = c.reading_is_spelling.ensures.read;
      grows = c.outputs_grow_slowly.ensures;
      untouched = c.tampered_runs.ensures.plain;
      within = c.questions_are_within_the_bound.ensures.open_;
    } in
    answered below
