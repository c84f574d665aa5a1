use Rattle.audit.proofs.TrueLemmas as lemmas
use Rattle.audit.proofs.laws.a_confirmed_text_is_right.Goals as goal

pub returns : goal.returns
returns c = lemmas.confirmed_text_is_right (record {
  of_case = c.one_record_of_a_case.ensures;
  right = c.the_verdict_is_right.ensures;
  moves = c.true_moves_are_true_answers.ensures.answers;
  asked_ = c.a_number_names_one_question.ensures;
})
