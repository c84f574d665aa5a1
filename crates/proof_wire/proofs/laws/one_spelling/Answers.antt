use Rattle.std.proofs.Common.{sym, ◌∙◌}
use Rattle.proof_wire.proofs.AnswerLemmas.{one_answer}
use Rattle.proof_wire.proofs.laws.one_spelling.Goals as goal

pub returns-clause-bytes : goal.returns-clause-bytes
returns-clause-bytes c = λ answer first second spells again. spells.1 ∙ sym again.1

pub returns-clause-answer : goal.returns-clause-answer
returns-clause-answer c = one_answer
