use Rattle.proof_wire.proofs.AnswerLemmas.{read_again, spelled}
use Rattle.proof_wire.proofs.laws.reading_is_spelling.Goals as goal

pub returns-clause-read : goal.returns-clause-read
returns-clause-read c = read_again

pub returns-clause-spelled : goal.returns-clause-spelled
returns-clause-spelled c = λ answer bytes are e. spelled bytes answer are e
