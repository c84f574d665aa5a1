use Rattle.transcript_text.proofs.read_back.BackLemmas.{stated-is-one-line}
use Rattle.transcript_text.proofs.read_back.ExactLemmas.{read-is-one-line}
use Rattle.transcript_text.proofs.laws.stated_verdicts_are_one_line.Goals as goal

pub returns : goal.returns
returns c = record { stated = stated-is-one-line; read = read-is-one-line c.reading_is_the_inverse_of_writing.ensures.exactly }
