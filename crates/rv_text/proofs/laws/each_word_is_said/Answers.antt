use Rattle.std.proofs.Common.{refl}
use Rattle.rv_decode.specs.Word.{word_of}
use Rattle.rv_text.specs.Spelling.{spelling_of}
use Rattle.rv_text.specs.Meaning.{of_instruction}
use Rattle.rv_text.proofs.meaning.MeaningLemmas.{statement-stands, written-word}
use Rattle.rv_text.proofs.laws.each_word_is_said.Goals as goal

pub returns-clause-word : goal.returns-clause-word
returns-clause-word c = statement-stands c.one_reading.ensures.each_has_a_word

pub returns-clause-instruction : goal.returns-clause-instruction
returns-clause-instruction c = λ d text i is. written-word c.one_reading.ensures.each_has_a_word d text (spelling_of i) (word_of i) is (of_instruction i refl refl)

pub returns-clause-reading : goal.returns-clause-reading
returns-clause-reading c = λ i. (c.one_reading.ensures.reading (word_of i) (c.one_reading.ensures.each_has_a_word i) i).1 refl
