use Rattle.rv_text.proofs.meaning.TextLemmas.{text-assembled, text-fault}
use Rattle.rv_text.proofs.laws.texts_have_words_or_a_fault.Goals as goal

pub returns-clause-words : goal.returns-clause-words
returns-clause-words c = text-assembled c.one_reading.ensures.each_has_a_word

pub returns-clause-fault : goal.returns-clause-fault
returns-clause-fault c = text-fault
