-- To believe. What a report calls the answers of a prover, and which of these words speak against it.
use Rattle.std.specs.Prelude.{ℕ, List, Bool, true, false, codes, if◌then◌else◌}
use Rattle.bisect_game.specs.declared.settled.Settled.{Settled}
use Rattle.bisect_game.specs.declared.settled.Settled.TheVariants as settled
use Rattle.transcript_text.specs.declared.disputes.Word.{Word}
use Rattle.transcript_text.specs.declared.disputes.Word.TheVariants.{Given, Faulty, Spent, Proved, Refuted}

abbrev pub word_text : Word → List ℕ
word_text Given = codes "given"
word_text Faulty = codes "faulty"
word_text Spent = codes "spent"
word_text Proved = codes "proved"
word_text Refuted = codes "refuted"

-- of an answer to a question for a root
abbrev pub said_word : Settled → Word
said_word (settled.Given a) = Given
said_word (settled.Faulty a) = Faulty
said_word settled.Spent = Spent

-- of an answer to a question for a proof, of a side that is out or not
abbrev pub said_word_of_proof : Bool → Settled → Word
said_word_of_proof out (settled.Given a) = if out then Refuted else Proved
said_word_of_proof out s = said_word s

-- the words faulty, spent and refuted
abbrev pub speaks_against : Word → Bool
speaks_against Given = false
speaks_against Faulty = true
speaks_against Spent = true
speaks_against Proved = false
speaks_against Refuted = true
