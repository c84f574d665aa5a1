-- To believe. The full text of a match: the line of its head, one line for each settled answer, and the line of the verdict. Numbers are
-- decimal, bytes hexadecimal in lower case, and each line ends with a line feed.
use Rattle.std.specs.Prelude.{ℕ, List, [], ◌∷◌, ◌++◌, codes, decimal}
use Rattle.hex.specs.Hex.{encode_lower}
use Rattle.rd_base.specs.declared.answer.Answer.{Answer}
use Rattle.bisect_game.specs.declared.settled.Settled.{Settled}
use Rattle.bisect_game.specs.declared.settled.Settled.TheVariants.{Given, Faulty, Spent}
use Rattle.proof_wire.specs.Wire.{wire_form}
use Rattle.tournament.specs.declared.reading.Verdict.{Verdict}
use Rattle.tournament.specs.Bracket.{Record}
use Rattle.transcript_text.specs.declared.text.Head.{Head}
use Rattle.transcript_text.specs.declared.text.TextMove.{TextMove}
use Rattle.transcript_text.specs.declared.text.FullText.{FullText}
use Rattle.transcript_text.specs.MoveLists.{moves_of}
use Rattle.transcript_text.specs.Lines.{line_of_verdict, line_of_stated}
use Rattle.transcript_text.specs.Report.{numbers_text, line_text, text_if_there}

-- the root of the start state
unfoldable pub start_text : Head → List ℕ
start_text head = codes " start " ++ encode_lower head.start.0

-- `refereed provers M bound N patience P version V fan F digest NAME start HEX`, without its line feed
abbrev pub refereed_text : Head → List ℕ
refereed_text head = numbers_text (codes "refereed") head ++ start_text head

-- an answer in its wire form
unfoldable pub wire_text : Answer → List ℕ
wire_text a = encode_lower (wire_form a).bytes

abbrev pub settled_text : Settled → List ℕ
settled_text (Given a) = codes "given " ++ wire_text a
settled_text (Faulty a) = codes "faulty " ++ wire_text a
settled_text Spent = codes "spent"

-- which question, and which prover
unfoldable pub asked_text : ℕ → ℕ → ℕ → List ℕ
asked_text dispute round prover = codes "move " ++ (decimal dispute ++ (codes " " ++ (decimal round ++ (codes " p" ++ (decimal prover ++ codes " ")))))

-- `move D R pI given HEX`, `move D R pI faulty HEX` or `move D R pI spent`, without its line feed
abbrev pub move_text : TextMove → List ℕ
move_text m = asked_text m.qid.dispute m.qid.round m.prover ++ settled_text m.settled

abbrev pub moves_text : List TextMove → List ℕ
moves_text [] = []
moves_text (m ∷ ms) = move_text m ++ (codes "\n" ++ moves_text ms)

-- the full text of a match
abbrev pub full_text : Head → Record → Verdict → List ℕ
full_text head match_record verdict = refereed_text head ++ (codes "\n" ++ (moves_text (moves_of match_record) ++ text_if_there (line_of_verdict match_record.claims verdict)))

-- the text with this head, these moves and this stated verdict
abbrev pub text_of : FullText → List ℕ
text_of text = refereed_text text.head ++ (codes "\n" ++ (moves_text text.moves ++ line_text (line_of_stated text.stated)))

-- an answer has a wire form
abbrev pub HasWireForm : Settled → Type 0
HasWireForm (Given a) = (wire_form a).fits
HasWireForm (Faulty a) = (wire_form a).fits
HasWireForm Spent = Unit {0}

-- each answer has
abbrev pub AreWritten : List TextMove → Type 0
AreWritten [] = Unit {0}
AreWritten (m ∷ ms) = HasWireForm m.settled × AreWritten ms
