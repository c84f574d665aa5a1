-- To believe. The report of a match, and the line that answers with a run. Numbers are decimal, bytes are hexadecimal in lower case, and
-- each line ends with a line feed.
use Rattle.std.specs.Prelude.{ℕ, List, Bool, true, false, [], ◌∷◌, ◌++◌, Option, codes, decimal}
use Rattle.std.specs.Option.{option_map_or}
use Rattle.hex.specs.Hex.{encode_lower}
use Rattle.rd_base.specs.Status.{status_text}
use Rattle.rd_base.specs.declared.status.Status.{Status}
use Rattle.deposits.specs.declared.amounts.Balances.{Balances}
use Rattle.tournament.specs.declared.reading.Verdict.{Verdict}
use Rattle.tournament.specs.Bracket.{Record}
use Rattle.transcript_text.specs.Words.{word_text}
use Rattle.transcript_text.specs.Lines.{Said, Parted, Line, claim_line, out_line, stage_line, dispute_line, compared_line, round_line, kept_line, parts_line, step_line, balance_line, pool_line, accept_line, none_left_line, collision_line, lines_of_record, lines_of_balances, line_of_verdict}
use Rattle.digest_core.specs.Name.{digest_text}
use Rattle.transcript_text.specs.declared.text.Head.{Head}

-- a space and the bytes, if there are any
abbrev pub output_text : List ℕ → List ℕ
output_text [] = []
output_text (byte ∷ bytes) = codes " " ++ encode_lower (byte ∷ bytes)

-- a status and an output
abbrev pub answer_text : Status → List ℕ → List ℕ
answer_text status output = status_text status ++ codes " output" ++ output_text output

-- behind the first word of a text: how many play, and over how many steps
unfoldable pub played_text : List ℕ → Head → List ℕ
played_text word head = word ++ (codes " provers " ++ (decimal head.provers ++ (codes " bound " ++ decimal head.bound)))

unfoldable pub patience_text : Head → List ℕ
patience_text head = codes " patience " ++ decimal head.patience

-- how states are committed and intervals cut
unfoldable pub committed_text : Head → List ℕ
committed_text head = codes " version " ++ (decimal head.version ++ (codes " fan " ++ (decimal head.fan ++ (codes " digest " ++ digest_text head.digest))))

-- the first word of a text, and the numbers of its head
abbrev pub numbers_text : List ℕ → Head → List ℕ
numbers_text word head = played_text word head ++ (patience_text head ++ committed_text head)

abbrev pub head_line : Head → List ℕ
head_line head = numbers_text (codes "match") head ++ codes "\n"

-- the rest of a line that says something of both sides
abbrev pub said_text : Said → List ℕ
said_text said =
    codes " p" ++ (decimal said.first ++ (codes " " ++ (word_text said.of_first ++ (codes " p" ++ (decimal said.second ++ (codes " " ++ (word_text said.of_second ++ codes "\n")))))))

-- the rest of a line that compares two roots
abbrev pub compared_text : Bool → List ℕ
compared_text true = codes " same\n"
compared_text false = codes " differ\n"

-- where a round asks for a root
abbrev pub round_text : ℕ → ℕ → List ℕ
round_text number mid = codes "round " ++ (decimal number ++ (codes " at " ++ decimal mid))

-- which interval a round cuts, and in how many parts
abbrev pub parted_text : Parted → List ℕ
parted_text r = codes "round " ++ (decimal r.number ++ (codes " in " ++ (decimal r.lo ++ (codes " " ++ (decimal r.hi ++ (codes " by " ++ decimal r.parts))))))

-- the rest of a line that says which part is kept
abbrev pub kept_text : ℕ → List ℕ
kept_text part = codes " keep " ++ (decimal part ++ codes "\n")

abbrev pub line_text : Line → List ℕ
line_text (claim_line p status output) = codes "p" ++ (decimal p ++ (codes " claims " ++ (answer_text status output ++ codes "\n")))
line_text (out_line p word) = codes "out p" ++ (decimal p ++ (codes " " ++ (word_text word ++ codes "\n")))
line_text (stage_line stage) = codes "stage " ++ (decimal stage ++ codes "\n")
line_text (dispute_line number first second) = codes "dispute " ++ (decimal number ++ (codes " p" ++ (decimal first ++ (codes " p" ++ (decimal second ++ codes "\n")))))
line_text (compared_line number mid same) = round_text number mid ++ compared_text same
line_text (round_line number mid said) = round_text number mid ++ said_text said
line_text (kept_line r part) = parted_text r ++ kept_text part
line_text (parts_line r said) = parted_text r ++ said_text said
line_text (step_line lo said) = codes "step " ++ (decimal lo ++ said_text said)
line_text (balance_line p has) = codes "balance p" ++ (decimal p ++ (codes " " ++ (decimal has ++ codes "\n")))
line_text (pool_line has) = codes "pool " ++ (decimal has ++ codes "\n")
line_text (accept_line status output) = codes "accept " ++ (answer_text status output ++ codes "\n")
line_text none_left_line = codes "none left\n"
line_text (collision_line x y) = codes "collision " ++ (encode_lower x ++ (codes " " ++ (encode_lower y ++ codes "\n")))

abbrev pub text_if_there : Option Line → List ℕ
text_if_there line = option_map_or line_text line []

abbrev pub lines_text : List (Option Line) → List ℕ
lines_text [] = []
lines_text (l ∷ ls) = text_if_there l ++ lines_text ls

-- the report of a match; the balances are those of a match with deposits
abbrev pub report_text : Head → Record → Verdict → Option Balances → List ℕ
report_text head match_record verdict balances =
    head_line head
    ++ (lines_text (lines_of_record match_record)
    ++ (lines_text (lines_of_balances balances)
    ++ text_if_there (line_of_verdict match_record.claims verdict)))

-- the line that answers with the status and the output of a run
abbrev pub answer_line_text : Status → List ℕ → List ℕ
answer_line_text status output = codes "answer " ++ answer_text status output ++ codes "\n"
