-- To believe for its faults: the lines of a full text in their order, and the first fault. What is read is derived, and tied to the text's
-- grammar by the law `reading_is_the_inverse_of_writing`.
use Rattle.std.specs.Prelude.{ℕ, ◌+◌, nat_le, Bool, ◌&&◌, ◌==◌, List, [], ◌∷◌, ◌++◌, length, Result, Ok, Err, if◌then◌else◌}
use Rattle.rd_base.specs.Results.{◌>>=◌}
use Rattle.transcript_text.specs.declared.text.Head.{Head}
use Rattle.transcript_text.specs.declared.text.TextMove.{TextMove}
use Rattle.transcript_text.specs.declared.text.Stated.{Stated}
use Rattle.transcript_text.specs.declared.text.FullText.{FullText}
use Rattle.transcript_text.specs.Limits.{numbers_are_in_limits}
use Rattle.transcript_text.specs.declared.reader.fault.TextFault.{TextFault}
use Rattle.transcript_text.specs.declared.reader.fault.TextFault.TheVariants.{BadHead, BadLine, Truncated, OutOfRange}
use Rattle.transcript_text.specs.declared.reader.fault.LineFault.{LineFault}
use Rattle.transcript_text.specs.declared.reader.entries.Entry.{Entry}
use Rattle.transcript_text.specs.declared.reader.entries.Entry.TheVariants.{Move, Verdict}
use Rattle.transcript_text.specs.declared.reader.entries.HeadNumbers.{HeadNumbers}
use Rattle.transcript_text.specs.reader.TextLines.{Lines, tail, line, lines_of}
use Rattle.transcript_text.specs.reader.Entries.{head_in, entry_in}

-- LINE 1 has the form of a head, and then each of its numbers is within its limit

abbrev pub head_of_numbers : HeadNumbers → Head
head_of_numbers h = record { provers = h.provers; bound = h.bound; patience = h.patience; version = h.version; fan = h.fan; digest = h.digest; start = h.start }

abbrev pub head_with : Result HeadNumbers LineFault → Result Head TextFault
head_with (Err e) = Err BadHead
head_with (Ok h) = if numbers_are_in_limits (head_of_numbers h) then Ok (head_of_numbers h) else Err (OutOfRange 1)

-- LATER LINES, of this many provers: moves, and then the verdict, with whose line feed the text ends. What was read, or the first fault.

abbrev pub Later : Type 0
Later = Result (List TextMove × Stated) TextFault

-- whether a number is that of one of `provers` provers
abbrev pub is_prover : ℕ → ℕ → Bool
is_prover provers p = nat_le 1 p && nat_le p provers

-- behind the verdict's line, which has the number n, after these moves: another line is one too many, and a piece of one is cut off
abbrev pub after_verdict : ℕ → List TextMove → Stated → Lines → Later
after_verdict n moves s (tail t) = if length t == 0 then Ok (moves, s) else Err Truncated
after_verdict n moves s (line l ls) = Err (BadLine (n + 1))

-- line n, by its form: no form is a fault, and then a number that is no prover's; a move goes further, a verdict ends the text
abbrev pub line_read : ℕ → ℕ → List TextMove → Lines → (TextMove → Later) → Result Entry LineFault → Later
line_read provers n moves ls further (Err e) = Err (BadLine n)
line_read provers n moves ls further (Ok (Move x)) = if is_prover provers x.prover then further x else Err (OutOfRange n)
line_read provers n moves ls further (Ok (Verdict s)) = after_verdict n moves s ls

-- line n and those behind it, after these moves; a line without its line feed is cut off, whatever its form
abbrev pub later : ℕ → ℕ → List TextMove → Lines → Later
later provers n moves (tail t) = Err Truncated
later provers n moves (line l ls) = line_read provers n moves ls (λ x. later provers (n + 1) (moves ++ x ∷ []) ls) (entry_in l)

abbrev pub rest_with : Head → Lines → Result FullText TextFault
rest_with head ls = later head.provers 2 [] ls >>= (λ x. Ok (record { head = head; moves = x.0; stated = x.1 }))

-- THE WHOLE TEXT

abbrev pub text_in_lines : Lines → Result FullText TextFault
text_in_lines (tail t) = Err Truncated
text_in_lines (line l ls) = head_with (head_in l) >>= (λ h. rest_with h ls)

unfoldable pub read_text : List ℕ → Result FullText TextFault
read_text bytes = text_in_lines (lines_of bytes)
