-- No fault of a text is that memory ran out.
use Rattle.std.proofs.Common.{◌≡◌, ◌≢◌, ℕ, ◌+◌, List, [], ◌∷◌, ◌++◌, length, Bool, true, false, Result, Ok, Err, ap}
use Rattle.std.specs.Prelude.{◌==◌, if◌then◌else◌}
use Rattle.rd_base.specs.Results.{◌>>=◌}
use Rattle.transcript_text.specs.declared.text.Head.{Head}
use Rattle.transcript_text.specs.declared.text.TextMove.{TextMove}
use Rattle.transcript_text.specs.declared.text.Stated.{Stated}
use Rattle.transcript_text.specs.declared.reader.entries.Entry.{Entry}
use Rattle.transcript_text.specs.declared.reader.entries.Entry.TheVariants.{Move, Verdict}
use Rattle.transcript_text.specs.declared.reader.entries.HeadNumbers.{HeadNumbers}
use Rattle.transcript_text.specs.declared.reader.fault.LineFault.{LineFault}
use Rattle.transcript_text.specs.declared.reader.fault.TextFault.{TextFault}
use Rattle.transcript_text.specs.declared.reader.fault.TextFault.TheVariants.{BadHead, BadLine, Truncated, OutOfRange, Memory}
use Rattle.transcript_text.specs.reader.Entries.{head_in, entry_in}
use Rattle.transcript_text.specs.Limits.{numbers_are_in_limits}
use Rattle.transcript_text.specs.reader.ReadText.{head_of_numbers, head_with, Later, is_prover, after_verdict, line_read, later, rest_with, text_in_lines, read_text}
use Rattle.transcript_text.specs.reader.TextLines.{Lines, tail, line, lines_of}

-- a reading that doesn't end as out of memory
abbrev pub IsFree : {A : Type 0} → Result A TextFault → Type 0
IsFree r = ¬ (r ≡ Err Memory)

then-free : {A B : Type 0} (r : Result A TextFault) (f : A → Result B TextFault) → IsFree r → ((x : A) → IsFree (f x)) → IsFree (r >>= f)
then-free (Ok x) f free further = further x
then-free (Err e) f free further = λ is. free (ap Err (cc is))

ok-free : {A : Type 0} (x : A) → IsFree (Ok x)
ok-free x = λ is. absurd (cc is)

err-free : {A : Type 0} (e : TextFault) → e ≢ Memory → IsFree {A = A} (Err e)
err-free e other = λ is. other (cc is)

if-free : {A : Type 0} (b : Bool) (r s : Result A TextFault) → IsFree r → IsFree s → IsFree (if b then r else s)
if-free true r s one other = one
if-free false r s one other = other

head-free : (r : Result HeadNumbers LineFault) → IsFree (head_with r)
head-free (Err e) = err-free BadHead (λ is. cc is)
head-free (Ok h) = if-free (numbers_are_in_limits (head_of_numbers h)) (Ok (head_of_numbers h)) (Err (OutOfRange 1)) (ok-free (head_of_numbers h)) (err-free (OutOfRange 1) (λ is. cc is))

ended-free : (n : ℕ) (moves : List TextMove) (s : Stated) (ls : Lines) → IsFree (after_verdict n moves s ls)
ended-free n moves s (tail t) = if-free (length t == 0) (Ok (moves, s)) (Err Truncated) (ok-free (moves, s)) (err-free Truncated (λ is. cc is))
ended-free n moves s (line l ls) = err-free (BadLine (n + 1)) (λ is. cc is)

line-free : (provers n : ℕ) (moves : List TextMove) (ls : Lines) (further : TextMove → Later) (r : Result Entry LineFault) →
    ((x : TextMove) → IsFree (further x)) → IsFree (line_read provers n moves ls further r)
line-free provers n moves ls further (Err e) free = err-free (BadLine n) (λ is. cc is)
line-free provers n moves ls further (Ok (Move x)) free = if-free (is_prover provers x.prover) (further x) (Err (OutOfRange n)) (free x) (err-free (OutOfRange n) (λ is. cc is))
line-free provers n moves ls further (Ok (Verdict s)) free = ended-free n moves s ls

later-free : (provers n : ℕ) (moves : List TextMove) (ls : Lines) → IsFree (later provers n moves ls)
later-free provers n moves (tail t) = err-free Truncated (λ is. cc is)
later-free provers n moves (line l ls) =
    line-free provers n moves ls (λ x. later provers (n + 1) (moves ++ x ∷ []) ls) (entry_in l) (λ x. later-free provers (n + 1) (moves ++ x ∷ []) ls)

rest-free : (head : Head) (ls : Lines) → IsFree (rest_with head ls)
rest-free head ls = then-free (later head.provers 2 [] ls) _ (later-free head.provers 2 [] ls) (λ x. ok-free _)

text-free : (ls : Lines) → IsFree (text_in_lines ls)
text-free (tail t) = err-free Truncated (λ is. cc is)
text-free (line l ls) = then-free (head_with (head_in l)) (λ h. rest_with h ls) (head-free (head_in l)) (λ h. rest-free h ls)

pub no_fault_is_memory : (bytes : List ℕ) → IsFree (read_text bytes)
unfolding read_text
no_fault_is_memory bytes = text-free (lines_of bytes)
