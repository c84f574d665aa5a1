-- No line of a report or of a full text begins with `task `: a scan of a text meets no line feed that is followed by `t`.
use Rattle.std.proofs.Common.{◌≡◌, ◌≢◌, ℕ, zero, suc, ◌<◌, ◌+◌, ◌/◌, ◌%◌, ◌==◌, ◌&&◌, List, [], ◌∷◌, ◌++◌, Bool, true, false, Option, Some, None, cond, codes, decimal, refl, sym, ap, subst, ◌∙◌, arith, append_assoc}
use Rattle.std.proofs.lemmas.Bool.Decides.{nat_tests}
use Rattle.std.specs.Prelude.{if◌then◌else◌, nat_lt, slice_index}
use Rattle.std.specs.Fmt.{digits, digits_onto, digit_glyph}
use Rattle.std.proofs.lemmas.List.{append-nil}
use Rattle.hex.specs.Hex.{encode_lower, encode_with, lower_digits}
use Rattle.rd_base.specs.Status.{status_text}
use Rattle.rd_base.specs.declared.status.Status.{Status}
use Rattle.rd_base.specs.declared.status.Status.TheVariants.{Running, Exited, Trapped}
use Rattle.digest_core.specs.Name.{digest_text}
use Rattle.digest_core.specs.declared.name.DigestName.{DigestName}
use Rattle.digest_core.specs.declared.name.DigestName.TheVariants.{Sha256, Weak8}
use Rattle.bisect_game.specs.declared.settled.Settled.{Settled}
use Rattle.bisect_game.specs.declared.settled.Settled.TheVariants as settled
use Rattle.tournament.specs.declared.reading.Verdict.{Verdict}
use Rattle.tournament.specs.Bracket.{Record}
use Rattle.deposits.specs.declared.amounts.Balances.{Balances}
use Rattle.transcript_text.specs.declared.disputes.Word.{Word}
use Rattle.transcript_text.specs.declared.disputes.Word.TheVariants.{Given, Faulty, Spent, Proved, Refuted}
use Rattle.transcript_text.specs.declared.text.Head.{Head}
use Rattle.transcript_text.specs.declared.text.TextMove.{TextMove}
use Rattle.transcript_text.specs.MoveLists.{moves_of}
use Rattle.transcript_text.specs.Words.{word_text}
use Rattle.transcript_text.specs.Lines.{Said, Parted, Line, claim_line, out_line, stage_line, dispute_line, compared_line, round_line, kept_line, parts_line, step_line, balance_line, pool_line, accept_line, none_left_line, collision_line, lines_of_record, lines_of_balances, line_of_verdict}
use Rattle.transcript_text.specs.Report.{output_text, answer_text, played_text, patience_text, committed_text, numbers_text, head_line, said_text, round_text, parted_text, line_text, text_if_there, lines_text, report_text}
use Rattle.transcript_text.specs.FullLines.{start_text, refereed_text, wire_text, settled_text, asked_text, move_text, moves_text, full_text}
use Rattle.transcript_text.specs.TaskParts.{IsTaskPart, TextsAreTaskParts}

-- A SCAN: whether it stands at the start of a line, or nothing if a line began with `t`

abbrev scan : Bool → List ℕ → Option Bool
scan at_start [] = Some at_start
scan at_start (x ∷ xs) = if at_start && (x == 116) then None else scan (x == 10) xs

-- bytes inside a line, the rest of a line with its line feed, and whole lines

abbrev Inside : List ℕ → Type 0
Inside xs = (ys : List ℕ) → scan false (xs ++ ys) ≡ scan false ys

abbrev IsRest : List ℕ → Type 0
IsRest xs = (ys : List ℕ) → scan false (xs ++ ys) ≡ scan true ys

abbrev AreWhole : List ℕ → Type 0
AreWhole xs = (ys : List ℕ) → scan true (xs ++ ys) ≡ scan true ys

inside : (xs ys : List ℕ) → Inside xs → Inside ys → Inside (xs ++ ys)
inside xs ys a b zs = ap (scan false) (append_assoc xs ys zs) ∙ (a (ys ++ zs) ∙ b zs)

rest : (xs ys : List ℕ) → Inside xs → IsRest ys → IsRest (xs ++ ys)
rest xs ys a b zs = ap (scan false) (append_assoc xs ys zs) ∙ (a (ys ++ zs) ∙ b zs)

whole : (xs ys : List ℕ) → AreWhole xs → AreWhole ys → AreWhole (xs ++ ys)
whole xs ys a b zs = ap (scan true) (append_assoc xs ys zs) ∙ (a (ys ++ zs) ∙ b zs)

feed : IsRest (codes "\n")
feed zs = refl

-- BYTES WITHOUT A LINE FEED

abbrev Without : List ℕ → Type 0
Without [] = Unit {0}
Without (x ∷ xs) = ((x == 10) ≡ false) × Without xs

within : (xs : List ℕ) → Without xs → Inside xs
within [] w ys = refl
within (x ∷ xs) w ys = rw (w.0) (within xs w.1 ys)

glyph : (d : ℕ) → d < 10 → (digit_glyph false d == 10) ≡ false
glyph d lt = let few : nat_lt d 10 ≡ true = grind (arith, nat_tests) in rw few (grind (arith, nat_tests))

digits-onto : (k n : ℕ) (acc : List ℕ) → Without acc → Without (digits_onto k 10 false n acc)
digits-onto zero n acc w = w
digits-onto (suc k) n acc w =
    let one = glyph (n % 10) (omega arith) in
    elim (n / 10 == 0) as (λ b. Without (cond b (digit_glyph false (n % 10) ∷ acc) (digits_onto k 10 false (n / 10) (digit_glyph false (n % 10) ∷ acc)))) [
      | true ↦ (one, w)
      | false ↦ digits-onto k (n / 10) (digit_glyph false (n % 10) ∷ acc) (one, w)
    ]

number : (n : ℕ) → Inside (decimal n)
unfolding digits
number n = within (decimal n) (digits-onto 64 n [] tt)

at-digit : (xs : List ℕ) (i : ℕ) → Without xs → (slice_index xs i == 10) ≡ false
at-digit [] i w = refl
at-digit (x ∷ xs) zero w = w.0
at-digit (x ∷ xs) (suc i) w = at-digit xs i w.1

hex-digits : Without lower_digits
hex-digits = (refl, (refl, (refl, (refl, (refl, (refl, (refl, (refl, (refl, (refl, (refl, (refl, (refl, (refl, (refl, (refl, tt))))))))))))))))

encoded : (xs : List ℕ) → Without (encode_lower xs)
unfolding encode_with
encoded [] = tt
encoded (x ∷ xs) = (at-digit lower_digits (x / 16) hex-digits, (at-digit lower_digits (x % 16) hex-digits, encoded xs))

hex : (xs : List ℕ) → Inside (encode_lower xs)
hex xs = within (encode_lower xs) (encoded xs)

status : (s : Status) → Inside (status_text s)
status Running = λ ys. refl
status (Exited code) = inside (codes "exited ") (decimal code) (λ ys. refl) (number code)
status (Trapped code) = inside (codes "trapped ") (decimal code) (λ ys. refl) (number code)

output : (bytes : List ℕ) → Inside (output_text bytes)
output [] = λ ys. refl
output (byte ∷ bytes) = inside (codes " ") (encode_lower (byte ∷ bytes)) (λ ys. refl) (hex (byte ∷ bytes))

answered : (s : Status) (bytes : List ℕ) → Inside (answer_text s bytes)
answered s bytes = inside (status_text s ++ codes " output") (output_text bytes) (inside (status_text s) (codes " output") (status s) (λ ys. refl)) (output bytes)

word : (w : Word) → Inside (word_text w)
word Given = λ ys. refl
word Faulty = λ ys. refl
word Spent = λ ys. refl
word Proved = λ ys. refl
word Refuted = λ ys. refl

digest : (d : DigestName) → Inside (digest_text d)
digest Sha256 = λ ys. refl
digest Weak8 = λ ys. refl

counted : (letters : List ℕ) (n : ℕ) (xs : List ℕ) → Inside letters → Inside xs → Inside (letters ++ (decimal n ++ xs))
counted letters n xs l r = inside letters (decimal n ++ xs) l (inside (decimal n) xs (number n) r)

-- A number behind some letters, a word behind some, and the rest of the line

numbered : (letters : List ℕ) (n : ℕ) (xs : List ℕ) → Inside letters → IsRest xs → IsRest (letters ++ (decimal n ++ xs))
numbered letters n xs l r = rest letters (decimal n ++ xs) l (rest (decimal n) xs (number n) r)

worded : (letters : List ℕ) (w : Word) (xs : List ℕ) → Inside letters → IsRest xs → IsRest (letters ++ (word_text w ++ xs))
worded letters w xs l r = rest letters (word_text w ++ xs) l (rest (word_text w) xs (word w) r)

said-rest : (said : Said) → IsRest (said_text said)
said-rest said =
    let last = worded (codes " ") said.of_second (codes "\n") (λ ys. refl) feed in
    let second = numbered (codes " p") said.second (codes " " ++ (word_text said.of_second ++ codes "\n")) (λ ys. refl) last in
    let more = codes " p" ++ (decimal said.second ++ (codes " " ++ (word_text said.of_second ++ codes "\n"))) in
    numbered (codes " p") said.first (codes " " ++ (word_text said.of_first ++ more)) (λ ys. refl) (worded (codes " ") said.of_first more (λ ys. refl) second)

-- what stands behind the first letters of a line, which are no `t`

round-behind : (n mid : ℕ) (xs : List ℕ) → IsRest xs → IsRest ((decimal n ++ (codes " at " ++ decimal mid)) ++ xs)
round-behind n mid xs r =
    rest (decimal n ++ (codes " at " ++ decimal mid)) xs
    (inside (decimal n) (codes " at " ++ decimal mid) (number n) (inside (codes " at ") (decimal mid) (λ ys. refl) (number mid))) r

parted-behind : (p : Parted) (xs : List ℕ) → IsRest xs → IsRest ((decimal p.number ++ (codes " in " ++ (decimal p.lo ++ (codes " " ++ (decimal p.hi ++ (codes " by " ++ decimal p.parts)))))) ++ xs)
parted-behind p xs r =
    rest (decimal p.number ++ (codes " in " ++ (decimal p.lo ++ (codes " " ++ (decimal p.hi ++ (codes " by " ++ decimal p.parts)))))) xs
    (counted [] p.number (codes " in " ++ (decimal p.lo ++ (codes " " ++ (decimal p.hi ++ (codes " by " ++ decimal p.parts))))) (λ ys. refl)
    (counted (codes " in ") p.lo (codes " " ++ (decimal p.hi ++ (codes " by " ++ decimal p.parts))) (λ ys. refl)
    (counted (codes " ") p.hi (codes " by " ++ decimal p.parts) (λ ys. refl) (inside (codes " by ") (decimal p.parts) (λ ys. refl) (number p.parts))))) r

line : (l : Line) → AreWhole (line_text l)
line (claim_line p s bytes) = λ ys.
    numbered [] p (codes " claims " ++ (answer_text s bytes ++ codes "\n")) (λ zs. refl)
    (rest (codes " claims ") (answer_text s bytes ++ codes "\n") (λ zs. refl) (rest (answer_text s bytes) (codes "\n") (answered s bytes) feed)) ys
line (out_line p w) = λ ys. numbered [] p (codes " " ++ (word_text w ++ codes "\n")) (λ zs. refl) (worded (codes " ") w (codes "\n") (λ zs. refl) feed) ys
line (stage_line stage) = λ ys. numbered [] stage (codes "\n") (λ zs. refl) feed ys
line (dispute_line n first second) = λ ys.
    numbered [] n (codes " p" ++ (decimal first ++ (codes " p" ++ (decimal second ++ codes "\n")))) (λ zs. refl)
    (numbered (codes " p") first (codes " p" ++ (decimal second ++ codes "\n")) (λ zs. refl) (numbered (codes " p") second (codes "\n") (λ zs. refl) feed)) ys
line (compared_line n mid true) = λ ys. round-behind n mid (codes " same\n") (λ zs. refl) ys
line (compared_line n mid false) = λ ys. round-behind n mid (codes " differ\n") (λ zs. refl) ys
line (round_line n mid said) = λ ys. round-behind n mid (said_text said) (said-rest said) ys
line (kept_line p part) = λ ys. parted-behind p (codes " keep " ++ (decimal part ++ codes "\n")) (numbered (codes " keep ") part (codes "\n") (λ zs. refl) feed) ys
line (parts_line p said) = λ ys. parted-behind p (said_text said) (said-rest said) ys
line (step_line lo said) = λ ys. numbered [] lo (said_text said) (λ zs. refl) (said-rest said) ys
line (balance_line p has) = λ ys. numbered [] p (codes " " ++ (decimal has ++ codes "\n")) (λ zs. refl) (numbered (codes " ") has (codes "\n") (λ zs. refl) feed) ys
line (pool_line has) = λ ys. numbered [] has (codes "\n") (λ zs. refl) feed ys
line (accept_line s bytes) = λ ys. rest (answer_text s bytes) (codes "\n") (answered s bytes) feed ys
line none_left_line = λ ys. refl
line (collision_line x y) = λ ys.
    rest (encode_lower x) (codes " " ++ (encode_lower y ++ codes "\n")) (hex x) (rest (codes " ") (encode_lower y ++ codes "\n") (λ zs. refl) (rest (encode_lower y) (codes "\n") (hex y) feed)) ys

if-there : (l : Option Line) → AreWhole (text_if_there l)
if-there (Some l) = line l
if-there None = λ ys. refl

lines : (ls : List (Option Line)) → AreWhole (lines_text ls)
lines [] = λ ys. refl
lines (l ∷ ls) = whole (text_if_there l) (lines_text ls) (if-there l) (lines ls)

-- HEADS

played : (letters : List ℕ) (head : Head) → ((ys : List ℕ) → scan true (letters ++ ys) ≡ scan false ys) → (ys : List ℕ) → scan true (played_text letters head ++ ys) ≡ scan false ys
unfolding played_text
played letters head begins ys =
    let behind : Inside (codes " provers " ++ (decimal head.provers ++ (codes " bound " ++ decimal head.bound))) =
    counted (codes " provers ") head.provers (codes " bound " ++ decimal head.bound) (λ zs. refl) (inside (codes " bound ") (decimal head.bound) (λ zs. refl) (number head.bound)) in
    ap (scan true) (append_assoc letters (codes " provers " ++ (decimal head.provers ++ (codes " bound " ++ decimal head.bound))) ys) ∙ (begins _ ∙ behind ys)

patient : (head : Head) → Inside (patience_text head)
unfolding patience_text
patient head = inside (codes " patience ") (decimal head.patience) (λ zs. refl) (number head.patience)

committed : (head : Head) → Inside (committed_text head)
unfolding committed_text
committed head =
    counted (codes " version ") head.version (codes " fan " ++ (decimal head.fan ++ (codes " digest " ++ digest_text head.digest))) (λ zs. refl)
    (counted (codes " fan ") head.fan (codes " digest " ++ digest_text head.digest) (λ zs. refl) (inside (codes " digest ") (digest_text head.digest) (λ zs. refl) (digest head.digest)))

headed : (letters : List ℕ) (head : Head) → ((ys : List ℕ) → scan true (letters ++ ys) ≡ scan false ys) → (ys : List ℕ) → scan true (numbers_text letters head ++ ys) ≡ scan false ys
headed letters head begins ys =
    ap (scan true) (append_assoc (played_text letters head) (patience_text head ++ committed_text head) ys)
    ∙ (played letters head begins ((patience_text head ++ committed_text head) ++ ys) ∙ inside (patience_text head) (committed_text head) (patient head) (committed head) ys)

match-line : (head : Head) → AreWhole (head_line head)
match-line head ys = ap (scan true) (append_assoc (numbers_text (codes "match") head) (codes "\n") ys) ∙ headed (codes "match") head (λ zs. refl) (codes "\n" ++ ys)

started : (head : Head) → Inside (start_text head)
unfolding start_text
started head = inside (codes " start ") (encode_lower head.start.0) (λ zs. refl) (hex head.start.0)

refereed-line : (head : Head) (text : List ℕ) → scan true (refereed_text head ++ (codes "\n" ++ text)) ≡ scan true text
refereed-line head text =
    ap (scan true) (append_assoc (numbers_text (codes "refereed") head) (start_text head) (codes "\n" ++ text))
    ∙ (headed (codes "refereed") head (λ zs. refl) (start_text head ++ (codes "\n" ++ text)) ∙ started head (codes "\n" ++ text))

-- MOVES

settled-inside : (s : Settled) → Inside (settled_text s)
unfolding wire_text
settled-inside (settled.Given a) = inside (codes "given ") (wire_text a) (λ zs. refl) (hex _)
settled-inside (settled.Faulty a) = inside (codes "faulty ") (wire_text a) (λ zs. refl) (hex _)
settled-inside settled.Spent = λ zs. refl

move : (m : TextMove) (text : List ℕ) → scan true (move_text m ++ (codes "\n" ++ text)) ≡ scan true text
unfolding asked_text
move m text =
    let behind : Inside (decimal m.qid.dispute ++ (codes " " ++ (decimal m.qid.round ++ (codes " p" ++ (decimal m.prover ++ codes " "))))) =
    counted [] m.qid.dispute (codes " " ++ (decimal m.qid.round ++ (codes " p" ++ (decimal m.prover ++ codes " ")))) (λ zs. refl)
    (counted (codes " ") m.qid.round (codes " p" ++ (decimal m.prover ++ codes " ")) (λ zs. refl) (counted (codes " p") m.prover (codes " ") (λ zs. refl) (λ zs. refl))) in
    ap (scan true) (append_assoc (asked_text m.qid.dispute m.qid.round m.prover) (settled_text m.settled) (codes "\n" ++ text))
    ∙ (behind (settled_text m.settled ++ (codes "\n" ++ text)) ∙ settled-inside m.settled (codes "\n" ++ text))

moves : (ms : List TextMove) → AreWhole (moves_text ms)
moves [] = λ ys. refl
moves (m ∷ ms) = λ ys.
    ap (scan true) (append_assoc (move_text m) (codes "\n" ++ moves_text ms) ys) ∙ (move m (moves_text ms ++ ys) ∙ moves ms ys)

-- A TEXT THAT IS SCANNED TO ITS END

abbrev Ends : List ℕ → Type 0
Ends xs = (before : List ℕ) × (xs ≡ before ++ codes "\n")

last : (x : ℕ) → Some (x == 10) ≡ Some true → Ends (x ∷ [])
last x is = (let same : (x == 10) ≡ true = cc is in ([], ap (λ (y : ℕ). y ∷ []) (grind (arith, nat_tests))))

later : (x : ℕ) (xs : List ℕ) → Ends xs → Ends (x ∷ xs)
later x xs more = (x ∷ more.0, ap (λ (l : List ℕ). x ∷ l) more.1)

not-begun : (b : Bool) (r : Option Bool) → cond b None r ≡ Some true → r ≡ Some true
not-begun true r is = absurd (cc is)
not-begun false r is = is

ends : (at_start : Bool) (x : ℕ) (xs : List ℕ) → scan at_start (x ∷ xs) ≡ Some true → Ends (x ∷ xs)
ends at_start x [] is = last x (not-begun (at_start && (x == 116)) _ is)
ends at_start x (y ∷ ys) is = later x (y ∷ ys) (ends (x == 10) y ys (not-begun (at_start && (x == 116)) _ is))

skipped : (b : Bool) (r : Option Bool) → r ≡ None → cond b None r ≡ None
skipped true r is = refl
skipped false r is = is

found : (at_start : Bool) (front behind : List ℕ) → scan at_start (front ++ (codes "\ntask " ++ behind)) ≡ None
found true [] behind = refl
found false [] behind = refl
found at_start (x ∷ front) behind = skipped (at_start && (x == 116)) _ (found (x == 10) front behind)

some-none : (b : Bool) → Some b ≢ None
some-none b is = absurd (cc is)

part : (x : ℕ) (xs : List ℕ) → scan true (x ∷ xs) ≡ Some true → IsTaskPart (x ∷ xs)
part x xs is =
    let end = ends true x xs is in
    record {
      before = end.0;
      ended = end.1;
      no_task = λ front behind same. some-none true (sym is ∙ (ap (scan false) same ∙ found false front behind));
    }

-- a text that begins with some letters is not empty
part-of : (text : List ℕ) (x : ℕ) (xs : List ℕ) → text ≡ x ∷ xs → scan true text ≡ Some true → IsTaskPart text
part-of text x xs is scanned = subst IsTaskPart (sym is) (part x xs (ap (scan true) (sym is) ∙ scanned))

verdict-ends : (l : Option Line) → scan true (text_if_there l) ≡ Some true
verdict-ends l = ap (scan true) (sym (append-nil (text_if_there l))) ∙ if-there l []

report-part : (head : Head) (r : Record) (v : Verdict) (balances : Option Balances) → IsTaskPart (report_text head r v balances)
unfolding played_text
report-part head r v balances =
    part-of (report_text head r v balances) _ _ refl
    (match-line head _ ∙ (lines (lines_of_record r) _ ∙ (lines (lines_of_balances balances) _ ∙ verdict-ends (line_of_verdict r.claims v))))

full-part : (head : Head) (r : Record) (v : Verdict) → IsTaskPart (full_text head r v)
unfolding played_text
full-part head r v =
    part-of (full_text head r v) _ _ refl
    (refereed-line head _ ∙ (moves (moves_of r) _ ∙ verdict-ends (line_of_verdict r.claims v)))

pub texts_are_task_parts : TextsAreTaskParts
texts_are_task_parts = record { report = report-part; full = full-part }
