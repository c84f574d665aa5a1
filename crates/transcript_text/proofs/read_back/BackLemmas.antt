-- A full text within the limits is read back.
use Rattle.std.proofs.Common.{◌≡◌, ℕ, ◌+◌, ◌<◌, ◌≤◌, nat_lt, Bool, true, false, not, ◌&&◌, ◌==◌, List, [], ◌∷◌, ◌++◌, length, Ok, refl, sym, ◌∙◌, ap, arith, append-nil, append_assoc}
use Rattle.std.specs.Prelude.{codes, decimal}
use Rattle.std.proofs.lemmas.Bool.Decides.{nat_tests}
use Rattle.hex.specs.Hex.{encode_lower}
use Rattle.rd_base.specs.Status.{HasWordCode, status_text}
use Rattle.rd_base.specs.declared.answer.Answer.{Answer}
use Rattle.rd_base.specs.declared.status.Status.{Status}
use Rattle.rd_base.specs.declared.status.Status.TheVariants.{Running, Exited, Trapped}
use Rattle.bisect_game.specs.declared.settled.Settled.{Settled}
use Rattle.bisect_game.specs.declared.settled.Settled.TheVariants.{Given, Faulty, Spent}
use Rattle.proof_wire.specs.Wire.{wire_form, Spells}
use Rattle.proof_wire.specs.Reading.{answer_in}
use Rattle.digest_core.specs.Name.{digest_text}
use Rattle.digest_core.specs.declared.name.DigestName.{DigestName}
use Rattle.digest_core.specs.declared.name.DigestName.TheVariants.{Sha256, Weak8}
use Rattle.transcript_text.specs.Report.{played_text, patience_text, committed_text, output_text, answer_text as status_and_output, line_text}
use Rattle.transcript_text.specs.declared.text.Head.{Head}
use Rattle.transcript_text.specs.declared.text.TextMove.{TextMove}
use Rattle.transcript_text.specs.declared.text.Stated.{Stated}
use Rattle.transcript_text.specs.declared.text.Stated.TheVariants as stated
use Rattle.transcript_text.specs.declared.text.FullText.{FullText}
use Rattle.transcript_text.specs.declared.reader.entries.Entry.TheVariants.{Move, Verdict}
use Rattle.transcript_text.specs.declared.reader.entries.HeadNumbers.{HeadNumbers}
use Rattle.transcript_text.specs.Lines.{line_of_stated}
use Rattle.transcript_text.specs.FullLines.{HasWireForm, start_text, refereed_text, wire_text, settled_text, asked_text, move_text, moves_text, text_of}
use Rattle.transcript_text.specs.reader.TextLines.{Lines, tail, line, lines_of}
use Rattle.transcript_text.specs.reader.Fields.{number_after, digest_in_hex, answer_in_hex, name_at}
use Rattle.transcript_text.specs.reader.Entries.{head_in, settlement_in, move_in, status_at, output_in, accepted_in, string_in, collided_in, verdict_in, entry_in}
use Rattle.transcript_text.specs.reader.ReadText.{is_prover, head_of_numbers, head_with, line_read, later, text_in_lines, read_text}
use Rattle.transcript_text.specs.Limits.{is_in_limit, provers_limit, bound_limit, patience_limit, version_limit, fan_limit, numbers_are_in_limits}
use Rattle.transcript_text.specs.declared.limits.Limit.{Limit}
use Rattle.transcript_text.specs.reader.InLimits.{AreBytes, IsWithin, IsHeadInLimits, IsMoveInLimits, AreMovesInLimits, IsString, IsStatedInLimits, IsInLimits}
use Rattle.transcript_text.specs.reader.Laws.{stated_text, IsOfBytes, StatedVerdictsAreOneLine}
use Rattle.transcript_text.proofs.read_back.FieldLemmas.{number-back, small-back, hex-back, some-hex-back, Without, without-none, without-both, cut-back, line-back, decimal-without, encoded-without}

-- literals

abbrev is_without : ℕ → List ℕ → Bool
is_without c [] = true
is_without c (b ∷ bs) = not (b == c) && is_without c bs

not-false : (b : Bool) (e : Bool) → (not b && e) ≡ true → (b ≡ false) × (e ≡ true)
not-false true e h = absurd (cc)
not-false false e h = (refl, h)

without-literal : (c : ℕ) (xs : List ℕ) → is_without c xs ≡ true → Without c xs
without-literal c [] e = tt
without-literal c (b ∷ bs) e =
    let parts : ((b == c) ≡ false) × (is_without c bs ≡ true) = not-false (b == c) (is_without c bs) e in
    (parts.0, without-literal c bs parts.1)

-- what the wire forms offer: what is read of bytes is the answer that they spell, and they are bytes

pub record WireReads : Type 0 where
  pub read : (answer : Answer) (bytes : List ℕ) → Spells answer bytes → answer_in bytes ≡ Ok answer
  pub bytes : (answer : Answer) (bytes : List ℕ) → Spells answer bytes → AreBytes bytes

wire-bytes : WireReads → (a : Answer) → (wire_form a).fits → AreBytes (wire_form a).bytes
wire-bytes wire a fits = wire.bytes a (wire_form a).bytes (fits, refl)

-- answers

answer-back : WireReads → (a : Answer) → (wire_form a).fits → answer_in_hex (wire_text a) ≡ Ok a
unfolding answer_in_hex wire_text
answer-back wire a fits = rw (hex-back (wire_form a).bytes (wire-bytes wire a fits), wire.read a (wire_form a).bytes (fits, refl)) refl

settled-back : WireReads → (s : Settled) → HasWireForm s → settlement_in (settled_text s) ≡ Ok s
unfolding settlement_in
settled-back wire (Given a) w = rw (answer-back wire a w) refl
settled-back wire (Faulty a) w = rw (answer-back wire a w) refl
settled-back wire Spent w = refl

-- moves

behind-move : ℕ → ℕ → ℕ → List ℕ → List ℕ
behind-move d r p s = decimal d ++ (codes " " ++ (decimal r ++ (codes " p" ++ (decimal p ++ (codes " " ++ s)))))

move-in-back : WireReads → (m : TextMove) (provers : ℕ) → provers ≤ 16 → IsMoveInLimits provers m → move_in (behind-move m.qid.dispute m.qid.round m.prover (settled_text m.settled)) ≡ Ok m
unfolding move_in behind-move
move-in-back wire m provers top i =
    rw (
      small-back m.qid.dispute _ i.dispute refl,
      small-back m.qid.round _ i.round refl,
      small-back m.prover _ (omega (arith, i.prover.1, top)) refl,
      settled-back wire m.settled i.settled,
    ) refl

entry-of-move : WireReads → (m : TextMove) (provers : ℕ) → provers ≤ 16 → IsMoveInLimits provers m → entry_in (move_text m) ≡ Ok (Move m)
unfolding entry_in asked_text behind-move
entry-of-move wire m provers top i =
    let s : List ℕ = settled_text m.settled in
    let e : (decimal m.qid.dispute ++ (codes " " ++ (decimal m.qid.round ++ (codes " p" ++ (decimal m.prover ++ codes " "))))) ++ settled_text m.settled
    ≡ behind-move m.qid.dispute m.qid.round m.prover (settled_text m.settled) = simp append_assoc in
    rw (e, move-in-back wire m provers top i) refl

without-answer : (a : Answer) → AreBytes (wire_form a).bytes → Without 10 (wire_text a)
unfolding wire_text
without-answer a bytes = encoded-without 10 (wire_form a).bytes (omega arith) bytes

without-settled : WireReads → (s : Settled) → HasWireForm s → Without 10 (settled_text s)
without-settled wire (Given a) w = without-both 10 (codes "given ") (wire_text a) (without-literal 10 (codes "given ") refl) (without-answer a (wire-bytes wire a w))
without-settled wire (Faulty a) w = without-both 10 (codes "faulty ") (wire_text a) (without-literal 10 (codes "faulty ") refl) (without-answer a (wire-bytes wire a w))
without-settled wire Spent w = without-literal 10 (codes "spent") refl

asked-without : (d r p : ℕ) → d < 4294967296 → r < 4294967296 → p < 4294967296 → Without 10 (asked_text d r p)
unfolding asked_text
asked-without d r p dl rl pl =
    let e : Without 10 (decimal p ++ codes " ") = without-both 10 (decimal p) (codes " ") (decimal-without 10 p (omega arith) (omega arith)) (without-literal 10 (codes " ") refl) in
    let f : Without 10 (codes " p" ++ (decimal p ++ codes " ")) = without-both 10 (codes " p") (decimal p ++ codes " ") (without-literal 10 (codes " p") refl) e in
    let g : Without 10 (decimal r ++ (codes " p" ++ (decimal p ++ codes " "))) = without-both 10 (decimal r) (codes " p" ++ (decimal p ++ codes " ")) (decimal-without 10 r (omega arith) (omega arith)) f in
    let h : Without 10 (codes " " ++ (decimal r ++ (codes " p" ++ (decimal p ++ codes " ")))) = without-both 10 (codes " ") (decimal r ++ (codes " p" ++ (decimal p ++ codes " "))) (without-literal 10 (codes " ") refl) g in
    let i : Without 10 (decimal d ++ (codes " " ++ (decimal r ++ (codes " p" ++ (decimal p ++ codes " "))))) =
    without-both 10 (decimal d) (codes " " ++ (decimal r ++ (codes " p" ++ (decimal p ++ codes " ")))) (decimal-without 10 d (omega arith) (omega arith)) h in
    without-both 10 (codes "move ") (decimal d ++ (codes " " ++ (decimal r ++ (codes " p" ++ (decimal p ++ codes " "))))) (without-literal 10 (codes "move ") refl) i

without-move : WireReads → (m : TextMove) (provers : ℕ) → provers ≤ 16 → IsMoveInLimits provers m → Without 10 (move_text m)
without-move wire m provers top i =
    without-both 10 (asked_text m.qid.dispute m.qid.round m.prover) (settled_text m.settled)
    (asked-without m.qid.dispute m.qid.round m.prover i.dispute i.round (omega (arith, i.prover.1, top)))
    (without-settled wire m.settled i.settled)

-- the verdict

pub stated-line : (s : Stated) → line_text (line_of_stated s) ≡ stated_text s ++ codes "\n"
stated-line (stated.Accept status output) = refl
stated-line stated.NoneLeft = refl
stated-line (stated.Collision x y) = ap (λ (xs : List ℕ). codes "collision " ++ xs) (sym (append_assoc (encode_lower x) (codes " " ++ encode_lower y) (codes "\n")))

status-back : (status : Status) (rest : List ℕ) → HasWordCode status → status_at (status_text status ++ (codes " output" ++ rest)) ≡ Ok (status, codes " output" ++ rest)
unfolding status_at
status-back Running rest i = refl
status-back (Exited code) rest i = rw (small-back code (codes " output" ++ rest) i refl) refl
status-back (Trapped code) rest i = rw (small-back code (codes " output" ++ rest) i refl) refl

output-back : (output : List ℕ) → AreBytes output → output_in (output_text output) ≡ Ok output
unfolding output_in
output-back [] bytes = refl
output-back (b ∷ bs) bytes = some-hex-back (b ∷ bs) (omega arith) bytes

accepted-back : (status : Status) (output : List ℕ) → HasWordCode status → AreBytes output → accepted_in (status_and_output status output) ≡ Ok (stated.Accept status output)
unfolding accepted_in
accepted-back status output i bytes =
    rw (append_assoc (status_text status) (codes " output") (output_text output), status-back status (output_text output) i, output-back output bytes) refl

string-back : (xs : List ℕ) → IsString xs → string_in (encode_lower xs) ≡ Ok xs
unfolding string_in
string-back xs i =
    let short : length xs ≤ 129 = i.1 in
    let e : nat_lt 129 (length xs) ≡ false = grind (arith, nat_tests) in
    rw (some-hex-back xs i.0 i.2, e) refl

collided-back : (x y : List ℕ) → IsString x → IsString y → collided_in (encode_lower x ++ (codes " " ++ encode_lower y)) ≡ Ok (stated.Collision x y)
unfolding collided_in
collided-back x y i j =
    rw (cut-back 32 (encode_lower x) (encode_lower y) (encoded-without 32 x (omega arith) i.2), string-back x i, string-back y j) refl

entry-of-verdict : (s : Stated) → IsStatedInLimits s → entry_in (stated_text s) ≡ Ok (Verdict s)
unfolding entry_in verdict_in
entry-of-verdict (stated.Accept status output) i = rw (accepted-back status output i.0 i.1) refl
entry-of-verdict stated.NoneLeft i = refl
entry-of-verdict (stated.Collision x y) i = rw (collided-back x y i.0 i.1) refl

without-status : (status : Status) → HasWordCode status → Without 10 (status_text status)
without-status Running i = without-literal 10 (codes "running") refl
without-status (Exited code) i = without-both 10 (codes "exited ") (decimal code) (without-literal 10 (codes "exited ") refl) (decimal-without 10 code (omega arith) (omega (arith, i)))
without-status (Trapped code) i = without-both 10 (codes "trapped ") (decimal code) (without-literal 10 (codes "trapped ") refl) (decimal-without 10 code (omega arith) (omega (arith, i)))

without-output : (output : List ℕ) → AreBytes output → Without 10 (output_text output)
without-output [] bytes = tt
without-output (b ∷ bs) bytes = without-both 10 (codes " ") (encode_lower (b ∷ bs)) (without-literal 10 (codes " ") refl) (encoded-without 10 (b ∷ bs) (omega arith) bytes)

without-stated : (s : Stated) → IsOfBytes s → Without 10 (stated_text s)
without-stated (stated.Accept status output) i =
    without-both 10 (codes "accept ") (status_and_output status output) (without-literal 10 (codes "accept ") refl)
    (without-both 10 (status_text status ++ codes " output") (output_text output)
    (without-both 10 (status_text status) (codes " output") (without-status status i.0) (without-literal 10 (codes " output") refl)) (without-output output i.1))
without-stated stated.NoneLeft i = without-literal 10 (codes "none left") refl
without-stated (stated.Collision x y) i =
    without-both 10 (codes "collision ") (encode_lower x ++ (codes " " ++ encode_lower y)) (without-literal 10 (codes "collision ") refl)
    (without-both 10 (encode_lower x) (codes " " ++ encode_lower y) (encoded-without 10 x (omega arith) i.0) (without-both 10 (codes " ") (encode_lower y) (without-literal 10 (codes " ") refl) (encoded-without 10 y (omega arith) i.1)))

pub limits-are-of-bytes : (s : Stated) → IsStatedInLimits s → IsOfBytes s
limits-are-of-bytes (stated.Accept status output) i = i
limits-are-of-bytes stated.NoneLeft i = tt
limits-are-of-bytes (stated.Collision x y) i = (i.0.2, i.1.2)

pub stated-is-one-line : StatedVerdictsAreOneLine
stated-is-one-line s i = record { ended = stated-line s; lone = without-none 10 (stated_text s) (without-stated s i) }

-- later lines

later-end : (provers n : ℕ) (done : List TextMove) (s : Stated) (l : List ℕ) → entry_in l ≡ Ok (Verdict s) → later provers n done (line l (tail [])) ≡ Ok (done, s)
later-end provers n done s l e = ap (line_read provers n done (tail []) (λ x. later provers (n + 1) (done ++ x ∷ []) (tail []))) e

later-move : (provers n : ℕ) (done : List TextMove) (m : TextMove) (l : List ℕ) (ls : Lines) → entry_in l ≡ Ok (Move m) → is_prover provers m.prover ≡ true →
    later provers n done (line l ls) ≡ later provers (n + 1) (done ++ m ∷ []) ls
later-move provers n done m l ls e within =
    ap (line_read provers n done ls (λ x. later provers (n + 1) (done ++ x ∷ []) ls)) e ∙ rw within refl

is-prover : (provers n : ℕ) → 1 ≤ n → n ≤ provers → is_prover provers n ≡ true
is-prover provers n a b = grind (arith, nat_tests)

later-back : WireReads → (provers n : ℕ) (done ms : List TextMove) (s : Stated) → provers ≤ 16 → AreMovesInLimits provers ms → IsStatedInLimits s →
    later provers n done (lines_of (moves_text ms ++ (stated_text s ++ codes "\n"))) ≡ Ok (done ++ ms, s)
later-back wire provers n done [] s top i j =
    rw (line-back (stated_text s) [] (without-stated s (limits-are-of-bytes s j)))
    (later-end provers n done s (stated_text s) (entry-of-verdict s j) ∙ ap (λ (xs : List TextMove). Ok (xs, s)) (sym (append-nil done)))
later-back wire provers n done (m ∷ ms) s top i j =
    let cut : lines_of (moves_text (m ∷ ms) ++ (stated_text s ++ codes "\n")) ≡ line (move_text m) (lines_of (moves_text ms ++ (stated_text s ++ codes "\n"))) =
    ap lines_of (append_assoc (move_text m) (codes "\n" ++ moves_text ms) (stated_text s ++ codes "\n"))
    ∙ line-back (move_text m) (moves_text ms ++ (stated_text s ++ codes "\n")) (without-move wire m provers top i.0) in
    ap (later provers n done) cut
    ∙ (later-move provers n done m (move_text m) _ (entry-of-move wire m provers top i.0) (is-prover provers m.prover i.0.prover.0 i.0.prover.1)
    ∙ (later-back wire provers (n + 1) (done ++ m ∷ []) ms s top i.1 j ∙ ap (λ (xs : List TextMove). Ok (xs, s)) (append_assoc done (m ∷ []) ms)))

-- the head

digest-back : (h : Head) → IsHeadInLimits h → digest_in_hex (encode_lower h.start.0) ≡ Ok h.start
unfolding digest_in_hex
digest-back h i =
    let e : (length h.start.0 == 32) ≡ true = (let l : length h.start.0 ≡ 32 = i.length in grind (arith, nat_tests)) in
    rw (hex-back h.start.0 i.bytes, e) refl

-- one line for each name
name-back : (d : DigestName) (rest : List ℕ) → name_at (digest_text d ++ rest) ≡ Ok (d, rest)
unfolding name_at
name-back Sha256 rest = refl
name-back Weak8 rest = refl

without-name : (d : DigestName) → Without 10 (digest_text d)
without-name Sha256 = without-literal 10 (codes "sha256") refl
without-name Weak8 = without-literal 10 (codes "weak8") refl

abbrev pub numbers_of : Head → HeadNumbers
numbers_of h = record { provers = h.provers; bound = h.bound; patience = h.patience; version = h.version; fan = h.fan; digest = h.digest; start = h.start }

unfoldable pub head-spelled : Head → List ℕ
head-spelled h =
    codes "refereed provers " ++ (decimal h.provers ++ (codes " bound " ++ (decimal h.bound ++ (codes " patience " ++ (decimal h.patience ++ (codes " version " ++ (decimal h.version
    ++ (codes " fan " ++ (decimal h.fan ++ (codes " digest " ++ (digest_text h.digest ++ (codes " start " ++ encode_lower h.start.0))))))))))))

pub head-nested : (h : Head) → refereed_text h ≡ head-spelled h
unfolding played_text patience_text committed_text start_text head-spelled
head-nested h = simp append_assoc

-- numbers of a head are below 2^32
pub small-number : (l : Limit) (n : ℕ) → l.most < 4294967296 → IsWithin l n → n < 4294967296
small-number l n few i = (let m : n ≤ l.most = i.1 in omega (arith, m, few))

record AreSmall (h : Head) : Type 0 where
  provers : h.provers < 4294967296
  bound : h.bound < 4294967296
  patience : h.patience < 4294967296
  version : h.version < 4294967296
  fan : h.fan < 4294967296

are-small : (h : Head) → IsHeadInLimits h → AreSmall h
are-small h i = record {
  provers = small-number provers_limit h.provers (omega arith) i.provers;
  bound = small-number bound_limit h.bound (omega arith) i.bound;
  patience = small-number patience_limit h.patience (omega arith) i.patience;
  version = small-number version_limit h.version (omega arith) i.version;
  fan = small-number fan_limit h.fan (omega arith) i.fan;
}

head-in-back : (h : Head) → IsHeadInLimits h → AreSmall h → head_in (head-spelled h) ≡ Ok (numbers_of h)
unfolding head_in head-spelled number_after
head-in-back h i small =
    rw (
      number-back h.provers _ small.provers refl,
      number-back h.bound _ small.bound refl,
      number-back h.patience _ small.patience refl,
      number-back h.version _ small.version refl,
      number-back h.fan _ small.fan refl,
      name-back h.digest _,
      digest-back h i,
    ) refl

holds-within : (l : Limit) (n : ℕ) → IsWithin l n → is_in_limit l n ≡ true
holds-within l n i = (let a : l.least ≤ n = i.0 in let b : n ≤ l.most = i.1 in grind (arith, nat_tests))

limits-hold : (h : Head) → IsHeadInLimits h → numbers_are_in_limits (head_of_numbers (numbers_of h)) ≡ true
limits-hold h i =
    rw (
      holds-within provers_limit h.provers i.provers,
      holds-within bound_limit h.bound i.bound,
      holds-within patience_limit h.patience i.patience,
      holds-within version_limit h.version i.version,
      holds-within fan_limit h.fan i.fan,
    ) refl

head-back : (h : Head) → IsHeadInLimits h → head_with (head_in (refereed_text h)) ≡ Ok h
head-back h i = rw (head-nested h, head-in-back h i (are-small h i), limits-hold h i) refl

without-number : (word : List ℕ) (n : ℕ) (rest : List ℕ) → is_without 10 word ≡ true → n < 4294967296 → Without 10 rest → Without 10 (word ++ (decimal n ++ rest))
without-number word n rest e few w = without-both 10 word (decimal n ++ rest) (without-literal 10 word e) (without-both 10 (decimal n) rest (decimal-without 10 n (omega arith) (omega arith)) w)

without-spelled : (h : Head) → IsHeadInLimits h → AreSmall h → Without 10 (head-spelled h)
unfolding head-spelled
without-spelled h i small =
    without-number (codes "refereed provers ") h.provers _ refl small.provers
    (without-number (codes " bound ") h.bound _ refl small.bound
    (without-number (codes " patience ") h.patience _ refl small.patience
    (without-number (codes " version ") h.version _ refl small.version
    (without-number (codes " fan ") h.fan _ refl small.fan
    (without-both 10 (codes " digest ") _ (without-literal 10 (codes " digest ") refl)
    (without-both 10 (digest_text h.digest) _ (without-name h.digest)
    (without-both 10 (codes " start ") _ (without-literal 10 (codes " start ") refl) (encoded-without 10 h.start.0 (omega arith) i.bytes))))))))

without-head : (h : Head) → IsHeadInLimits h → Without 10 (refereed_text h)
without-head h i = rw (head-nested h) (without-spelled h i (are-small h i))

few-provers : (h : Head) → IsHeadInLimits h → h.provers ≤ 16
few-provers h i = (let m : h.provers ≤ 16 = i.provers.1 in m)

-- each full text within the limits is read as what it was written of
abbrev pub ReadsBack : Type 0
ReadsBack = (x : FullText) → IsInLimits x → read_text (text_of x) ≡ Ok x

pub reads-back : WireReads → ReadsBack
unfolding read_text
reads-back wire x i =
    let spelled : text_of x ≡ refereed_text x.head ++ (codes "\n" ++ (moves_text x.moves ++ (stated_text x.stated ++ codes "\n"))) =
    ap (λ (v : List ℕ). refereed_text x.head ++ (codes "\n" ++ (moves_text x.moves ++ v))) (stated-line x.stated) in
    let cut : lines_of (text_of x) ≡ line (refereed_text x.head) (lines_of (moves_text x.moves ++ (stated_text x.stated ++ codes "\n"))) =
    ap lines_of spelled ∙ line-back (refereed_text x.head) (moves_text x.moves ++ (stated_text x.stated ++ codes "\n")) (without-head x.head i.head) in
    let more : later x.head.provers 2 [] (lines_of (moves_text x.moves ++ (stated_text x.stated ++ codes "\n"))) ≡ Ok (x.moves, x.stated) =
    later-back wire x.head.provers 2 [] x.moves x.stated (few-provers x.head i.head) i.moves i.stated in
    ap text_in_lines cut ∙ (rw (head-back x.head i.head, more) refl)
