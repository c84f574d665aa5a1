-- What is read is within the limits.
use Rattle.std.proofs.Common.{◌≡◌, ℕ, ◌+◌, ◌<◌, ◌≤◌, nat_le, nat_lt, Bool, true, false, ◌==◌, if◌then◌else◌, List, [], ◌∷◌, ◌++◌, length, Option, Some, None, Result, Ok, Err, refl, ap, arith, subst}
use Rattle.std.specs.Prelude.{codes, bytes_eq}
use Rattle.std.specs.Option.{ok_or}
use Rattle.std.proofs.lemmas.Bool.Decides.{nat_tests}
use Rattle.std.proofs.lemmas.Bool.{and_parts}
use Rattle.rd_base.specs.Results.{◌>>=◌}
use Rattle.rd_base.specs.declared.answer.Answer.{Answer}
use Rattle.rd_base.specs.declared.digest.Digest32.{Digest32}
use Rattle.rd_base.specs.declared.status.Status.{Status}
use Rattle.rd_base.specs.declared.status.Status.TheVariants.{Running, Exited, Trapped}
use Rattle.bisect_game.specs.declared.settled.Settled.{Settled}
use Rattle.bisect_game.specs.declared.settled.Settled.TheVariants.{Given, Faulty, Spent}
use Rattle.proof_wire.specs.Wire.{wire_form}
use Rattle.proof_wire.specs.Reading.{answer_in}
use Rattle.transcript_text.specs.Limits.{is_in_limit, provers_limit, bound_limit, patience_limit, version_limit, fan_limit, numbers_are_in_limits}
use Rattle.transcript_text.specs.declared.limits.Limit.{Limit}
use Rattle.transcript_text.specs.declared.text.Head.{Head}
use Rattle.transcript_text.specs.declared.text.TextMove.{TextMove}
use Rattle.transcript_text.specs.declared.text.Stated.{Stated}
use Rattle.transcript_text.specs.declared.text.Stated.TheVariants as stated
use Rattle.transcript_text.specs.declared.text.FullText.{FullText}
use Rattle.transcript_text.specs.declared.reader.fault.LineFault.{LineFault}
use Rattle.transcript_text.specs.declared.reader.fault.LineFault.TheVariants.{NoForm}
use Rattle.transcript_text.specs.declared.reader.fault.TextFault.TheVariants.{OutOfRange}
use Rattle.transcript_text.specs.declared.reader.entries.Entry.{Entry}
use Rattle.transcript_text.specs.declared.reader.entries.Entry.TheVariants.{Move, Verdict}
use Rattle.transcript_text.specs.declared.reader.entries.HeadNumbers.{HeadNumbers}
use Rattle.transcript_text.specs.reader.TextLines.{Lines, tail, line, lines_of, cut_at}
use Rattle.transcript_text.specs.reader.Fields.{behind_word, skip_word, small_number_at, number_after, bytes_in_hex, some_bytes_in_hex, digest_in_hex, answer_in_hex, name_at}
use Rattle.transcript_text.specs.reader.Entries.{head_in, settlement_in, move_in, coded, status_at, output_in, accepted_in, string_in, collided_in, verdict_in, entry_in}
use Rattle.transcript_text.specs.reader.ReadText.{is_prover, head_of_numbers, head_with, after_verdict, line_read, later, rest_with, text_in_lines, read_text}
use Rattle.rd_base.specs.Status.{HasWordCode}
use Rattle.transcript_text.specs.reader.InLimits.{AreBytes, IsWithin, IsHeadInLimits, IsMoveInLimits, AreMovesInLimits, IsString, IsStatedInLimits, IsInLimits}
use Rattle.transcript_text.specs.FullLines.{HasWireForm}
use Rattle.transcript_text.proofs.read_back.SpellLemmas.{bind-ok, okay, ok-same, or-ok, small-is, hex-is, some-hex-is, WireSpells}
use Rattle.transcript_text.proofs.read_back.TextSpellLemmas.{AreWithin, are-within, pair-same, head-same, text-same}
use Rattle.transcript_text.proofs.read_back.Forms.{faulty_or_spent, given_or_not, trapped_or_not, exited_or_not, running_or_not, collided_or_none, accepted_or_not, move_or_verdict}

-- answers and what they are settled as

answer-fits : WireSpells → (digits : List ℕ) (a : Answer) → answer_in_hex digits ≡ Ok a → (wire_form a).fits
unfolding answer_in_hex
answer-fits wire digits a e = let b = bind-ok (bytes_in_hex digits) _ a e in (wire a b.0 (hex-is digits b.0 b.1).bytes (or-ok (answer_in b.0) a b.2)).0

writable-by : WireSpells → (digits : List ℕ) (call : Answer → Settled) (s : Settled) → ((a : Answer) → (wire_form a).fits → HasWireForm (call a)) → (answer_in_hex digits >>= (λ a. Ok (call a))) ≡ Ok s → HasWireForm s
writable-by wire digits call s fit e =
    let b = bind-ok (answer_in_hex digits) (λ a. Ok (call a)) s e in
    subst HasWireForm (ok-same (call b.0) s b.2) (fit b.0 (answer-fits wire digits b.0 b.1))

spent-writable : (s : Settled) (c : Bool) → (if c then okay {E = LineFault} Spent else Err NoForm) ≡ Ok s → HasWireForm s
spent-writable s true e = subst HasWireForm (ok-same Spent s e) tt
spent-writable s false e = absurd (cc)

faulty-writable : WireSpells → (bytes : List ℕ) (s : Settled) (o : Option (List ℕ)) → faulty_or_spent bytes o ≡ Ok s → HasWireForm s
faulty-writable wire bytes s (Some digits) e = writable-by wire digits Faulty s (λ a fits. fits) e
faulty-writable wire bytes s None e = spent-writable s (bytes_eq bytes (codes "spent")) e

given-writable : WireSpells → (bytes : List ℕ) (s : Settled) (o : Option (List ℕ)) → given_or_not bytes o ≡ Ok s → HasWireForm s
given-writable wire bytes s (Some digits) e = writable-by wire digits Given s (λ a fits. fits) e
given-writable wire bytes s None e = faulty-writable wire bytes s (behind_word (codes "faulty ") bytes) e

settled-writable : WireSpells → (bytes : List ℕ) (s : Settled) → settlement_in bytes ≡ Ok s → HasWireForm s
unfolding settlement_in
settled-writable wire bytes s e = given-writable wire bytes s (behind_word (codes "given ") bytes) e

-- a move, whoever's it is
record IsMoveRead (m : TextMove) : Type 0 where
  dispute : m.qid.dispute < 4294967296
  round : m.qid.round < 4294967296
  settled : HasWireForm m.settled

move-read : WireSpells → (bytes : List ℕ) (m : TextMove) → move_in bytes ≡ Ok m → IsMoveRead m
unfolding move_in
move-read wire bytes m e =
    let b1 = bind-ok (small_number_at bytes) _ m e in
    let b2 = bind-ok (skip_word (codes " ") (b1.0).1) _ m b1.2 in
    let b3 = bind-ok (small_number_at b2.0) _ m b2.2 in
    let b4 = bind-ok (skip_word (codes " p") (b3.0).1) _ m b3.2 in
    let b5 = bind-ok (small_number_at b4.0) _ m b4.2 in
    let b6 = bind-ok (skip_word (codes " ") (b5.0).1) _ m b5.2 in
    let b7 = bind-ok (settlement_in b6.0) _ m b6.2 in
    let x : TextMove = record { qid = record { dispute = (b1.0).0; round = (b3.0).0 }; prover = (b5.0).0; settled = b7.0 } in
    let r : IsMoveRead x = record { dispute = (small-is (b1.0).0 bytes (b1.0).1 b1.1).few; round = (small-is (b3.0).0 b2.0 (b3.0).1 b3.1).few; settled = settled-writable wire b6.0 b7.0 b7.1 } in
    subst IsMoveRead (ok-same x m b7.2) r

-- the verdict

coded-small : (code rest : List ℕ) (call : ℕ → Status) (status : Status) → ((n : ℕ) → n < 4294967296 → HasWordCode (call n)) → (small_number_at code >>= coded call) ≡ Ok (status, rest) → HasWordCode status
coded-small code rest call status fit e =
    let b = bind-ok (small_number_at code) (coded call) (status, rest) e in
    let p : (call (b.0).0, (b.0).1) ≡ (status, rest) = ok-same (call (b.0).0, (b.0).1) (status, rest) b.2 in
    subst HasWordCode (ap (λ (x : Status × List ℕ). x.0) p) (fit (b.0).0 (small-is (b.0).0 code (b.0).1 b.1).few)

trapped-small : (rest : List ℕ) (status : Status) (o : Option (List ℕ)) → trapped_or_not o ≡ Ok (status, rest) → HasWordCode status
trapped-small rest status (Some code) e = coded-small code rest Trapped status (λ n few. few) e
trapped-small rest status None e = absurd (cc)

exited-small : (bytes rest : List ℕ) (status : Status) (o : Option (List ℕ)) → exited_or_not bytes o ≡ Ok (status, rest) → HasWordCode status
exited-small bytes rest status (Some code) e = coded-small code rest Exited status (λ n few. few) e
exited-small bytes rest status None e = trapped-small rest status (behind_word (codes "trapped ") bytes) e

running-small : (bytes rest : List ℕ) (status : Status) (o : Option (List ℕ)) → running_or_not bytes o ≡ Ok (status, rest) → HasWordCode status
running-small bytes rest status (Some left) e =
    let p : (Running, left) ≡ (status, rest) = ok-same (Running, left) (status, rest) e in
    subst HasWordCode (ap (λ (x : Status × List ℕ). x.0) p) tt
running-small bytes rest status None e = exited-small bytes rest status (behind_word (codes "exited ") bytes) e

status-small : (bytes rest : List ℕ) (status : Status) → status_at bytes ≡ Ok (status, rest) → HasWordCode status
unfolding status_at
status-small bytes rest status e = running-small bytes rest status (behind_word (codes "running") bytes) e

output-bytes : (bytes output : List ℕ) → output_in bytes ≡ Ok output → AreBytes output
unfolding output_in
output-bytes [] output e = subst AreBytes (ok-same [] output e) (λ k. omega arith)
output-bytes (b ∷ bytes) output e = let q = bind-ok (skip_word (codes " ") (b ∷ bytes)) some_bytes_in_hex output e in (some-hex-is q.0 output q.2).bytes

accepted-limits : (bytes : List ℕ) (s : Stated) → accepted_in bytes ≡ Ok s → IsStatedInLimits s
unfolding accepted_in
accepted-limits bytes s e =
    let b1 = bind-ok (status_at bytes) _ s e in
    let b2 = bind-ok (skip_word (codes " output") (b1.0).1) _ s b1.2 in
    let b3 = bind-ok (output_in b2.0) _ s b2.2 in
    subst IsStatedInLimits (ok-same (stated.Accept (b1.0).0 b3.0) s b3.2) (status-small bytes (b1.0).1 (b1.0).0 b1.1, output-bytes b2.0 b3.0 b3.1)

some-by : (ys xs : List ℕ) (c : Bool) → (length ys == 0) ≡ c → (if c then Err NoForm else okay {E = LineFault} ys) ≡ Ok xs → 0 < length xs
some-by ys xs true is e = absurd (cc)
some-by [] xs false is e = absurd (cc)
some-by (y ∷ ys) xs false is e = subst (λ (zs : List ℕ). 0 < length zs) (ok-same (y ∷ ys) xs e) (omega arith)

some-bytes : (digits xs : List ℕ) → some_bytes_in_hex digits ≡ Ok xs → 0 < length xs
unfolding some_bytes_in_hex
some-bytes digits xs e = let b = bind-ok (bytes_in_hex digits) _ xs e in some-by b.0 xs (length b.0 == 0) refl b.2

string-by : (digits ys xs : List ℕ) (c : Bool) → nat_lt 129 (length ys) ≡ c → some_bytes_in_hex digits ≡ Ok ys → (if c then Err NoForm else okay {E = LineFault} ys) ≡ Ok xs → IsString xs
string-by digits ys xs true is h e = absurd (cc)
string-by digits ys xs false is h e =
    let short : length ys ≤ 129 = grind (arith, nat_tests) in
    let r : IsString ys = (some-bytes digits ys h, short, (some-hex-is digits ys h).bytes) in
    subst IsString (ok-same ys xs e) r

string-limits : (digits xs : List ℕ) → string_in digits ≡ Ok xs → IsString xs
unfolding string_in
string-limits digits xs e = let b = bind-ok (some_bytes_in_hex digits) _ xs e in string-by digits b.0 xs (nat_lt 129 (length b.0)) refl b.1 b.2

collided-limits : (bytes : List ℕ) (s : Stated) → collided_in bytes ≡ Ok s → IsStatedInLimits s
unfolding collided_in
collided-limits bytes s e =
    let b1 = bind-ok (ok_or (cut_at 32 bytes) NoForm) _ s e in
    let b2 = bind-ok (string_in (b1.0).0) _ s b1.2 in
    let b3 = bind-ok (string_in (b1.0).1) _ s b2.2 in
    subst IsStatedInLimits (ok-same (stated.Collision b2.0 b3.0) s b3.2) (string-limits (b1.0).0 b2.0 b2.1, string-limits (b1.0).1 b3.0 b3.1)

left-limits : (s : Stated) (c : Bool) → (if c then okay {E = LineFault} stated.NoneLeft else Err NoForm) ≡ Ok s → IsStatedInLimits s
left-limits s true e = subst IsStatedInLimits (ok-same stated.NoneLeft s e) tt
left-limits s false e = absurd (cc)

collided-or-none-limits : (bytes : List ℕ) (s : Stated) (o : Option (List ℕ)) → collided_or_none bytes o ≡ Ok s → IsStatedInLimits s
collided-or-none-limits bytes s (Some rest) e = collided-limits rest s e
collided-or-none-limits bytes s None e = left-limits s (bytes_eq bytes (codes "none left")) e

verdict-by : (bytes : List ℕ) (s : Stated) (o : Option (List ℕ)) → accepted_or_not bytes o ≡ Ok s → IsStatedInLimits s
verdict-by bytes s (Some rest) e = accepted-limits rest s e
verdict-by bytes s None e = collided-or-none-limits bytes s (behind_word (codes "collision ") bytes) e

verdict-limits : (bytes : List ℕ) (s : Stated) → verdict_in bytes ≡ Ok s → IsStatedInLimits s
unfolding verdict_in
verdict-limits bytes s e = verdict-by bytes s (behind_word (codes "accept ") bytes) e

-- a line

abbrev IsEntryRead : Entry → Type 0
IsEntryRead (Move m) = IsMoveRead m
IsEntryRead (Verdict s) = IsStatedInLimits s

entry-by : WireSpells → (bytes : List ℕ) (x : Entry) (o : Option (List ℕ)) → move_or_verdict bytes o ≡ Ok x → IsEntryRead x
entry-by wire bytes x (Some rest) e =
    let b = bind-ok (move_in rest) (λ m. Ok (Move m)) x e in
    subst IsEntryRead (ok-same (Move b.0) x b.2) (move-read wire rest b.0 b.1)
entry-by wire bytes x None e =
    let b = bind-ok (verdict_in bytes) (λ s. Ok (Verdict s)) x e in
    subst IsEntryRead (ok-same (Verdict b.0) x b.2) (verdict-limits bytes b.0 b.1)

entry-read : WireSpells → (bytes : List ℕ) (x : Entry) → entry_in bytes ≡ Ok x → IsEntryRead x
unfolding entry_in
entry-read wire bytes x e = entry-by wire bytes x (behind_word (codes "move ") bytes) e

-- later lines

-- moves and a verdict within the limits
record IsRestInLimits (p : ℕ) (x : List TextMove × Stated) : Type 0 where
  moves : AreMovesInLimits p x.0
  stated : IsStatedInLimits x.1

pub moves-both : (p : ℕ) (ms ns : List TextMove) → AreMovesInLimits p ms → AreMovesInLimits p ns → AreMovesInLimits p (ms ++ ns)
moves-both p [] ns a b = b
moves-both p (m ∷ ms) ns a b = (a.0, moves-both p ms ns a.1 b)

ended-limits : (p n : ℕ) (moves : List TextMove) (s : Stated) (x : List TextMove × Stated) (ls : Lines) → AreMovesInLimits p moves → IsStatedInLimits s → after_verdict n moves s ls ≡ Ok x → IsRestInLimits p x
ended-limits p n moves s x (tail []) a b e = subst (IsRestInLimits p) (pair-same (moves, s) x e) (record { moves = a; stated = b })
ended-limits p n moves s x (tail (t ∷ ts)) a b e = absurd (let some : (length (t ∷ ts) == 0) ≡ false = grind (arith, nat_tests) in let h = rw some at e in cc)
ended-limits p n moves s x (line l ls) a b e = absurd (cc)

is-prover-of : (p n : ℕ) → is_prover p n ≡ true → (1 ≤ n) × (n ≤ p)
is-prover-of p n e =
    let parts : (nat_le 1 n ≡ true) × (nat_le n p ≡ true) = and_parts (nat_le 1 n) (nat_le n p) e in
    let a : nat_le 1 n ≡ true = parts.0 in
    let b : nat_le n p ≡ true = parts.1 in
    (grind (arith, nat_tests), grind (arith, nat_tests))

later-limits : WireSpells → (p n : ℕ) (moves : List TextMove) (x : List TextMove × Stated) (ls : Lines) → AreMovesInLimits p moves → later p n moves ls ≡ Ok x → IsRestInLimits p x
later-limits wire p n moves x (tail t) so_far e = absurd (cc)
later-limits wire p n moves x (line l ls) so_far e = by (entry_in l) refl e (λ k more o h. later-limits wire p k more x ls o h)
  where
    moved : (m : TextMove) (c : Bool) → IsMoveRead m → is_prover p m.prover ≡ c → (if c then later p (n + 1) (moves ++ m ∷ []) ls else Err (OutOfRange n)) ≡ Ok x →
        ((k : ℕ) (more : List TextMove) → AreMovesInLimits p more → later p k more ls ≡ Ok x → IsRestInLimits p x) → IsRestInLimits p x
    moved m true r is h further =
        let i : IsMoveInLimits p m = record { dispute = r.dispute; round = r.round; prover = is-prover-of p m.prover is; settled = r.settled } in
        further (n + 1) (moves ++ m ∷ []) (moves-both p moves (m ∷ []) so_far (i, tt)) h
    moved m false r is h further = absurd (cc)

    by : (r : Result Entry LineFault) → entry_in l ≡ r → line_read p n moves ls (λ m. later p (n + 1) (moves ++ m ∷ []) ls) r ≡ Ok x →
        ((k : ℕ) (more : List TextMove) → AreMovesInLimits p more → later p k more ls ≡ Ok x → IsRestInLimits p x) → IsRestInLimits p x
    by (Err f) is h further = absurd (cc)
    by (Ok (Move m)) is h further = moved m (is_prover p m.prover) (entry-read wire l (Move m) is) refl h further
    by (Ok (Verdict s)) is h further = ended-limits p n moves s x ls so_far (entry-read wire l (Verdict s) is) h

-- the head

within-is : (l : Limit) (n : ℕ) → is_in_limit l n ≡ true → IsWithin l n
within-is l n e =
    let parts : (nat_le l.least n ≡ true) × (nat_le n l.most ≡ true) = and_parts (nat_le l.least n) (nat_le n l.most) e in
    let a : nat_le l.least n ≡ true = parts.0 in
    let b : nat_le n l.most ≡ true = parts.1 in
    (grind (arith, nat_tests), grind (arith, nat_tests))

-- a root of 32 bytes
record IsRoot (d : Digest32) : Type 0 where
  whole : length d.0 ≡ 32
  bytes : AreBytes d.0

root-by : (digits ys : List ℕ) (d : Digest32) (c : Bool) → (length ys == 32) ≡ c → bytes_in_hex digits ≡ Ok ys → (if c then okay {E = LineFault} (let x : Digest32 = record { 0 = ys } in x) else Err NoForm) ≡ Ok d → IsRoot d
root-by digits ys d true is h e =
    let n : length ys ≡ 32 = grind (arith, nat_tests) in
    let x : Digest32 = record { 0 = ys } in
    let r : IsRoot x = record { whole = n; bytes = (hex-is digits ys h).bytes } in
    subst IsRoot (ok-same x d e) r
root-by digits ys d false is h e = absurd (cc)

root-read : (digits : List ℕ) (d : Digest32) → digest_in_hex digits ≡ Ok d → IsRoot d
unfolding digest_in_hex
root-read digits d e = let b = bind-ok (bytes_in_hex digits) _ d e in root-by digits b.0 d (length b.0 == 32) refl b.1 b.2

start-read : (bytes : List ℕ) (h : HeadNumbers) → head_in bytes ≡ Ok h → IsRoot h.start
unfolding head_in
start-read bytes h e =
    let b1 = bind-ok (number_after (codes "refereed provers ") bytes) _ h e in
    let b2 = bind-ok (number_after (codes " bound ") (b1.0).1) _ h b1.2 in
    let b3 = bind-ok (number_after (codes " patience ") (b2.0).1) _ h b2.2 in
    let b4 = bind-ok (number_after (codes " version ") (b3.0).1) _ h b3.2 in
    let b5 = bind-ok (number_after (codes " fan ") (b4.0).1) _ h b4.2 in
    let b6 = bind-ok (skip_word (codes " digest ") (b5.0).1) _ h b5.2 in
    let b7 = bind-ok (name_at b6.0) _ h b6.2 in
    let b8 = bind-ok (skip_word (codes " start ") (b7.0).1) _ h b7.2 in
    let b9 = bind-ok (digest_in_hex b8.0) _ h b8.2 in
    let x : HeadNumbers = record { provers = (b1.0).0; bound = (b2.0).0; patience = (b3.0).0; version = (b4.0).0; fan = (b5.0).0; digest = (b7.0).0; start = b9.0 } in
    subst IsRoot (ap (λ (y : HeadNumbers). y.start) (ok-same x h b9.2)) (root-read b8.0 b9.0 b9.1)

head-limits : (n : HeadNumbers) → AreWithin n → IsRoot n.start → IsHeadInLimits (head_of_numbers n)
head-limits n w r = record {
  provers = within-is provers_limit n.provers w.provers;
  bound = within-is bound_limit n.bound w.bound;
  patience = within-is patience_limit n.patience w.patience;
  version = within-is version_limit n.version w.version;
  fan = within-is fan_limit n.fan w.fan;
  length = r.whole;
  bytes = r.bytes;
}

head-by : (n : HeadNumbers) (h : Head) (c : Bool) → IsRoot n.start → numbers_are_in_limits (head_of_numbers n) ≡ c → (if c then Ok (head_of_numbers n) else Err (OutOfRange 1)) ≡ Ok h → IsHeadInLimits h
head-by n h true r is e = subst IsHeadInLimits (head-same (head_of_numbers n) h e) (head-limits n (are-within n is) r)
head-by n h false r is e = absurd (cc)

head-read : (bytes : List ℕ) (r : Result HeadNumbers LineFault) (h : Head) → head_in bytes ≡ r → head_with r ≡ Ok h → IsHeadInLimits h
head-read bytes (Err f) h is e = absurd (cc)
head-read bytes (Ok n) h is e = head-by n h (numbers_are_in_limits (head_of_numbers n)) (start-read bytes n is) refl e

-- the whole text

text-limits : WireSpells → (ls : Lines) (x : FullText) → text_in_lines ls ≡ Ok x → IsInLimits x
text-limits wire (tail t) x e = absurd (cc)
text-limits wire (line l ls) x e =
    let b1 = bind-ok (head_with (head_in l)) (λ h. rest_with h ls) x e in
    let b2 = bind-ok (later (b1.0).provers 2 [] ls) _ x b1.2 in
    let y : FullText = record { head = b1.0; moves = (b2.0).0; stated = (b2.0).1 } in
    let r : IsRestInLimits (b1.0).provers b2.0 = later-limits wire (b1.0).provers 2 [] b2.0 ls tt b2.1 in
    let i : IsInLimits y = record { head = head-read l (head_in l) b1.0 refl b1.1; moves = r.moves; stated = r.stated } in
    subst IsInLimits (text-same y x b2.2) i

abbrev pub ReadIsInLimits : Type 0
ReadIsInLimits = (bytes : List ℕ) (x : FullText) → read_text bytes ≡ Ok x → IsInLimits x

pub read-is-in-limits : WireSpells → ReadIsInLimits
unfolding read_text
read-is-in-limits wire bytes x e = text-limits wire (lines_of bytes) x e
