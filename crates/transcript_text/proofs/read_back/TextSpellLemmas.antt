-- A text that is read is the text of what it is read as.
use Rattle.std.proofs.Common.{◌≡◌, ℕ, ◌+◌, ◌<◌, ◌≤◌, nat_le, nat_lt, Bool, true, false, ◌&&◌, ◌==◌, if◌then◌else◌, List, [], ◌∷◌, ◌++◌, length, Option, Some, None, Result, Ok, Err, refl, sym, ◌∙◌, ap, arith, subst, append-nil, append_assoc}
use Rattle.std.specs.Prelude.{codes, decimal, bytes_eq}
use Rattle.std.specs.Option.{ok_or, option_map_or}
use Rattle.std.proofs.lemmas.Bool.Decides.{nat_tests}
use Rattle.std.proofs.lemmas.Slice.Eq.{bytes_eq-Decides}
use Rattle.std.proofs.lemmas.Bool.{and_parts}
use Rattle.hex.specs.Hex.{encode_lower}
use Rattle.rd_base.specs.Status.{status_text}
use Rattle.digest_core.specs.Name.{digest_text, digest_names}
use Rattle.digest_core.specs.declared.name.DigestName.{DigestName}
use Rattle.transcript_text.specs.Report.{output_text}
use Rattle.transcript_text.specs.declared.reader.fault.LineFault.{LineFault}
use Rattle.transcript_text.specs.declared.reader.fault.LineFault.TheVariants.{NoForm}
use Rattle.transcript_text.specs.declared.reader.fault.TextFault.{TextFault}
use Rattle.transcript_text.specs.declared.reader.fault.TextFault.TheVariants.{OutOfRange, Truncated}
use Rattle.transcript_text.specs.declared.reader.entries.Entry.{Entry}
use Rattle.transcript_text.specs.declared.reader.entries.Entry.TheVariants.{Move, Verdict}
use Rattle.transcript_text.specs.declared.reader.entries.HeadNumbers.{HeadNumbers}
use Rattle.transcript_text.specs.declared.text.Head.{Head}
use Rattle.transcript_text.specs.declared.text.TextMove.{TextMove}
use Rattle.transcript_text.specs.declared.text.Stated.{Stated}
use Rattle.transcript_text.specs.declared.text.Stated.TheVariants as stated
use Rattle.transcript_text.specs.declared.text.FullText.{FullText}
use Rattle.transcript_text.specs.FullLines.{refereed_text, asked_text, settled_text, move_text, moves_text, text_of}
use Rattle.transcript_text.specs.reader.TextLines.{Lines, tail, line, lines_of, cut_at}
use Rattle.transcript_text.specs.reader.Fields.{behind_word, skip_word, decimal_at, number_after, bytes_in_hex, some_bytes_in_hex, digest_in_hex, name_among, name_at}
use Rattle.transcript_text.specs.reader.Entries.{head_in, move_in, status_at, output_in, accepted_in, string_in, collided_in, verdict_in, entry_in}
use Rattle.transcript_text.specs.reader.ReadText.{is_prover, head_of_numbers, head_with, after_verdict, line_read, later, rest_with, text_in_lines, read_text}
use Rattle.transcript_text.specs.reader.Laws.{stated_text}
use Rattle.transcript_text.specs.Limits.{is_in_limit, provers_limit, bound_limit, patience_limit, version_limit, fan_limit, numbers_are_in_limits}
use Rattle.transcript_text.specs.declared.limits.Limit.{Limit}
use Rattle.transcript_text.proofs.read_back.SpellLemmas.{bind-ok, okay, ok-same, after-is, skip-is, number-is, some-hex-is, digest-is, joined, joined-lines, cut-is, WireSpells}
use Rattle.transcript_text.proofs.read_back.EntrySpellLemmas.{move-spelled, move-is, status-is}
use Rattle.transcript_text.proofs.read_back.BackLemmas.{stated-line, head-spelled, head-nested}
use Rattle.transcript_text.proofs.read_back.Forms.{collided_or_none, accepted_or_not, move_or_verdict}

-- the verdict

output-by : (b : ℕ) (bytes digits output : List ℕ) → skip_word (codes " ") (b ∷ bytes) ≡ Ok digits → some_bytes_in_hex digits ≡ Ok output → b ∷ bytes ≡ output_text output
unfolding some_bytes_in_hex
output-by b bytes digits [] is e = absurd (none-read digits e)
  where
    none-by : (ys : List ℕ) (c : Bool) → (length ys == 0) ≡ c → (if c then Err NoForm else Ok ys) ≡ Ok [] → ⊥
    none-by ys true z h = cc
    none-by [] false z h = cc
    none-by (y ∷ ys) false z h = let q : y ∷ ys ≡ [] = ok-same (y ∷ ys) [] h in cc

    none-read : (ds : List ℕ) → some_bytes_in_hex ds ≡ Ok [] → ⊥
    none-read ds h = let q = bind-ok (bytes_in_hex ds) _ [] h in none-by q.0 (length q.0 == 0) refl q.2
output-by b bytes digits (o ∷ output) is e = skip-is (codes " ") (b ∷ bytes) digits is ∙ ap (λ (xs : List ℕ). codes " " ++ xs) (some-hex-is digits (o ∷ output) e).is

output-is : (bytes output : List ℕ) → output_in bytes ≡ Ok output → bytes ≡ output_text output
unfolding output_in
output-is [] output e = ap output_text (ok-same [] output e)
output-is (b ∷ bytes) output e = let q = bind-ok (skip_word (codes " ") (b ∷ bytes)) some_bytes_in_hex output e in output-by b bytes q.0 output q.1 q.2

accepted-is : (bytes : List ℕ) (s : Stated) → accepted_in bytes ≡ Ok s → (codes "accept " ++ bytes) ≡ stated_text s
unfolding accepted_in
accepted-is bytes s e =
    let b1 = bind-ok (status_at bytes) _ s e in
    let b2 = bind-ok (skip_word (codes " output") (b1.0).1) _ s b1.2 in
    let b3 = bind-ok (output_in b2.0) _ s b2.2 in
    let same : stated.Accept (b1.0).0 b3.0 ≡ s = ok-same (stated.Accept (b1.0).0 b3.0) s b3.2 in
    let s1 : bytes ≡ status_text (b1.0).0 ++ (b1.0).1 = status-is bytes (b1.0).1 (b1.0).0 b1.1 in
    let s2 : (b1.0).1 ≡ codes " output" ++ b2.0 = skip-is (codes " output") (b1.0).1 b2.0 b2.1 in
    let s3 : b2.0 ≡ output_text b3.0 = output-is b2.0 b3.0 b3.1 in
    ap (λ (xs : List ℕ). codes "accept " ++ xs)
    (s1 ∙ (ap (λ (xs : List ℕ). status_text (b1.0).0 ++ xs) (s2 ∙ ap (λ (xs : List ℕ). codes " output" ++ xs) s3) ∙ sym (append_assoc (status_text (b1.0).0) (codes " output") (output_text b3.0))))
    ∙ ap stated_text same

string-by : (digits ys xs : List ℕ) (c : Bool) → some_bytes_in_hex digits ≡ Ok ys → (if c then Err NoForm else Ok ys) ≡ Ok xs → digits ≡ encode_lower xs
string-by digits ys xs true is e = absurd (cc)
string-by digits ys xs false is e = (some-hex-is digits xs (is ∙ ap Ok (ok-same ys xs e))).is

string-is : (digits xs : List ℕ) → string_in digits ≡ Ok xs → digits ≡ encode_lower xs
unfolding string_in
string-is digits xs e = let b = bind-ok (some_bytes_in_hex digits) _ xs e in string-by digits b.0 xs (nat_lt 129 (length b.0)) b.1 b.2

cut-by : (o : Option (List ℕ × List ℕ)) (x : List ℕ × List ℕ) → ok_or o NoForm ≡ Ok x → o ≡ Some x
cut-by (Some y) x e = ap Some (ok-same y x e)
cut-by None x e = absurd (cc)

collided-is : (bytes : List ℕ) (s : Stated) → collided_in bytes ≡ Ok s → (codes "collision " ++ bytes) ≡ stated_text s
unfolding collided_in
collided-is bytes s e =
    let b1 = bind-ok (ok_or (cut_at 32 bytes) NoForm) _ s e in
    let b2 = bind-ok (string_in (b1.0).0) _ s b1.2 in
    let b3 = bind-ok (string_in (b1.0).1) _ s b2.2 in
    let same : stated.Collision b2.0 b3.0 ≡ s = ok-same (stated.Collision b2.0 b3.0) s b3.2 in
    let s1 : bytes ≡ (b1.0).0 ++ (32 ∷ (b1.0).1) = cut-is 32 bytes (b1.0).0 (b1.0).1 (cut-by (cut_at 32 bytes) b1.0 b1.1) in
    let s2 : (b1.0).0 ≡ encode_lower b2.0 = string-is (b1.0).0 b2.0 b2.1 in
    let s3 : (b1.0).1 ≡ encode_lower b3.0 = string-is (b1.0).1 b3.0 b3.1 in
    ap (λ (xs : List ℕ). codes "collision " ++ xs) (s1 ∙ (ap (λ (xs : List ℕ). xs ++ (32 ∷ (b1.0).1)) s2 ∙ ap (λ (xs : List ℕ). encode_lower b2.0 ++ (32 ∷ xs)) s3))
    ∙ ap stated_text same

left-by : (bytes : List ℕ) (s : Stated) (c : Bool) → bytes_eq bytes (codes "none left") ≡ c → (if c then okay {E = LineFault} stated.NoneLeft else Err NoForm) ≡ Ok s → bytes ≡ stated_text s
left-by bytes s true is e = (bytes_eq-Decides bytes (codes "none left")).0 is ∙ ap stated_text (ok-same stated.NoneLeft s e)
left-by bytes s false is e = absurd (cc)

collided-by : (bytes : List ℕ) (s : Stated) (o : Option (List ℕ)) → behind_word (codes "collision ") bytes ≡ o → collided_or_none bytes o ≡ Ok s → bytes ≡ stated_text s
collided-by bytes s (Some rest) is e = after-is (codes "collision ") bytes rest is ∙ collided-is rest s e
collided-by bytes s None is e = left-by bytes s (bytes_eq bytes (codes "none left")) refl e

accepted-by : (bytes : List ℕ) (s : Stated) (o : Option (List ℕ)) → behind_word (codes "accept ") bytes ≡ o → accepted_or_not bytes o ≡ Ok s → bytes ≡ stated_text s
accepted-by bytes s (Some rest) is e = after-is (codes "accept ") bytes rest is ∙ accepted-is rest s e
accepted-by bytes s None is e = collided-by bytes s (behind_word (codes "collision ") bytes) refl e

-- lines

entry_text : Entry → List ℕ
entry_text (Move m) = move_text m
entry_text (Verdict s) = stated_text s

move-nested : (m : TextMove) → (codes "move " ++ move-spelled m) ≡ move_text m
unfolding move-spelled asked_text
move-nested m =
    let e : (decimal m.qid.dispute ++ (codes " " ++ (decimal m.qid.round ++ (codes " p" ++ (decimal m.prover ++ codes " "))))) ++ settled_text m.settled
    ≡ decimal m.qid.dispute ++ (codes " " ++ (decimal m.qid.round ++ (codes " p" ++ (decimal m.prover ++ (codes " " ++ settled_text m.settled))))) = simp append_assoc in
    ap (λ (xs : List ℕ). codes "move " ++ xs) (sym e)

entry-by : WireSpells → (bytes : List ℕ) (x : Entry) (o : Option (List ℕ)) → behind_word (codes "move ") bytes ≡ o → move_or_verdict bytes o ≡ Ok x → bytes ≡ entry_text x
unfolding entry_text verdict_in
entry-by wire bytes x (Some rest) is e =
    let b = bind-ok (move_in rest) (λ m. Ok (Move m)) x e in
    after-is (codes "move ") bytes rest is ∙ (ap (λ (xs : List ℕ). codes "move " ++ xs) (move-is wire rest b.0 b.1) ∙ (move-nested b.0 ∙ ap entry_text (ok-same (Move b.0) x b.2)))
entry-by wire bytes x None is e =
    let b = bind-ok (verdict_in bytes) (λ s. Ok (Verdict s)) x e in
    accepted-by bytes b.0 (behind_word (codes "accept ") bytes) refl b.1 ∙ ap entry_text (ok-same (Verdict b.0) x b.2)

entry-is : WireSpells → (bytes : List ℕ) (x : Entry) → entry_in bytes ≡ Ok x → bytes ≡ entry_text x
unfolding entry_in
entry-is wire bytes x e = entry-by wire bytes x (behind_word (codes "move ") bytes) refl e

-- the lines from one on are those of moves and of a verdict
pub record IsRest (moves all : List TextMove) (s : Stated) (ls : Lines) : Type 0 where
  pub rest : List TextMove
  pub is : all ≡ moves ++ rest
  pub spelled : joined ls ≡ moves_text rest ++ (stated_text s ++ codes "\n")

pub pair-same : (a b : List TextMove × Stated) → okay {E = TextFault} a ≡ Ok b → a ≡ b
pair-same a b e = cc

abbrev cut_off : Result (List TextMove × Stated) TextFault
cut_off = Err Truncated

ended-is : (n : ℕ) (moves all : List TextMove) (s z : Stated) (l : List ℕ) (ls : Lines) → l ≡ stated_text s → after_verdict n moves s ls ≡ Ok (all, z) → IsRest moves all z (line l ls)
unfolding joined
ended-is n moves all s z l (tail []) is e =
    let p : (moves, s) ≡ (all, z) = pair-same (moves, s) (all, z) e in
    record {
      rest = [];
      is = sym (ap (λ (x : List TextMove × Stated). x.0) p) ∙ sym (append-nil moves);
      spelled = ap (λ (xs : List ℕ). xs ++ (10 ∷ [])) (is ∙ ap stated_text (ap (λ (x : List TextMove × Stated). x.1) p));
    }
ended-is n moves all s z l (tail (t ∷ ts)) is e =
    let some : (length (t ∷ ts) == 0) ≡ false = grind (arith, nat_tests) in
    absurd (let no_ : cut_off ≡ Ok (all, z) = rw some at e in cc)
ended-is n moves all s z l (line k ks) is e = absurd (cc)

later-is : WireSpells → (provers n : ℕ) (moves all : List TextMove) (s : Stated) (ls : Lines) → later provers n moves ls ≡ Ok (all, s) → IsRest moves all s ls
unfolding joined entry_text
later-is wire provers n moves all s (tail t) e = absurd (cc)
later-is wire provers n moves all s (line l ls) e = by (entry_in l) refl e (λ k more h. later-is wire provers k more all s ls h)
  where
    moved : (m : TextMove) (c : Bool) → entry_in l ≡ Ok (Move m) → (if c then later provers (n + 1) (moves ++ m ∷ []) ls else Err (OutOfRange n)) ≡ Ok (all, s) →
        ((k : ℕ) (more : List TextMove) → later provers k more ls ≡ Ok (all, s) → IsRest more all s ls) → IsRest moves all s (line l ls)
    moved m true is h further =
        let r : IsRest (moves ++ m ∷ []) all s ls = further (n + 1) (moves ++ m ∷ []) h in
        record {
          rest = m ∷ r.rest;
          is = r.is ∙ append_assoc moves (m ∷ []) r.rest;
          spelled = ap (λ (xs : List ℕ). xs ++ (10 ∷ joined ls)) (entry-is wire l (Move m) is) ∙ (ap (λ (xs : List ℕ). move_text m ++ (10 ∷ xs)) r.spelled
              ∙ sym (append_assoc (move_text m) (codes "\n" ++ moves_text r.rest) (stated_text s ++ codes "\n")));
        }
    moved m false is h further = absurd (cc)

    by : (r : Result Entry LineFault) → entry_in l ≡ r → line_read provers n moves ls (λ x. later provers (n + 1) (moves ++ x ∷ []) ls) r ≡ Ok (all, s) →
        ((k : ℕ) (more : List TextMove) → later provers k more ls ≡ Ok (all, s) → IsRest more all s ls) → IsRest moves all s (line l ls)
    by (Err f) is h further = absurd (cc)
    by (Ok (Move m)) is h further = moved m (is_prover provers m.prover) is h further
    by (Ok (Verdict z)) is h further = ended-is n moves all z s l ls (entry-is wire l (Verdict z) is) h

-- the head

name-by : (ds : List DigestName) (bytes rest : List ℕ) (d : DigestName) → name_among ds bytes ≡ Ok (d, rest) → bytes ≡ digest_text d ++ rest
name-by [] bytes rest d e = absurd (cc)
name-by (x ∷ xs) bytes rest d e = by (behind_word (digest_text x) bytes) refl e (name-by xs bytes rest d)
  where
    by : (o : Option (List ℕ)) → behind_word (digest_text x) bytes ≡ o → option_map_or (λ rest. Ok (x, rest)) o (name_among xs bytes) ≡ Ok (d, rest) → (name_among xs bytes ≡ Ok (d, rest) → bytes ≡ digest_text d ++ rest) → bytes ≡ digest_text d ++ rest
    by (Some behind) is h further =
        let p : (x, behind) ≡ (d, rest) = ok-same (x, behind) (d, rest) h in
        after-is (digest_text x) bytes behind is ∙ ap (λ (y : DigestName × List ℕ). digest_text y.0 ++ y.1) p
    by None is h further = further h

name-is : (bytes rest : List ℕ) (d : DigestName) → name_at bytes ≡ Ok (d, rest) → bytes ≡ digest_text d ++ rest
unfolding name_at
name-is bytes rest d e = name-by digest_names bytes rest d e

number-after-is : (word bytes rest : List ℕ) (n : ℕ) → number_after word bytes ≡ Ok (n, rest) → n < 4294967296 → bytes ≡ word ++ (decimal n ++ rest)
unfolding number_after
number-after-is word bytes rest n e few =
    let b = bind-ok (skip_word word bytes) decimal_at (n, rest) e in
    skip-is word bytes b.0 b.1 ∙ ap (λ (xs : List ℕ). word ++ xs) (number-is n b.0 rest b.2 few)

pub record AreSmall (h : HeadNumbers) : Type 0 where
  pub provers : h.provers < 4294967296
  pub bound : h.bound < 4294967296
  pub patience : h.patience < 4294967296
  pub version : h.version < 4294967296
  pub fan : h.fan < 4294967296

head-is : (bytes : List ℕ) (h : HeadNumbers) → head_in bytes ≡ Ok h → AreSmall h → bytes ≡ head-spelled (head_of_numbers h)
unfolding head_in head-spelled
head-is bytes h e small =
    let b1 = bind-ok (number_after (codes "refereed provers ") bytes) _ h e in
    let b2 = bind-ok (number_after (codes " bound ") (b1.0).1) _ h b1.2 in
    let b3 = bind-ok (number_after (codes " patience ") (b2.0).1) _ h b2.2 in
    let b4 = bind-ok (number_after (codes " version ") (b3.0).1) _ h b3.2 in
    let b5 = bind-ok (number_after (codes " fan ") (b4.0).1) _ h b4.2 in
    let b6 = bind-ok (skip_word (codes " digest ") (b5.0).1) _ h b5.2 in
    let b7 = bind-ok (name_at b6.0) _ h b6.2 in
    let b8 = bind-ok (skip_word (codes " start ") (b7.0).1) _ h b7.2 in
    let b9 = bind-ok (digest_in_hex b8.0) _ h b8.2 in
    let x : HeadNumbers = record { provers = (b1.0).0; bound = (b2.0).0; patience = (b3.0).0; version = (b4.0).0; fan = (b5.0).0; digest = (b7.0).0; start = b9.0 } in
    let same : x ≡ h = ok-same x h b9.2 in
    let l : AreSmall x = subst AreSmall (sym same) small in
    let s1 : bytes ≡ codes "refereed provers " ++ (decimal (b1.0).0 ++ (b1.0).1) = number-after-is (codes "refereed provers ") bytes (b1.0).1 (b1.0).0 b1.1 l.provers in
    let s2 : (b1.0).1 ≡ codes " bound " ++ (decimal (b2.0).0 ++ (b2.0).1) = number-after-is (codes " bound ") (b1.0).1 (b2.0).1 (b2.0).0 b2.1 l.bound in
    let s3 : (b2.0).1 ≡ codes " patience " ++ (decimal (b3.0).0 ++ (b3.0).1) = number-after-is (codes " patience ") (b2.0).1 (b3.0).1 (b3.0).0 b3.1 l.patience in
    let s4 : (b3.0).1 ≡ codes " version " ++ (decimal (b4.0).0 ++ (b4.0).1) = number-after-is (codes " version ") (b3.0).1 (b4.0).1 (b4.0).0 b4.1 l.version in
    let s5 : (b4.0).1 ≡ codes " fan " ++ (decimal (b5.0).0 ++ (b5.0).1) = number-after-is (codes " fan ") (b4.0).1 (b5.0).1 (b5.0).0 b5.1 l.fan in
    let s6 : (b5.0).1 ≡ codes " digest " ++ b6.0 = skip-is (codes " digest ") (b5.0).1 b6.0 b6.1 in
    let s7 : b6.0 ≡ digest_text (b7.0).0 ++ (b7.0).1 = name-is b6.0 (b7.0).1 (b7.0).0 b7.1 in
    let s8 : (b7.0).1 ≡ codes " start " ++ b8.0 = skip-is (codes " start ") (b7.0).1 b8.0 b8.1 in
    let s9 : b8.0 ≡ encode_lower (b9.0).0 = digest-is b8.0 b9.0 b9.1 in
    let t8 : (b7.0).1 ≡ codes " start " ++ encode_lower (b9.0).0 = s8 ∙ ap (λ (xs : List ℕ). codes " start " ++ xs) s9 in
    let t6 : (b5.0).1 ≡ codes " digest " ++ (digest_text (b7.0).0 ++ (codes " start " ++ encode_lower (b9.0).0)) =
    s6 ∙ ap (λ (xs : List ℕ). codes " digest " ++ xs) (s7 ∙ ap (λ (xs : List ℕ). digest_text (b7.0).0 ++ xs) t8) in
    s1 ∙ (ap (λ (xs : List ℕ). codes "refereed provers " ++ (decimal (b1.0).0 ++ xs)) (s2
    ∙ ap (λ (xs : List ℕ). codes " bound " ++ (decimal (b2.0).0 ++ xs)) (s3
    ∙ ap (λ (xs : List ℕ). codes " patience " ++ (decimal (b3.0).0 ++ xs)) (s4
    ∙ ap (λ (xs : List ℕ). codes " version " ++ (decimal (b4.0).0 ++ xs)) (s5
    ∙ ap (λ (xs : List ℕ). codes " fan " ++ (decimal (b5.0).0 ++ xs)) t6))))
    ∙ ap (λ (y : HeadNumbers). head-spelled (head_of_numbers y)) same)

within-few : (l : Limit) (n : ℕ) → l.most < 4294967296 → is_in_limit l n ≡ true → n < 4294967296
within-few l n few e =
    let parts : (nat_le l.least n ≡ true) × (nat_le n l.most ≡ true) = and_parts (nat_le l.least n) (nat_le n l.most) e in
    let most : nat_le n l.most ≡ true = parts.1 in
    let m : n ≤ l.most = grind (arith, nat_tests) in
    omega (arith, m, few)

-- the numbers of a head, each within its limit
pub record AreWithin (h : HeadNumbers) : Type 0 where
  pub provers : is_in_limit provers_limit h.provers ≡ true
  pub bound : is_in_limit bound_limit h.bound ≡ true
  pub patience : is_in_limit patience_limit h.patience ≡ true
  pub version : is_in_limit version_limit h.version ≡ true
  pub fan : is_in_limit fan_limit h.fan ≡ true

pub are-within : (h : HeadNumbers) → numbers_are_in_limits (head_of_numbers h) ≡ true → AreWithin h
are-within h e =
    let p1 : (is_in_limit provers_limit h.provers ≡ true) × ((is_in_limit bound_limit h.bound && (is_in_limit patience_limit h.patience && (is_in_limit version_limit h.version && is_in_limit fan_limit h.fan))) ≡ true) = and_parts _ _ e in
    let p2 : (is_in_limit bound_limit h.bound ≡ true) × ((is_in_limit patience_limit h.patience && (is_in_limit version_limit h.version && is_in_limit fan_limit h.fan)) ≡ true) = and_parts _ _ p1.1 in
    let p3 : (is_in_limit patience_limit h.patience ≡ true) × ((is_in_limit version_limit h.version && is_in_limit fan_limit h.fan) ≡ true) = and_parts _ _ p2.1 in
    let p4 : (is_in_limit version_limit h.version ≡ true) × (is_in_limit fan_limit h.fan ≡ true) = and_parts _ _ p3.1 in
    record { provers = p1.0; bound = p2.0; patience = p3.0; version = p4.0; fan = p4.1 }

small-limits : (h : HeadNumbers) → numbers_are_in_limits (head_of_numbers h) ≡ true → AreSmall h
small-limits h e =
    let w : AreWithin h = are-within h e in
    record {
      provers = within-few provers_limit h.provers (omega arith) w.provers;
      bound = within-few bound_limit h.bound (omega arith) w.bound;
      patience = within-few patience_limit h.patience (omega arith) w.patience;
      version = within-few version_limit h.version (omega arith) w.version;
      fan = within-few fan_limit h.fan (omega arith) w.fan;
    }

pub head-same : (a b : Head) → okay {E = TextFault} a ≡ Ok b → a ≡ b
head-same a b e = cc

head-by : (bytes : List ℕ) (r : Result HeadNumbers LineFault) (h : Head) → head_in bytes ≡ r → head_with r ≡ Ok h → bytes ≡ refereed_text h
head-by bytes (Err f) h is e = absurd (cc)
head-by bytes (Ok n) h is e = by (numbers_are_in_limits (head_of_numbers n)) refl e
  where
    by : (c : Bool) → numbers_are_in_limits (head_of_numbers n) ≡ c → (if c then Ok (head_of_numbers n) else Err (OutOfRange 1)) ≡ Ok h → bytes ≡ refereed_text h
    by true limits k = head-is bytes n is (small-limits n limits) ∙ (ap head-spelled (head-same (head_of_numbers n) h k) ∙ sym (head-nested h))
    by false limits k = absurd (cc)

pub text-same : (a b : FullText) → okay {E = TextFault} a ≡ Ok b → a ≡ b
text-same a b e = cc

text-by : WireSpells → (ls : Lines) (x : FullText) → text_in_lines ls ≡ Ok x → joined ls ≡ text_of x
unfolding joined
text-by wire (tail t) x e = absurd (cc)
text-by wire (line l ls) x e =
    let b1 = bind-ok (head_with (head_in l)) (λ h. rest_with h ls) x e in
    let b2 = bind-ok (later (b1.0).provers 2 [] ls) _ x b1.2 in
    let y : FullText = record { head = b1.0; moves = (b2.0).0; stated = (b2.0).1 } in
    let same : y ≡ x = text-same y x b2.2 in
    let head : l ≡ refereed_text b1.0 = head-by l (head_in l) b1.0 refl b1.1 in
    let r : IsRest [] (b2.0).0 (b2.0).1 ls = later-is wire (b1.0).provers 2 [] (b2.0).0 (b2.0).1 ls b2.1 in
    ap (λ (xs : List ℕ). xs ++ (10 ∷ joined ls)) head
    ∙ (ap (λ (xs : List ℕ). refereed_text b1.0 ++ (10 ∷ xs)) (r.spelled ∙ (ap (λ (ms : List TextMove). moves_text ms ++ (stated_text (b2.0).1 ++ codes "\n")) (sym r.is)
    ∙ ap (λ (xs : List ℕ). moves_text (b2.0).0 ++ xs) (sym (stated-line (b2.0).1))))
    ∙ ap text_of same)

-- what is read of bytes has them as its text
abbrev pub OneSpelling : Type 0
OneSpelling = (bytes : List ℕ) (x : FullText) → read_text bytes ≡ Ok x → bytes ≡ text_of x

pub one-spelling : WireSpells → OneSpelling
unfolding read_text
one-spelling wire bytes x e = sym (joined-lines bytes) ∙ text-by wire (lines_of bytes) x e
