-- What is read is what the bytes spell: no other bytes are read.
use Rattle.std.proofs.Common.{◌≡◌, ◌≢◌, ℕ, ◌+◌, ◌-◌, ◌*◌, ◌/◌, ◌%◌, ◌<◌, ◌≤◌, nat_le, nat_lt, Bool, true, false, ◌==◌, if◌then◌else◌, List, [], ◌∷◌, ◌++◌, length, Option, Some, None, Result, Ok, Err, inl, inr, refl, sym, ◌∙◌, ap, arith, subst, append-nil, append_assoc}
use Rattle.std.specs.Char.{is_ascii_digit}
use Rattle.std.specs.Prelude.{decimal}
use Rattle.std.specs.Option.{ok_or}
use Rattle.std.proofs.lemmas.Bool.Decides.{nat_tests}
use Rattle.std.proofs.lemmas.Bool.{cases_Bool, and_parts}
use Rattle.std.proofs.lemmas.Fmt.{decimal_digit, decimal_step}
use Rattle.hex.specs.Hex.{encode_lower, decode_of}
use Rattle.transcript_text.proofs.read_back.HexSpellLemmas.{decoded-are, decoded-bytes}
use Rattle.transcript_text.specs.reader.InLimits.{AreBytes}
use Rattle.rd_base.specs.Results.{◌>>=◌, map_fault}
use Rattle.rd_base.specs.declared.answer.Answer.{Answer}
use Rattle.rd_base.specs.declared.digest.Digest32.{Digest32}
use Rattle.proof_wire.specs.Wire.{Spells}
use Rattle.proof_wire.specs.Reading.{answer_in}
use Rattle.transcript_text.specs.declared.reader.fault.LineFault.{LineFault}
use Rattle.transcript_text.specs.declared.reader.fault.LineFault.TheVariants.{NoForm}
use Rattle.transcript_text.specs.reader.TextLines.{Lines, tail, line, begun_with, lines_of, cut_front, cut_at}
use Rattle.transcript_text.specs.reader.Fields.{behind_word, skip_word, with_digit, digits_at, decimal_at, small_number_at, are_lower, bytes_in_hex, some_bytes_in_hex, digest_in_hex, answer_in_hex}
use Rattle.transcript_text.specs.FullLines.{wire_text}

pub is-eqb : (a b : ℕ) → (a == b) ≡ true → a ≡ b
is-eqb a b e = grind (arith, nat_tests)

-- what an Ok after >>= shows
pub bind-ok : {A B E : Type 0} (r : Result A E) (f : A → Result B E) (y : B) → (r >>= f) ≡ Ok y → (x : A) × (r ≡ Ok x) × (f x ≡ Ok y)
bind-ok (Ok x) f y h = (x, refl, h)
bind-ok (Err e) f y h = absurd (cc)

abbrev pub okay : {A E : Type 0} → A → Result A E
okay x = Ok x

pub ok-same : {A E : Type 0} (x y : A) → okay {A = A} {E = E} x ≡ Ok y → x ≡ y
ok-same x y e = cc

-- words

pub after-is : (word bytes rest : List ℕ) → behind_word word bytes ≡ Some rest → bytes ≡ word ++ rest
after-is [] bytes rest e = cc
after-is (w ∷ ws) [] rest e = absurd (cc)
after-is (w ∷ ws) (b ∷ bs) rest e =
    elim (cases_Bool (b == w)) [
      | inl same ↦ (let at : b ≡ w = is-eqb b w same in let r : bs ≡ ws ++ rest = after-is ws bs rest (rw same at e) in rw (at, r) refl)
      | inr other ↦ absurd (let no_ : None ≡ Some rest = rw other at e in cc)
    ]

skip-by : (o : Option (List ℕ)) (rest : List ℕ) → ok_or o NoForm ≡ Ok rest → o ≡ Some rest
skip-by (Some x) rest e = ap Some (ok-same x rest e)
skip-by None rest e = absurd (cc)

pub skip-is : (word bytes rest : List ℕ) → skip_word word bytes ≡ Ok rest → bytes ≡ word ++ rest
skip-is word bytes rest e = after-is word bytes rest (skip-by (behind_word word bytes) rest e)

-- numbers

digit-low : (b : ℕ) → is_ascii_digit b ≡ true → (48 ≤ b) × (b ≤ 57)
digit-low b e = let parts : (nat_le 48 b ≡ true) × (nat_le b 57 ≡ true) = and_parts (nat_le 48 b) (nat_le b 57) e in (grind (arith, nat_tests), grind (arith, nat_tests))

-- a number that is too large stays so
large-stays : (bytes : List ℕ) → (digits_at 4294967296 bytes).0 ≡ 4294967296
large-stays [] = refl
large-stays (b ∷ bs) =
    elim (cases_Bool (is_ascii_digit b)) [
      | inl digit ↦ (let same : with_digit 4294967296 b ≡ 4294967296 = omega arith in rw (digit, same) (large-stays bs))
      | inr other ↦ rw other refl
    ]

-- the digits of a number after those of another
pub record IsContinued (k n : ℕ) (bytes rest : List ℕ) : Type 0 where
  pub digits : List ℕ
  pub is : bytes ≡ digits ++ rest
  pub spelled : decimal n ≡ decimal k ++ digits

continued-digit : (k b : ℕ) → 0 < k → 48 ≤ b → b ≤ 57 → 10 * k + (b - 48) < 4294967296 → decimal (10 * k + (b - 48)) ≡ decimal k ++ b ∷ []
continued-digit k b some low high few =
    let q : (10 * k + (b - 48)) / 10 ≡ k = omega arith in
    let r : 48 + (10 * k + (b - 48)) % 10 ≡ b = omega arith in
    decimal_step (10 * k + (b - 48)) (omega arith) (omega arith) ∙ rw (q, r) refl

continued-more : (k n b : ℕ) (bs rest : List ℕ) → 0 < k → is_ascii_digit b ≡ true → n < 4294967296 → digits_at (with_digit k b) bs ≡ (n, rest) →
    (with_digit k b < 4294967296 → IsContinued (with_digit k b) n bs rest) → IsContinued k n (b ∷ bs) rest
continued-more k n b bs rest some digit few e further =
    let range : (48 ≤ b) × (b ≤ 57) = digit-low b digit in
    elim (cases_Bool (nat_lt (10 * k + (b - 48)) 4294967296)) [
      | inl small ↦
          let lt : 10 * k + (b - 48) < 4294967296 = grind (arith, nat_tests) in
          let w : with_digit k b ≡ 10 * k + (b - 48) = omega arith in
          let i : IsContinued (with_digit k b) n bs rest = further (omega (arith, w, lt)) in
          let j : IsContinued (10 * k + (b - 48)) n bs rest = subst (λ (m : ℕ). IsContinued m n bs rest) w i in
          record {
            digits = b ∷ j.digits;
            is = ap (λ (xs : List ℕ). b ∷ xs) j.is;
            spelled = j.spelled ∙ (ap (λ (xs : List ℕ). xs ++ j.digits) (continued-digit k b some range.0 range.1 lt) ∙ append_assoc (decimal k) (b ∷ []) j.digits);
          }
      | inr large ↦
          let ge : 4294967296 ≤ 10 * k + (b - 48) = grind (arith, nat_tests) in
          let w : with_digit k b ≡ 4294967296 = omega arith in
          let z : (digits_at (with_digit k b) bs).0 ≡ 4294967296 = rw w (large-stays bs) in
          let v : (digits_at (with_digit k b) bs).0 ≡ n = ap (λ (x : ℕ × List ℕ). x.0) e in
          absurd (omega (arith, z, v, few))
    ]

pub continued : (k n : ℕ) (bytes rest : List ℕ) → 0 < k → n < 4294967296 → digits_at k bytes ≡ (n, rest) → IsContinued k n bytes rest
continued k n [] rest some few e =
    let same : k ≡ n = ap (λ (x : ℕ × List ℕ). x.0) e in
    let none : [] ≡ rest = ap (λ (x : ℕ × List ℕ). x.1) e in
    record { digits = []; is = none; spelled = sym (append-nil (decimal k) ∙ ap decimal same) }
continued k n (b ∷ bs) rest some few e =
    elim (cases_Bool (is_ascii_digit b)) [
      | inl digit ↦ continued-more k n b bs rest some digit few (rw digit at e) (λ small. continued (with_digit k b) n bs rest (omega arith) few (rw digit at e))
      | inr other ↦
          let stop : (k, b ∷ bs) ≡ (n, rest) = rw other at e in
          let same : k ≡ n = ap (λ (x : ℕ × List ℕ). x.0) stop in
          let left : b ∷ bs ≡ rest = ap (λ (x : ℕ × List ℕ). x.1) stop in
          record { digits = []; is = left; spelled = sym (append-nil (decimal k) ∙ ap decimal same) }
    ]

number-by : (n b : ℕ) (bs rest : List ℕ) (x y : Bool) → (b == 48) ≡ x → is_ascii_digit b ≡ y → n < 4294967296 →
    (if x then okay {E = LineFault} (0, bs) else if y then Ok (digits_at (b - 48) bs) else Err NoForm) ≡ Ok (n, rest) → b ∷ bs ≡ decimal n ++ rest
number-by n b bs rest true y ex ey few e =
    let p : (0, bs) ≡ (n, rest) = ok-same (0, bs) (n, rest) e in
    let z : 0 ≡ n = ap (λ (x : ℕ × List ℕ). x.0) p in
    let r : bs ≡ rest = ap (λ (x : ℕ × List ℕ). x.1) p in
    let d : decimal 0 ≡ 48 ∷ [] = decimal_digit 0 (omega arith) in
    rw (is-eqb b 48 ex, r, ← z, d) refl
number-by n b bs rest false true ex ey few e =
    let p : digits_at (b - 48) bs ≡ (n, rest) = ok-same (digits_at (b - 48) bs) (n, rest) e in
    let range : (48 ≤ b) × (b ≤ 57) = digit-low b ey in
    let far : b ≢ 48 = λ same. let yes_ : (b == 48) ≡ true = rw same refl in cc in
    let i : IsContinued (b - 48) n bs rest = continued (b - 48) n bs rest (omega (arith, range.0, far)) few p in
    let d : decimal (b - 48) ≡ (48 + (b - 48)) ∷ [] = decimal_digit (b - 48) (omega (arith, range.1)) in
    let one : 48 + (b - 48) ≡ b = omega (arith, range.0) in
    rw (i.spelled, d, one) (ap (λ (xs : List ℕ). b ∷ xs) i.is)
number-by n b bs rest false false ex ey few e = absurd (cc)

pub number-is : (n : ℕ) (bytes rest : List ℕ) → decimal_at bytes ≡ Ok (n, rest) → n < 4294967296 → bytes ≡ decimal n ++ rest
unfolding decimal_at
number-is n [] rest e few = absurd (cc)
number-is n (b ∷ bs) rest e few = number-by n b bs rest (b == 48) (is_ascii_digit b) refl refl few e

pub record IsSmall (n : ℕ) (bytes rest : List ℕ) : Type 0 where
  pub few : n < 4294967296
  pub is : bytes ≡ decimal n ++ rest

small-by : (x : ℕ × List ℕ) (n : ℕ) (bytes rest : List ℕ) (b : Bool) → decimal_at bytes ≡ Ok x → nat_lt x.0 4294967296 ≡ b → (if b then Ok x else Err NoForm) ≡ Ok (n, rest) → IsSmall n bytes rest
small-by x n bytes rest true is lt e =
    let p : x ≡ (n, rest) = ok-same x (n, rest) e in
    let few : n < 4294967296 = (let f : x.0 < 4294967296 = grind (arith, nat_tests) in let same : x.0 ≡ n = ap (λ (y : ℕ × List ℕ). y.0) p in omega (arith, f, same)) in
    record { few = few; is = number-is n bytes rest (is ∙ ap Ok p) few }
small-by x n bytes rest false is lt e = absurd (cc)

pub small-is : (n : ℕ) (bytes rest : List ℕ) → small_number_at bytes ≡ Ok (n, rest) → IsSmall n bytes rest
unfolding small_number_at
small-is n bytes rest e =
    let b = bind-ok (decimal_at bytes) _ (n, rest) e in
    small-by b.0 n bytes rest (nat_lt (b.0).0 4294967296) b.1 refl b.2

-- hexadecimal digits

pub or-ok : {A E : Type 0} (r : Result A E) (x : A) → map_fault (λ e. NoForm) r ≡ Ok x → r ≡ Ok x
or-ok (Ok y) x e = ap Ok (ok-same y x e)
or-ok (Err f) x e = absurd (cc)

pub record IsHexOf (xs digits : List ℕ) : Type 0 where
  pub is : digits ≡ encode_lower xs
  pub bytes : AreBytes xs

hex-by : (digits xs : List ℕ) (b : Bool) → are_lower digits ≡ b → (if b then map_fault (λ e. NoForm) (decode_of digits) else Err NoForm) ≡ Ok xs → IsHexOf xs digits
hex-by digits xs true l e =
    let d : decode_of digits ≡ Ok xs = or-ok (decode_of digits) xs e in
    record { is = decoded-are digits xs l d; bytes = decoded-bytes digits xs d }
hex-by digits xs false l e = absurd (cc)

pub hex-is : (digits xs : List ℕ) → bytes_in_hex digits ≡ Ok xs → IsHexOf xs digits
unfolding bytes_in_hex
hex-is digits xs e = hex-by digits xs (are_lower digits) refl e

some-by : (digits ys xs : List ℕ) (b : Bool) → bytes_in_hex digits ≡ Ok ys → (if b then Err NoForm else Ok ys) ≡ Ok xs → IsHexOf xs digits
some-by digits ys xs true h e = absurd (cc)
some-by digits ys xs false h e = hex-is digits xs (h ∙ ap Ok (ok-same ys xs e))

pub some-hex-is : (digits xs : List ℕ) → some_bytes_in_hex digits ≡ Ok xs → IsHexOf xs digits
unfolding some_bytes_in_hex
some-hex-is digits xs e = let b = bind-ok (bytes_in_hex digits) _ xs e in some-by digits b.0 xs (length b.0 == 0) b.1 b.2

digest-by : (digits ys : List ℕ) (d : Digest32) (b : Bool) → bytes_in_hex digits ≡ Ok ys → (if b then okay {E = LineFault} (let x : Digest32 = record { 0 = ys } in x) else Err NoForm) ≡ Ok d → digits ≡ encode_lower d.0
digest-by digits ys d true h e =
    let i : IsHexOf ys digits = hex-is digits ys h in
    i.is ∙ ap (λ (x : Digest32). encode_lower x.0) (ok-same (let x : Digest32 = record { 0 = ys } in x) d e)
digest-by digits ys d false h e = absurd (cc)

pub digest-is : (digits : List ℕ) (d : Digest32) → digest_in_hex digits ≡ Ok d → digits ≡ encode_lower d.0
unfolding digest_in_hex
digest-is digits d e = let b = bind-ok (bytes_in_hex digits) _ d e in digest-by digits b.0 d (length b.0 == 32) b.1 b.2

-- answers: bytes that are read as an answer spell it

abbrev pub WireSpells : Type 0
WireSpells = (answer : Answer) (bytes : List ℕ) → AreBytes bytes → answer_in bytes ≡ Ok answer → Spells answer bytes

pub answer-is : WireSpells → (digits : List ℕ) (a : Answer) → answer_in_hex digits ≡ Ok a → digits ≡ wire_text a
unfolding answer_in_hex wire_text
answer-is wire digits a e =
    let b = bind-ok (bytes_in_hex digits) _ a e in
    let i : IsHexOf b.0 digits = hex-is digits b.0 b.1 in
    let s : Spells a b.0 = wire a b.0 i.bytes (or-ok (answer_in b.0) a b.2) in
    i.is ∙ ap encode_lower s.1

-- lines

unfoldable pub joined : Lines → List ℕ
joined (tail t) = t
joined (line l ls) = l ++ (10 ∷ joined ls)

joined-begun : (b : ℕ) (ls : Lines) → joined (begun_with b ls) ≡ b ∷ joined ls
unfolding joined
joined-begun b (tail t) = refl
joined-begun b (line l ls) = refl

pub joined-lines : (bytes : List ℕ) → joined (lines_of bytes) ≡ bytes
unfolding joined
joined-lines [] = refl
joined-lines (b ∷ bs) =
    elim (cases_Bool (b == 10)) [
      | inl here ↦ rw (here, is-eqb b 10 here) (ap (λ (xs : List ℕ). 10 ∷ xs) (joined-lines bs))
      | inr other ↦ rw other (joined-begun b (lines_of bs) ∙ ap (λ (xs : List ℕ). b ∷ xs) (joined-lines bs))
    ]

pub cut-is : (c : ℕ) (bytes l b : List ℕ) → cut_at c bytes ≡ Some (l, b) → bytes ≡ l ++ (c ∷ b)
cut-is c [] l b e = absurd (cc)
cut-is c (x ∷ xs) l b e =
    elim (cases_Bool (x == c)) [
      | inl here ↦ (let p : Some ([], xs) ≡ Some (l, b) = rw here at e in let q = some-pair ([], xs) (l, b) p in rw (is-eqb x c here, ← ap (λ (z : List ℕ × List ℕ). z.0) q, ap (λ (z : List ℕ × List ℕ). z.1) q) refl)
      | inr other ↦ cut-by c x xs l b (cut_at c xs) refl (rw other at e) (cut-is c xs)
    ]
  where
    some-pair : (y z : List ℕ × List ℕ) → Some y ≡ Some z → y ≡ z
    some-pair y z h = cc

    cut-by : (d y : ℕ) (ys m n : List ℕ) (o : Option (List ℕ × List ℕ)) → cut_at d ys ≡ o → cut_front y o ≡ Some (m, n) → ((k j : List ℕ) → cut_at d ys ≡ Some (k, j) → ys ≡ k ++ (d ∷ j)) → y ∷ ys ≡ m ++ (d ∷ n)
    cut-by d y ys m n None is h further = absurd (cc)
    cut-by d y ys m n (Some z) is h further =
        let q : (y ∷ z.0, z.1) ≡ (m, n) = some-pair (y ∷ z.0, z.1) (m, n) h in
        let r : ys ≡ z.0 ++ (d ∷ z.1) = further z.0 z.1 is in
        rw (← ap (λ (w : List ℕ × List ℕ). w.0) q, ← ap (λ (w : List ℕ × List ℕ). w.1) q) (ap (λ (xs : List ℕ). y ∷ xs) r)
