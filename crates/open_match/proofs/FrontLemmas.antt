-- An entry is read of the bytes at the front alone: logs go on.
use Rattle.std.proofs.Common.{◌≡◌, ℕ, ◌+◌, ◌-◌, ◌≤◌, nat_lt, Bool, true, false, ◌==◌, ◌||◌, if◌then◌else◌, List, [], ◌∷◌, ◌++◌, length, take, drop, Option, Result, Ok, Err, inl, inr, refl, sym, ◌∙◌, ap, arith, length-append, append_assoc, append-nil}
use Rattle.std.proofs.lemmas.Bool.{cases_Bool}
use Rattle.std.proofs.lemmas.Bool.Decides.{nat_tests}
use Rattle.std.proofs.lemmas.List.{take-append-le, drop-append-le, length-drop, length-take-le, take-append-drop}
use Rattle.std.proofs.Math.Seq.{take-append_seam, drop-append_seam}
use Rattle.std.specs.Int.{w32, from_le_bytes}
use Rattle.rd_base.specs.declared.answer.Answer.{Answer}
use Rattle.rd_base.specs.declared.answer.Qid.{Qid}
use Rattle.rd_base.specs.Results.{◌>>=◌}
use Rattle.tournament.specs.Posting.{Post}
use Rattle.open_match.specs.declared.entry.Entry.{Entry}
use Rattle.open_match.specs.declared.entry.EntryFault.{EntryFault}
use Rattle.open_match.specs.declared.entry.EntryFault.TheVariants.{Cut, NoProver}
use Rattle.open_match.specs.Log.{front_number, answer_given, entry_at, entry_of, BeginWith}
use Rattle.open_match.specs.Laws.{LogsGoOn, IsFront, WholeEntriesAreALog}

abbrev pub ReadAs : Type 0
ReadAs = Result (Entry × List ℕ) EntryFault

number-more : (place : ℕ) (bytes more : List ℕ) → place + 4 ≤ length bytes → front_number place (bytes ++ more) ≡ front_number place bytes
number-more place bytes more le =
    let l : length (drop place bytes) ≡ length bytes - place = length-drop place bytes in
    ap (λ (xs : List ℕ). from_le_bytes w32 (take 4 xs)) (drop-append-le place bytes more (omega (arith, le)))
    ∙ ap (from_le_bytes w32) (take-append-le 4 (drop place bytes) more (omega (arith, le, l)))

-- the entry with this answer, and the bytes behind it
abbrev entry_with : ℕ → Qid → List ℕ → Option Answer → ReadAs
entry_with p qid behind a = Ok (record { prover = p; qid = qid; answer = a }, behind)

abbrev pub read_ok : Entry × List ℕ → ReadAs
read_ok x = Ok x

pub pair-of : (x y : Entry × List ℕ) → read_ok x ≡ read_ok y → x ≡ y
pair-of x y e = cc

with-more : (p : ℕ) (qid : Qid) (behind more : List ℕ) (b : Bool) (o : Result (Option Answer) EntryFault) (e : Entry) (rest : List ℕ) →
    (if b then Err NoProver else o >>= entry_with p qid behind) ≡ Ok (e, rest) → (if b then Err NoProver else o >>= entry_with p qid (behind ++ more)) ≡ Ok (e, rest ++ more)
with-more p qid behind more true o e rest is = absurd (cc)
with-more p qid behind more false (Ok a) e rest is =
    let made : Entry = record { prover = p; qid = qid; answer = a } in
    let both : (made, behind) ≡ (e, rest) = pair-of (made, behind) (e, rest) is in
    ap (λ (x : Entry × List ℕ). Ok (x.0, x.1 ++ more)) both
with-more p qid behind more false (Err f) e rest is = absurd (cc)

no-ok : (f : EntryFault) (x : Entry × List ℕ) → Err f ≡ Ok x → ⊥
no-ok f x e = cc

entry-more : (provers : ℕ) (bytes more : List ℕ) (e : Entry) (rest : List ℕ) → entry_at provers bytes ≡ Ok (e, rest) → entry_at provers (bytes ++ more) ≡ Ok (e, rest ++ more)
unfolding entry_at
entry-more provers bytes more e rest is =
    elim (cases_Bool (nat_lt (length bytes) 16)) [
      | inl short ↦ absurd (no-ok Cut (e, rest) (rw short at is))
      | inr whole ↦
          elim (cases_Bool (nat_lt (length (drop 16 bytes)) (front_number 12 bytes))) [
            | inl cut ↦ absurd (no-ok Cut (e, rest) (rw (whole, cut) at is))
            | inr full ↦
                let many : 16 ≤ length bytes = grind (arith, nat_tests) in
                let size : front_number 12 bytes ≤ length (drop 16 bytes) = grind (arith, nat_tests) in
                let long : nat_lt (length (bytes ++ more)) 16 ≡ false = (let l = length-append bytes more in grind (arith, nat_tests)) in
                let behind : drop 16 (bytes ++ more) ≡ drop 16 bytes ++ more = drop-append-le 16 bytes more many in
                let longer : nat_lt (length (drop 16 bytes ++ more)) (front_number 12 bytes) ≡ false = (let l = length-append (drop 16 bytes) more in grind (arith, nat_tests)) in
                let n0 = number-more 0 bytes more (omega (arith, many)) in
                let n4 = number-more 4 bytes more (omega (arith, many)) in
                let n8 = number-more 8 bytes more (omega (arith, many)) in
                let n12 = number-more 12 bytes more (omega (arith, many)) in
                let t = take-append-le (front_number 12 bytes) (drop 16 bytes) more size in
                let d = drop-append-le (front_number 12 bytes) (drop 16 bytes) more size in
                rw (long, behind, n12, longer, n0, n4, n8, t, d)
                (with-more (front_number 0 bytes) (record { dispute = front_number 4 bytes; round = front_number 8 bytes }) (drop (front_number 12 bytes) (drop 16 bytes)) more
                ((front_number 0 bytes == 0) || nat_lt provers (front_number 0 bytes)) (answer_given (take (front_number 12 bytes) (drop 16 bytes))) e rest (rw (whole, full) at is))
          ]
    ]

begin-front : (provers : ℕ) (xs : List Post) (log rest more : List ℕ) → BeginWith provers xs log rest → BeginWith provers xs (log ++ more) (rest ++ more)
begin-front provers [] log rest more b = ap (λ (ys : List ℕ). ys ++ more) b
begin-front provers (x ∷ xs) log rest more b = (b.0 ++ more, entry-more provers log more (entry_of x) b.0 b.1, begin-front provers xs b.0 rest more b.2)

begin-both : (provers : ℕ) (xs ys : List Post) (a b c : List ℕ) → BeginWith provers xs a b → BeginWith provers ys b c → BeginWith provers (xs ++ ys) a c
begin-both provers [] ys a b c f s = rw f s
begin-both provers (x ∷ xs) ys a b c f s = (f.0, f.1, begin-both provers xs ys f.0 b c f.2 s)

pub go_on : LogsGoOn
go_on provers log more xs ys f s = begin-both provers xs ys (log ++ more) more [] (begin-front provers xs log [] more f) s

-- whole entries are a log

entry-form : (provers : ℕ) (bytes wire behind : List ℕ) → 16 ≤ length bytes → front_number 12 bytes ≡ length wire → drop 16 bytes ≡ wire ++ behind →
    entry_at provers bytes ≡ (if (front_number 0 bytes == 0) || nat_lt provers (front_number 0 bytes) then Err NoProver
    else answer_given wire >>= entry_with (front_number 0 bytes) (record { dispute = front_number 4 bytes; round = front_number 8 bytes }) behind)
unfolding entry_at
entry-form provers bytes wire behind long size is =
    let whole : nat_lt (length bytes) 16 ≡ false = grind (arith, nat_tests) in
    let l : length (wire ++ behind) ≡ length wire + length behind = length-append wire behind in
    let full : nat_lt (length (wire ++ behind)) (length wire) ≡ false = grind (arith, nat_tests) in
    let t : take (length wire) (wire ++ behind) ≡ wire = take-append_seam wire behind in
    let d : drop (length wire) (wire ++ behind) ≡ behind = drop-append_seam wire behind in
    rw (whole, size, is, full, t, d) refl

with-none : (p : ℕ) (qid : Qid) (behind : List ℕ) (b : Bool) (o : Result (Option Answer) EntryFault) (e : Entry) (rest : List ℕ) →
    (if b then Err NoProver else o >>= entry_with p qid behind) ≡ Ok (e, rest) → (behind ≡ rest) × ((if b then Err NoProver else o >>= entry_with p qid []) ≡ Ok (e, []))
with-none p qid behind true o e rest is = absurd (cc)
with-none p qid behind false (Ok a) e rest is =
    let made : Entry = record { prover = p; qid = qid; answer = a } in
    let both : (made, behind) ≡ (e, rest) = pair-of (made, behind) (e, rest) is in
    (ap (λ (x : Entry × List ℕ). x.1) both, ap (λ (x : Entry × List ℕ). read_ok (x.0, [])) both)
with-none p qid behind false (Err f) e rest is = absurd (cc)

abbrev HasFront : ℕ → List ℕ → Entry → List ℕ → Type 0
HasFront provers bytes e rest = (front : List ℕ) × (bytes ≡ front ++ rest) × (entry_at provers front ≡ Ok (e, []))

cut-at : (provers : ℕ) (bytes head wire behind : List ℕ) (e : Entry) (rest : List ℕ) → bytes ≡ head ++ (wire ++ behind) → length head ≡ 16 → length wire ≡ front_number 12 bytes →
    entry_at provers bytes ≡ Ok (e, rest) → HasFront provers bytes e rest
cut-at provers bytes head wire behind e rest parts l size is =
    let at : (p : ℕ) → p + 4 ≤ 16 → front_number p bytes ≡ front_number p (head ++ wire) = λ p le.
    ap (front_number p) parts ∙ (number-more p head (wire ++ behind) (omega (arith, le, l)) ∙ sym (number-more p head wire (omega (arith, le, l)))) in
    let n0 : front_number 0 bytes ≡ front_number 0 (head ++ wire) = at 0 (omega arith) in
    let n4 : front_number 4 bytes ≡ front_number 4 (head ++ wire) = at 4 (omega arith) in
    let n8 : front_number 8 bytes ≡ front_number 8 (head ++ wire) = at 8 (omega arith) in
    let n12 : front_number 12 bytes ≡ front_number 12 (head ++ wire) = at 12 (omega arith) in
    let lb : length bytes ≡ 16 + length (wire ++ behind) = ap length parts ∙ (length-append head (wire ++ behind) ∙ ap (λ (n : ℕ). n + length (wire ++ behind)) l) in
    let lf : length (head ++ wire) ≡ 16 + length wire = length-append head wire ∙ ap (λ (n : ℕ). n + length wire) l in
    let db : drop 16 bytes ≡ wire ++ behind = ap (drop 16) parts ∙ (ap (λ (n : ℕ). drop n (head ++ (wire ++ behind))) (sym l) ∙ drop-append_seam head (wire ++ behind)) in
    let df : drop 16 (head ++ wire) ≡ wire ++ [] = ap (λ (n : ℕ). drop n (head ++ wire)) (sym l) ∙ (drop-append_seam head wire ∙ sym (append-nil wire)) in
    let whole = entry-form provers bytes wire behind (omega (arith, lb)) (sym size) db in
    let w = with-none (front_number 0 bytes) (record { dispute = front_number 4 bytes; round = front_number 8 bytes }) behind
    ((front_number 0 bytes == 0) || nat_lt provers (front_number 0 bytes)) (answer_given wire) e rest (sym whole ∙ is) in
    let form : entry_at provers (head ++ wire) ≡ (if (front_number 0 bytes == 0) || nat_lt provers (front_number 0 bytes) then Err NoProver
    else answer_given wire >>= entry_with (front_number 0 bytes) (record { dispute = front_number 4 bytes; round = front_number 8 bytes }) []) =
    rw (n0, n4, n8) (entry-form provers (head ++ wire) wire [] (omega (arith, lf)) (sym n12 ∙ sym size) df) in
    (head ++ wire, parts ∙ (ap (λ (xs : List ℕ). head ++ (wire ++ xs)) w.0 ∙ sym (append_assoc head wire rest)), form ∙ w.1)

entry-cut : (provers : ℕ) (bytes : List ℕ) (e : Entry) (rest : List ℕ) → entry_at provers bytes ≡ Ok (e, rest) → HasFront provers bytes e rest
unfolding entry_at
entry-cut provers bytes e rest is =
    elim (cases_Bool (nat_lt (length bytes) 16)) [
      | inl short ↦ absurd (no-ok Cut (e, rest) (rw short at is))
      | inr whole ↦
          elim (cases_Bool (nat_lt (length (drop 16 bytes)) (front_number 12 bytes))) [
            | inl cut ↦ absurd (no-ok Cut (e, rest) (rw (whole, cut) at is))
            | inr full ↦
                let many : 16 ≤ length bytes = grind (arith, nat_tests) in
                let size : front_number 12 bytes ≤ length (drop 16 bytes) = grind (arith, nat_tests) in
                cut-at provers bytes (take 16 bytes) (take (front_number 12 bytes) (drop 16 bytes)) (drop (front_number 12 bytes) (drop 16 bytes)) e rest
                (sym (ap (λ (xs : List ℕ). take 16 bytes ++ xs) (take-append-drop (front_number 12 bytes) (drop 16 bytes)) ∙ take-append-drop 16 bytes))
                (length-take-le 16 bytes many) (length-take-le (front_number 12 bytes) (drop 16 bytes) size) is
          ]
    ]

pub whole-entries : WholeEntriesAreALog
whole-entries provers [] bytes rest b = record { front = []; parts = b; log = refl }
whole-entries provers (x ∷ xs) bytes rest b =
    let c : (front : List ℕ) × (bytes ≡ front ++ b.0) × (entry_at provers front ≡ Ok (entry_of x, [])) = entry-cut provers bytes (entry_of x) b.0 b.1 in
    let r : IsFront provers xs b.0 rest = whole-entries provers xs b.0 rest b.2 in
    record {
      front = c.0 ++ r.front;
      parts = c.1 ∙ (ap (λ (ys : List ℕ). c.0 ++ ys) r.parts ∙ sym (append_assoc c.0 r.front rest));
      log = (r.front, entry-more provers c.0 r.front (entry_of x) [] c.2, r.log);
    }
