-- Lines are cut at line feeds, one after another.
use Rattle.std.proofs.Common.{◌≡◌, ℕ, ◌+◌, ◌<◌, ◌≤◌, true, false, ◌==◌, List, [], ◌∷◌, ◌++◌, length, take, drop, get_or, inl, inr, Option, Some, None, refl, sym, ◌∙◌, ap, append-nil, append_assoc, drop-cons, add-one}
use Rattle.std.proofs.lemmas.Bool.{cases_Bool}
use Rattle.std.proofs.lemmas.List.{take_more, drop_all}
use Rattle.transcript_text.specs.reader.TextLines.{Lines, tail, line, begun_with, lines_of, cut_front, cut_at}

abbrev pub with_front : List ℕ → Option (List ℕ × List ℕ) → Option (List ℕ × List ℕ)
with_front xs None = None
with_front xs (Some x) = Some (xs ++ x.0, x.1)

with-none : (o : Option (List ℕ × List ℕ)) → with_front [] o ≡ o
with-none None = refl
with-none (Some x) = refl

front-more : (xs : List ℕ) (b : ℕ) (o : Option (List ℕ × List ℕ)) → with_front xs (cut_front b o) ≡ with_front (xs ++ b ∷ []) o
front-more xs b None = refl
front-more xs b (Some x) = ap (λ (ys : List ℕ). Some (ys, x.1)) (sym (append_assoc xs (b ∷ []) x.0))

cut-other : (c b : ℕ) (bs : List ℕ) → (b == c) ≡ false → cut_at c (b ∷ bs) ≡ cut_front b (cut_at c bs)
cut-other c b bs e = rw e refl

cut-here : (c b : ℕ) (bs : List ℕ) → (b == c) ≡ true → cut_at c (b ∷ bs) ≡ Some ([], bs)
cut-here c b bs e = rw e refl

pub cut_begins : (c : ℕ) (bytes : List ℕ) → cut_at c bytes ≡ with_front (take 0 bytes) (cut_at c (drop 0 bytes))
cut_begins c bytes = sym (with-none (cut_at c bytes))

-- the bytes so far have none, and neither has the next one
pub cut_goes_on : (c i : ℕ) (bytes : List ℕ) → i < length bytes → (get_or bytes i 0 == c) ≡ false →
    with_front (take i bytes) (cut_at c (drop i bytes)) ≡ with_front (take (i + 1) bytes) (cut_at c (drop (i + 1) bytes))
cut_goes_on c i bytes within other =
    let d : drop i bytes ≡ get_or bytes i 0 ∷ drop (i + 1) bytes = rw (add-one, drop-cons bytes i 0) refl in
    let t : take (i + 1) bytes ≡ take i bytes ++ get_or bytes i 0 ∷ [] = take_more bytes i 0 within in
    ap (λ (bs : List ℕ). with_front (take i bytes) (cut_at c bs)) d
    ∙ (ap (with_front (take i bytes)) (cut-other c (get_or bytes i 0) (drop (i + 1) bytes) other)
    ∙ (front-more (take i bytes) (get_or bytes i 0) (cut_at c (drop (i + 1) bytes))
    ∙ ap (λ (xs : List ℕ). with_front xs (cut_at c (drop (i + 1) bytes))) (sym t)))

pub cut_stops : (c i : ℕ) (bytes : List ℕ) → i < length bytes → (get_or bytes i 0 == c) ≡ true →
    with_front (take i bytes) (cut_at c (drop i bytes)) ≡ Some (take i bytes, drop (i + 1) bytes)
cut_stops c i bytes within here =
    let d : drop i bytes ≡ get_or bytes i 0 ∷ drop (i + 1) bytes = rw (add-one, drop-cons bytes i 0) refl in
    ap (λ (bs : List ℕ). with_front (take i bytes) (cut_at c bs)) d
    ∙ (ap (with_front (take i bytes)) (cut-here c (get_or bytes i 0) (drop (i + 1) bytes) here)
    ∙ ap (λ (xs : List ℕ). Some (xs, drop (i + 1) bytes)) (append-nil (take i bytes)))

-- a text is its first line and the lines behind it
abbrev pub lines_by : List ℕ → Option (List ℕ × List ℕ) → Lines
lines_by bytes None = tail bytes
lines_by bytes (Some x) = line x.0 (lines_of x.1)

begun-by : (b : ℕ) (bs : List ℕ) (o : Option (List ℕ × List ℕ)) → begun_with b (lines_by bs o) ≡ lines_by (b ∷ bs) (cut_front b o)
begun-by b bs None = refl
begun-by b bs (Some x) = refl

pub lines_cut : (bytes : List ℕ) → lines_of bytes ≡ lines_by bytes (cut_at 10 bytes)
lines_cut [] = refl
lines_cut (b ∷ bs) =
    elim (cases_Bool (b == 10)) [
      | inl here ↦ rw here refl
      | inr other ↦ rw other (ap (begun_with b) (lines_cut bs) ∙ begun-by b bs (cut_at 10 bs))
    ]

pub cut_ends : (c i : ℕ) (bytes : List ℕ) → length bytes ≤ i → with_front (take i bytes) (cut_at c (drop i bytes)) ≡ None
cut_ends c i bytes all =
    let d : drop i bytes ≡ [] = drop_all i bytes all in
    ap (λ (bs : List ℕ). with_front (take i bytes) (cut_at c bs)) d

pub ruleset cuts = (cut_begins, cut_goes_on, cut_stops, cut_ends)
