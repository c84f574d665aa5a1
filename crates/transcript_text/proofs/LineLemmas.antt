-- Texts of lines.
use Rattle.std.proofs.Common.{◌≡◌, ℕ, ◌+◌, ◌<◌, List, [], ◌∷◌, ◌++◌, length, drop, get_or, Option, Some, refl, sym, ap, ◌∙◌, append_assoc, add-one, drop-cons}
use Rattle.std.proofs.lemmas.List.{append-nil}
use Rattle.bisect_game.specs.Bisection.{Bisection}
use Rattle.transcript_text.specs.Lines.{Line, lines_of_dispute, lines_of_disputes}
use Rattle.transcript_text.specs.Report.{line_text, text_if_there, lines_text}

-- the text of lines and more lines
pub lines_text_append : (xs ys : List (Option Line)) → lines_text (xs ++ ys) ≡ lines_text xs ++ lines_text ys
lines_text_append [] ys = refl
lines_text_append (x ∷ xs) ys = ap (λ t. text_if_there x ++ t) (lines_text_append xs ys) ∙ sym (append_assoc (text_if_there x) (lines_text xs) (lines_text ys))

-- a text after lines were added, and then more lines
pub added_lines : (start mid end : List ℕ) (xs ys : List (Option Line)) → mid ≡ start ++ lines_text xs → end ≡ mid ++ lines_text ys → end ≡ start ++ lines_text (xs ++ ys)
added_lines start mid end xs ys p q =
    q ∙ (ap (λ t. t ++ lines_text ys) p ∙ (append_assoc start (lines_text xs) (lines_text ys) ∙ ap (λ t. start ++ t) (sym (lines_text_append xs ys))))

-- a text after lines were added, and then one more
pub added_last : (start mid end : List ℕ) (xs : List (Option Line)) (l : Option Line) → mid ≡ start ++ lines_text xs → end ≡ mid ++ text_if_there l → end ≡ start ++ lines_text (xs ++ l ∷ [])
added_last start mid end xs l p q = added_lines start mid end xs (l ∷ []) p (q ∙ ap (λ t. mid ++ t) (sym (append-nil (text_if_there l))))

-- a text after lines were added, and then this one
pub added_line : (start mid end : List ℕ) (xs : List (Option Line)) (l : Line) → mid ≡ start ++ lines_text xs → end ≡ mid ++ line_text l → end ≡ start ++ lines_text (xs ++ Some l ∷ [])
added_line start mid end xs l p q = added_last start mid end xs (Some l) p q

-- the next of the disputes that are left
pub drop-next : (ds : List Bisection) (i : ℕ) (d : Bisection) → i < length ds → d ≡ get_or ds i d → drop i ds ≡ d ∷ drop (i + 1) ds
drop-next ds i d within is = drop-cons ds i d within ∙ rw (← is, add-one i) refl

-- the lines of one dispute more
pub added_dispute : (mid end whole : List ℕ) (before stage i : ℕ) (ds : List Bisection) (d : Bisection) → i < length ds → d ≡ get_or ds i d → stage ≡ d.stage
    → mid ++ lines_text (lines_of_disputes before (drop i ds)) ≡ whole → end ≡ mid ++ lines_text (lines_of_dispute before d)
    → end ++ lines_text (lines_of_disputes stage (drop (i + 1) ds)) ≡ whole
added_dispute mid end whole before stage i ds d within is staged so_far added =
    let rest = lines_of_disputes d.stage (drop (i + 1) ds) in
    ap (λ n. end ++ lines_text (lines_of_disputes n (drop (i + 1) ds))) staged
    ∙ (added_lines mid end (end ++ lines_text rest) (lines_of_dispute before d) rest added refl
    ∙ (ap (λ left. mid ++ lines_text (lines_of_disputes before left)) (sym (drop-next ds i d within is))
    ∙ so_far))
