-- Lists of moves, written one after another.
use Rattle.std.proofs.Common.{◌≡◌, ℕ, ◌+◌, ◌<◌, List, [], ◌∷◌, ◌++◌, length, drop, get_or, Some, refl, sym, ◌∙◌, ap, append_assoc}
use Rattle.std.specs.Prelude.{codes}
use Rattle.tournament.specs.declared.reading.Verdict.{Verdict}
use Rattle.tournament.specs.Bracket.{Record}
use Rattle.bisect_game.specs.Bisection.{Bisection}
use Rattle.transcript_text.specs.declared.text.Head.{Head}
use Rattle.transcript_text.specs.declared.text.TextMove.{TextMove}
use Rattle.transcript_text.specs.declared.text.Stated.{Stated}
use Rattle.transcript_text.specs.MoveLists.{moves_of, moves_of_dispute, moves_of_disputes}
use Rattle.transcript_text.specs.StatedVerdict.{stated_of}
use Rattle.transcript_text.specs.Lines.{line_if_stated}
use Rattle.transcript_text.specs.Report.{text_if_there}
use Rattle.transcript_text.specs.FullLines.{refereed_text, move_text, moves_text, full_text, text_of, AreWritten}
use Rattle.transcript_text.specs.Laws.{FullTextIsThatOfItsParts}
use Rattle.transcript_text.proofs.LineLemmas.{drop-next}

pub moves_after : (ms ns : List TextMove) → moves_text (ms ++ ns) ≡ moves_text ms ++ moves_text ns
moves_after [] ns = refl
moves_after (m ∷ ms) ns =
    ap (λ (bytes : List ℕ). move_text m ++ (codes "\n" ++ bytes)) (moves_after ms ns)
    ∙ (ap (λ (bytes : List ℕ). move_text m ++ bytes) (sym (append_assoc (codes "\n") (moves_text ms) (moves_text ns)))
    ∙ sym (append_assoc (move_text m) (codes "\n" ++ moves_text ms) (moves_text ns)))

-- a text after moves were added, and then more
pub added_moves : (start mid end : List ℕ) (ms ns : List TextMove) → mid ≡ start ++ moves_text ms → end ≡ mid ++ moves_text ns → end ≡ start ++ moves_text (ms ++ ns)
added_moves start mid end ms ns p q =
    q ∙ (ap (λ t. t ++ moves_text ns) p ∙ (append_assoc start (moves_text ms) (moves_text ns) ∙ ap (λ t. start ++ t) (sym (moves_after ms ns))))

-- the moves of one dispute more
pub moves_of_one_more : (mid end whole : List ℕ) (i : ℕ) (ds : List Bisection) (d : Bisection) → i < length ds → d ≡ get_or ds i d → mid ++ moves_text (moves_of_disputes (drop i ds)) ≡ whole →
    end ≡ mid ++ moves_text (moves_of_dispute d) → end ++ moves_text (moves_of_disputes (drop (i + 1) ds)) ≡ whole
moves_of_one_more mid end whole i ds d within is so_far added =
    added_moves mid end (end ++ moves_text (moves_of_disputes (drop (i + 1) ds))) (moves_of_dispute d) (moves_of_disputes (drop (i + 1) ds)) added refl
    ∙ (ap (λ left. mid ++ moves_text (moves_of_disputes left)) (sym (drop-next ds i d within is)) ∙ so_far)

pub text-of-parts : FullTextIsThatOfItsParts
text-of-parts head r v s is = ap (λ o. refereed_text head ++ (codes "\n" ++ (moves_text (moves_of r) ++ text_if_there (line_if_stated o)))) is

-- answers that have wire forms, and more of them
pub written_both : (ms ns : List TextMove) → AreWritten ms → AreWritten ns → AreWritten (ms ++ ns)
written_both [] ns a b = b
written_both (m ∷ ms) ns a b = (a.0, written_both ms ns a.1 b)

pub written_of_one_more : (whole : List TextMove) (i : ℕ) (ds : List Bisection) (d : Bisection) → i < length ds → d ≡ get_or ds i d → (AreWritten (moves_of_disputes (drop i ds)) → AreWritten whole) →
    AreWritten (moves_of_dispute d) → AreWritten (moves_of_disputes (drop (i + 1) ds)) → AreWritten whole
written_of_one_more whole i ds d within is so_far here rest = so_far (rw (drop-next ds i d within is) (written_both (moves_of_dispute d) (moves_of_disputes (drop (i + 1) ds)) here rest))

pub ruleset joining = (moves_after, written_both)

pub ruleset adding = (added_moves, written_both)
