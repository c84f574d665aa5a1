-- To believe: lists of settled answers in the order in which they came, and that their order does not matter.
use Rattle.std.specs.Prelude.{◌≡◌, ℕ, ◌<◌, true, List, [], ◌∷◌, Some}
use Rattle.bisect_game.specs.declared.settled.Question.{Question}
use Rattle.bisect_game.specs.declared.settled.Settled.{Settled}
use Rattle.bisect_game.specs.Rules.{Rules, ArePlayable}
use Rattle.bisect_game.specs.Disputes.{Answers}
use Rattle.tournament.specs.Bracket.{Record, open_question, settle, nothing_settled, is_complete}

-- the record after these answers were settled, each of the prover with this number
abbrev pub after : Rules → List (ℕ × Settled) → Record → Record
after rules [] t = t
after rules (e ∷ es) t = after rules es (settle rules e.0 e.1 t)

-- an answer is the settled one, by these answers, of its prover's open question
pub record IsNext (rules : Rules) (f : Answers) (t : Record) (p : ℕ) (s : Settled) : Type 0 where
  pub question : Question
  pub numbered : 0 < p
  pub asked : open_question rules t p ≡ Some question
  pub is : f p question ≡ Some s

abbrev pub Fits : Rules → Answers → List (ℕ × Settled) → Record → Type 0
Fits rules f [] t = Unit {0}
Fits rules f (e ∷ es) t = IsNext rules f t e.0 e.1 × Fits rules f es (settle rules e.0 e.1 t)

-- two lists of the same answers in any order, after each of which nothing is open, give one record
abbrev pub OneRecord : Type 0
OneRecord =
    (rules : Rules) (f : Answers) (es gs : List (ℕ × Settled)) → ArePlayable rules →
    Fits rules f es (nothing_settled rules) → Fits rules f gs (nothing_settled rules) →
    is_complete (after rules es (nothing_settled rules)) ≡ true → is_complete (after rules gs (nothing_settled rules)) ≡ true →
    after rules es (nothing_settled rules) ≡ after rules gs (nothing_settled rules)
