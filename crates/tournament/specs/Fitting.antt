-- Derived: lists of settled answers that fit what was asked. The law `posts_settle_what_fits` ties them to lists of posts.
use Rattle.std.specs.Prelude.{◌≡◌, ℕ, ◌<◌, List, [], ◌∷◌, Some}
use Rattle.bisect_game.specs.declared.settled.Question.{Question}
use Rattle.bisect_game.specs.declared.settled.Settled.{Settled}
use Rattle.bisect_game.specs.Rules.{Rules}
use Rattle.bisect_game.specs.Truth.{IsFit}
use Rattle.tournament.specs.Bracket.{Record, open_question, settle, nothing_settled}
use Rattle.tournament.specs.Settling.{after}
use Rattle.tournament.specs.Posting.{Post, record_after}

-- what the open question of a prover may be settled as: what is taken as given fits what was asked
pub record MaySettle (rules : Rules) (t : Record) (p : ℕ) (s : Settled) : Type 0 where
  pub question : Question
  pub numbered : 0 < p
  pub asked : open_question rules t p ≡ Some question
  pub fits : IsFit rules.ruling question.kind s

abbrev pub AllFit : Rules → List (ℕ × Settled) → Record → Type 0
AllFit rules [] t = Unit {0}
AllFit rules (e ∷ es) t = MaySettle rules t e.0 e.1 × AllFit rules es (settle rules e.0 e.1 t)

-- every list of posts, by anybody and with any contents, settles a list that fits
abbrev pub PostsSettle : Type 0
PostsSettle =
    (rules : Rules) (xs : List Post) →
    (es : List (ℕ × Settled)) × AllFit rules es (nothing_settled rules) × (after rules es (nothing_settled rules) ≡ record_after rules xs)
