-- To believe: moves by the provers' own scripts, in any order, and the record in which they end.
use Rattle.std.specs.Prelude.{◌≡◌, ℕ, zero, suc, ◌+◌, ◌<◌, true, List, [], ◌∷◌, Option, Some, None}
use Rattle.rd_base.specs.declared.answer.Answer.{Answer}
use Rattle.bisect_game.specs.declared.settled.Question.{Question}
use Rattle.bisect_game.specs.declared.settled.Settled.{Settled}
use Rattle.bisect_game.specs.declared.settled.Settled.TheVariants.{Spent}
use Rattle.bisect_game.specs.Says.{Says}
use Rattle.bisect_game.specs.Rules.{Rules, ArePlayable, judged}
use Rattle.bisect_game.specs.Disputes.{Answers}
use Rattle.tournament.specs.Bracket.{open_question, is_complete, bracket}
use Rattle.tournament.specs.Moves.{MatchState, begun, passes_of, settled_by, moved}
use Rattle.tournament.specs.Posting.{Post, after_posts}

-- a prover moves as it says, on its open question
abbrev pub turn : Rules → Says → MatchState → ℕ → Question → MatchState
turn rules says st p q = moved rules st p (settled_by rules q (passes_of st p) (says p q (passes_of st p)))

abbrev pub turn_on : Rules → Says → MatchState → ℕ → Option Question → MatchState
turn_on rules says st p None = st
turn_on rules says st p (Some q) = turn rules says st p q

-- the state after these provers moved, one after another
abbrev pub turns : Rules → Says → List ℕ → MatchState → MatchState
turns rules says [] st = st
turns rules says (p ∷ ps) st = turns rules says ps (turn_on rules says st p (open_question rules st.record_ p))

-- a prover with an open question
pub record IsAskedOf (rules : Rules) (st : MatchState) (p : ℕ) : Type 0 where
  pub question : Question
  pub numbered : 0 < p
  pub asked : open_question rules st.record_ p ≡ Some question

-- each of them had one when it moved
abbrev pub Legal : Rules → Says → List ℕ → MatchState → Type 0
Legal rules says [] st = Unit {0}
Legal rules says (p ∷ ps) st = IsAskedOf rules st p × Legal rules says ps (turn_on rules says st p (open_question rules st.record_ p))

-- what a question is settled as: by the first answer, after no more passes than the patience, else spent

abbrev pub said : Rules → Question → Option Answer → Settled → Settled
said rules q (Some a) s = judged rules.ruling q.kind a
said rules q None s = s

unfoldable pub settled_after : Rules → Says → ℕ → Question → ℕ → ℕ → Settled
settled_after rules says p q zero n = said rules q (says p q n) Spent
settled_after rules says p q (suc left) n = said rules q (says p q n) (settled_after rules says p q left (n + 1))

unfoldable pub answers_of : Rules → Says → Answers
answers_of rules says p q = Some (settled_after rules says p q rules.setup.patience 0)

-- order does not matter: every two complete legal lists of moves of one case end in one record
abbrev pub OrderDoesNotMatter : Type 0
OrderDoesNotMatter =
    (rules : Rules) (says : Says) (ps qs : List ℕ) → ArePlayable rules →
    Legal rules says ps (begun rules) → Legal rules says qs (begun rules) →
    is_complete (turns rules says ps (begun rules)).record_ ≡ true → is_complete (turns rules says qs (begun rules)).record_ ≡ true →
    (turns rules says ps (begun rules)).record_ ≡ (turns rules says qs (begun rules)).record_

-- it is the record of the case: the bracket over what each question is settled as
abbrev pub RecordOfCase : Type 0
RecordOfCase =
    (rules : Rules) (says : Says) (ps : List ℕ) → ArePlayable rules →
    Legal rules says ps (begun rules) → is_complete (turns rules says ps (begun rules)).record_ ≡ true →
    (turns rules says ps (begun rules)).record_ ≡ bracket rules (answers_of rules says)

-- it is a list of posts, too: what holds after all posts holds after it
abbrev pub LegalListsArePosts : Type 0
LegalListsArePosts =
    (rules : Rules) (says : Says) (ps : List ℕ) → Legal rules says ps (begun rules) →
    (xs : List Post) × (after_posts rules xs (begun rules) ≡ turns rules says ps (begun rules))
