-- What an ask and a wait tell of the open question.
use Rattle.std.proofs.Common.{◌≡◌, ℕ, Bool, true, Option, Some, None, is_none, refl, ◌∙◌, ap}
use Rattle.rd_base.specs.declared.answer.Answer.{Answer}
use Rattle.bisect_game.specs.declared.settled.Question.{Question}
use Rattle.bisect_game.specs.Says.{Says}
use Rattle.tournament.specs.Moves.{MatchState, passes_of}
use Rattle.board_book.specs.declared.entry.Ask.TheVariants as ask
use Rattle.board_book.specs.Entries.{ask_on, waits_on}

none-is : (o : Option Answer) → true ≡ is_none o → None ≡ o
none-is None e = refl
none-is (Some a) e = absurd (cc)

-- who waits passes on its open question
pub waits_none : (says : Says) (st : MatchState) (p : ℕ) (o : Option Question) (q : Question) → true ≡ waits_on says st p o → o ≡ Some q → None ≡ says p q (passes_of st p)
waits_none says st p o q e is = none-is (says p q (passes_of st p)) (e ∙ ap (waits_on says st p) is)

nothing-by : (b : Bool) (q : Question) (n : ℕ) → ask.Nothing ≡ ask.Question q n → ⊥
nothing-by b q n e = cc

-- who is asked nothing has no open question
pub nothing_none : (st : MatchState) (p : ℕ) (o : Option Question) (q : Question) → ask.Nothing ≡ ask_on st p o → o ≡ Some q → ⊥
nothing_none st p o q e is = nothing-by true q (passes_of st p) (e ∙ ap (ask_on st p) is)
