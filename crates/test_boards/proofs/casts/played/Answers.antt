use Rattle.std.proofs.Common.{◌∙◌, ℕ, sym, ap, map, subst}
use Rattle.bisect_game.specs.Says.{AnswerAs}
use Rattle.board_book.specs.Tasks.{BookOf}
use Rattle.toy_game.specs.declared.cast.Cast.{Cast}
use Rattle.test_boards.specs.declared.casts.Forgetful.{Forgetful}
use Rattle.toy_game.specs.Toy.{answers, says_of}
use Rattle.test_boards.proofs.CastLemmas.{alone_as}
use Rattle.test_boards.proofs.casts.played.Goals as goal

pub play-requires-clause-count : goal.play-requires-clause-count
play-requires-clause-count g c κs within =
    (alone_as (λ (s : Forgetful). answers s.player) (says_of c.args.cast.players) c.args.cast.count _ (ap (map (λ (s : Forgetful). answers s.player)) c.as_mut_slice.ensures.value ∙ c.in_ok-seats.ensures)).0
    ∙ ap (λ (b : BookOf ℕ Cast). b.opening.setup.provers) (sym c.in_ok-book.ensures)

pub play-requires-clause-says : goal.play-requires-clause-says
play-requires-clause-says g c κs within =
    subst (λ (b : BookOf ℕ Cast). AnswerAs (λ (s : Forgetful). answers s.player) (says_of b.opening.provers.players) 1 c.as_mut_slice.result.now) (sym c.in_ok-book.ensures)
    (alone_as (λ (s : Forgetful). answers s.player) (says_of c.args.cast.players) c.args.cast.count c.as_mut_slice.result.now (ap (map (λ (s : Forgetful). answers s.player)) c.as_mut_slice.ensures.value ∙ c.in_ok-seats.ensures)).1
