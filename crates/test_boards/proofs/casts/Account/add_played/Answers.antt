use Rattle.std.proofs.Common.{◌∙◌, sym, ap, map}
use Rattle.board_book.specs.Tasks.{sayings}
use Rattle.toy_game.specs.declared.cast.Cast.{Cast}
use Rattle.toy_game.specs.Toy.{answers, says_of}
use Rattle.test_boards.proofs.casts.Account.add_played.Goals as goal

pub play_tasks-requires-clause-says : goal.play_tasks-requires-clause-says
play_tasks-requires-clause-says g c κs within =
    ap (map (λ s. answers s.player)) c.as_mut_slice.ensures.value ∙ (c.in_ok-seats.ensures ∙ ap (sayings (λ (x : Cast). says_of x.players)) (sym c.in_ok-books.ensures))
