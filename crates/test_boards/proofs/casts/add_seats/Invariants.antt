use Rattle.std.proofs.Common.{◌≡◌, ◌++◌, map}
use Rattle.board_book.specs.Tasks.{sayings_from}
use Rattle.test_boards.specs.declared.casts.Forgetful.{Forgetful}
use Rattle.toy_game.specs.Toy.{answers, says_of}
use Rattle.test_boards.proofs.casts.add_seats.Given as goal

abbrev pub invariant-loop-i : goal.invariant-loop-i
invariant-loop-i l = map (λ (s : Forgetful). answers s.player) l.seats.items ≡ map (λ (s : Forgetful). answers s.player) l.initial.seats.items ++ sayings_from (says_of l.cast.players) 1 l.i
