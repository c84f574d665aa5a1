use Rattle.std.proofs.Common.{◌≡◌, map, take}
use Rattle.board_book.specs.Tasks.{sayings}
use Rattle.toy_game.specs.declared.cast.Cast.{Cast}
use Rattle.test_boards.specs.declared.casts.Forgetful.{Forgetful}
use Rattle.toy_game.specs.Toy.{answers, says_of}
use Rattle.test_boards.specs.Casts.{opening_of}
use Rattle.test_boards.proofs.casts.seats_of.Given as goal

abbrev pub invariant-loop-cast : goal.invariant-loop-cast
invariant-loop-cast l = map (λ (s : Forgetful). answers s.player) l.seats.items ≡ sayings (λ (c : Cast). says_of c.players) (map opening_of (take l.cast-index l.casts))
