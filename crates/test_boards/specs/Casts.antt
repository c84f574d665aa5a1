-- To believe for the tests alone: tasks of players of the toy game, each over eight steps, in rounds of two parts.
use Rattle.std.specs.Prelude.{ℕ, ◌<◌, ◌≤◌, ◌==◌, if◌then◌else◌, List, [], ◌∷◌}
use Rattle.bisect_game.specs.Setup.{Setup}
use Rattle.tournament.specs.Moves.{begun}
use Rattle.bisect_game.specs.Rules.{rules_of}
use Rattle.board_book.specs.declared.book.Opening.{Opening}
use Rattle.board_book.specs.Tasks.{BookOf}
use Rattle.toy_game.specs.declared.cast.Cast.{Cast}
use Rattle.toy_game.specs.Toy.{root, toy_ruling}

abbrev pub setup_with : ℕ → Cast → Setup
setup_with patience cast = record { provers = cast.count; bound = 8; fan = 2; patience = patience; start = root 0 }

abbrev pub opening_with : ℕ → Cast → Opening ℕ Cast
opening_with patience cast = record { judge = 0; provers = cast; setup = setup_with patience cast }

-- its empty book
abbrev pub book_with : ℕ → Cast → BookOf ℕ Cast
book_with patience cast = record { opening = opening_with patience cast; journal = []; game = begun (rules_of (toy_ruling 0) (setup_with patience cast)) }

-- with a patience of 1

abbrev pub opening_of : Cast → Opening ℕ Cast
opening_of = opening_with 1

abbrev pub book_of : Cast → BookOf ℕ Cast
book_of = book_with 1

-- each has 1 to 16 players
abbrev pub AreCounted : List Cast → Type 0
AreCounted [] = Unit {0}
AreCounted (cast ∷ casts) = (0 < cast.count) × (cast.count ≤ 16) × AreCounted casts

-- the players of task t, of two
abbrev pub cast_at : Cast → Cast → ℕ → Cast
cast_at first second t = if t == 1 then first else second
