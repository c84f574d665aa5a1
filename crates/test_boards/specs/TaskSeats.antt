-- To believe for the tests alone: a seat at a board where players of the toy game play two tasks.
use Rattle.board_book.specs.declared.book.Opening.{Opening}
use Rattle.std.specs.Prelude.{◌≡◌, ℕ, List, [], ◌∷◌, Some}
use Rattle.seat_lock.specs.Seats.{LockId, Known}
use Rattle.toy_game.specs.declared.cast.Cast.{Cast}
use Rattle.test_boards.specs.Casts.{opening_of}

-- a seat at this board, where two players of each cast play a task, the first cast task 1
pub record IsSeatOfTasks (board : LockId) (first second : Cast) (k : Known (List (Opening ℕ Cast))) : Type 0 where
  pub lock : k.lock ≡ board
  pub head : k.head ≡ Some (opening_of first ∷ opening_of second ∷ [])
  pub two : (first.count ≡ 2) × (second.count ≡ 2)
