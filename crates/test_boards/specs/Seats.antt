-- To believe for the tests alone: a seat at a board where two players of the toy game play one task.
use Rattle.board_book.specs.declared.book.Opening.{Opening}
use Rattle.std.specs.Prelude.{◌≡◌, ℕ, Some}
use Rattle.seat_lock.specs.Seats.{LockId, Known}
use Rattle.bisect_game.specs.Setup.{Setup}
use Rattle.toy_game.specs.declared.cast.Cast.{Cast}

-- what their book is opened with
abbrev pub opening_of : ℕ → Cast → Setup → Opening ℕ Cast
opening_of judge cast setup = record { judge = judge; provers = cast; setup = setup }

-- a seat at this board, where two players of this cast play one task
pub record IsSeatOfTwo (board : LockId) (cast : Cast) (k : Known (Opening ℕ Cast)) : Type 0 where
  pub judge : ℕ
  pub setup : Setup
  pub lock : k.lock ≡ board
  pub head : k.head ≡ Some (opening_of judge cast setup)
  pub two : setup.provers ≡ 2
