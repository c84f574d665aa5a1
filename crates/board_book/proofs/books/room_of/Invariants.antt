use Rattle.std.proofs.Common.{◌*◌, ◌≤◌, take}
use Rattle.board_book.specs.Keeping.{HasRoom}
use Rattle.board_book.proofs.books.room_of.Given as goal

abbrev pub invariant-loop-book : goal.invariant-loop-book
invariant-loop-book g l = HasRoom (take l.book-index l.books) l.total × (l.total ≤ l.book-index * 4294967296)
