use Rattle.std.proofs.Common.{arith}
use Rattle.board_book.proofs.KeepingLemmas.{room_step}
use Rattle.board_book.proofs.books.room_of.Goals as goal

pub overflow_add-total : goal.overflow_add-total
overflow_add-total g c = omega (arith, c.room-total.ensures.few, c.loop-book.invariant.1, c.loop-book-test.true, c.requires.few)

pub loop-book-preserved : goal.loop-book-preserved
loop-book-preserved g c = (
  room_step c.args.books.now c.loop-book.book-index c.loop-book.total _ c.book-item.result c.loop-book-test.true c.book-item.is c.loop-book.invariant.0 (c.room-total.ensures.most.0, c.room-total.ensures.most.1, rw c.room-total.ensures.most.2 at c.room-total.ensures.holds, omega (arith, c.room-total.ensures.most.2)),
  omega (arith, c.room-total.ensures.few, c.loop-book.invariant.1),
)
