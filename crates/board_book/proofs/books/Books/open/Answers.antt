use Rattle.board_book.proofs.KeepingLemmas.{kept_empty}
use Rattle.board_book.proofs.books.Books.open.Goals as goal

pub invariant_of-result : goal.invariant_of-result
invariant_of-result g c =
    rw (c.in_ok-journal.ensures.items, c.in_ok-journal.ensures.exact) (kept_empty g.J.Judge.ruling g.P.Provers.says c.args.books.items c.room_of-room.result c.requires.some c.requires.few c.requires.empty (rw c.as_slice.ensures.value at c.room_of-room.ensures))
