use Rattle.std.proofs.Common.{length, ◌≤◌}
use Rattle.board_book.proofs.BookLemmas.{book-few}
use Rattle.board_book.proofs.book.Book.fits_its_room.Goals as goal

pub returns : goal.returns
returns g c =
    let few : length c.self.inside.journal.items ≤ c.self.inside.room = book-few c.spare_is_enough.ensures _ _ _ c.self.inside.journal.items _ c.self.inside.room _ c.self.invariant in
    rw (← c.self.view_is) (c.self.invariant.most.0, c.self.invariant.most.1, rw c.self.invariant.most.2 at few)
