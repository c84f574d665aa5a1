use Rattle.std.proofs.Common.{arith, length, ◌≤◌}
use Rattle.board_book.proofs.BookLemmas.{book-few}
use Rattle.board_book.proofs.book.Book.spare.Goals as goal

pub overflow_sub-result : goal.overflow_sub-result
overflow_sub-result g c =
    let few : length c.self.inside.journal.items ≤ c.self.inside.room = book-few c.spare_is_enough.ensures _ _ _ c.self.inside.journal.items _ c.self.inside.room _ c.self.invariant in
    omega (arith, few, c.len.ensures, c.self.inside.journal.ok.0)

pub returns : goal.returns
returns g c =
    let few : length c.self.inside.journal.items ≤ c.self.inside.room = book-few c.spare_is_enough.ensures _ _ _ c.self.inside.journal.items _ c.self.inside.room _ c.self.invariant in
    rw (← c.self.view_is) (c.self.invariant.most.0, c.self.invariant.most.1, omega (arith, few, c.len.ensures, c.self.inside.journal.ok.0, c.self.invariant.most.2))
