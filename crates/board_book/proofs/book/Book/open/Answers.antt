use Rattle.std.proofs.Common.{arith}
use Rattle.board_book.proofs.BookLemmas.{book-begun}
use Rattle.board_book.proofs.book.Book.open.Goals as goal

pub invariant_of-result : goal.invariant_of-result
invariant_of-result g c =
    let r = c.requires in
    rw c.in_ok-new.ensures
    (book-begun (g.J.Judge.ruling (g.J.Judge.names c.args.judge)) _ (g.P.Provers.says (g.P.Provers.names c.args.provers)) _ c.in_ok-with_capacity.field-0.items c.most_entries-room.result _
    r.some r.few r.steps r.parted r.few_parts c.count-count.ensures c.in_ok-with_capacity.ensures.items c.most_entries-room.ensures.few (rw c.new-setup.ensures at c.most_entries-room.ensures.most) (omega (arith, c.in_ok-with_capacity.ensures.capacity)))
