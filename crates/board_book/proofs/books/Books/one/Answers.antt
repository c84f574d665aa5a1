use Rattle.std.proofs.Common.{◌∙◌, ap, ◌++◌, [], ◌∷◌}
use Rattle.board_book.proofs.KeepingLemmas.{one_kept}
use Rattle.board_book.proofs.books.Books.one.Goals as goal

pub invariant_of-result : goal.invariant_of-result
invariant_of-result g c =
    one_kept g.J.Judge.ruling g.P.Provers.says c.args.book c.index.result.now c.push_reserved.new.self.items c.in_ok-journal.journal.items c.note_from.new.journal.items c.journal.result.now c.room_of-room.result _
    (c.push_reserved.ensures.items ∙ ap (λ l. l ++ c.args.book ∷ []) c.in_ok-books.ensures.items) c.index.ensures c.journal.ensures c.in_ok-journal.ensures.items c.note_from.ensures.items (c.note_from.ensures.room ∙ c.in_ok-journal.ensures.exact)
    (rw c.as_slice.ensures.value at c.room_of-room.ensures) c.is_legal.ensures.legal
