use Rattle.tournament.specs.Match.{rules_in}
use Rattle.board_book.proofs.BookLemmas.{book-full}
use Rattle.board_book.proofs.book.Book.is_full.Goals as goal

pub returns : goal.returns
returns g c =
    let full = rw (← c.self.view_is) at c.requires in
    rw (← c.self.view_is) (book-full c.spare_is_enough.ensures (rules_in g.J.Judge.ruling c.self.inside.game) _ _ c.self.inside.journal.items c.self.inside.game.game _ _ full.0 c.self.invariant full.1 full.2 c.asks_nobody_once_over.ensures)
