use Rattle.board_book.proofs.OnlyLemmas.{only_book}
use Rattle.board_book.proofs.books.Books.into_one.Goals as goal

pub returns : goal.returns
returns g c = rw (← c.self.view_is) (only_book g.J.Judge.ruling g.P.Provers.says c.self.inside.books.items c.pop.new.self.items c.self.inside.journal.items _ c.in-Some.book c.self.invariant (rw (← c.self.view_is) at c.requires.one) c.in-Some.ensures.items)
