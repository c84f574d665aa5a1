use Rattle.bisect_game.specs.Rules.{rules_of}
use Rattle.board_book.proofs.BookLemmas.{book-record}
use Rattle.board_book.proofs.book.Book.has_the_record_of_the_case.Goals as goal

pub returns : goal.returns
returns g c =
    let opening = c.args.self.now.opening in
    book-record c.one_record_of_a_case.ensures (rules_of (g.J.Judge.ruling opening.judge) opening.setup) (g.P.Provers.says opening.provers) c.args.self.now.journal c.args.self.now.game c.is_playable.ensures c.is_legal.ensures.legal c.is_legal.ensures.state
