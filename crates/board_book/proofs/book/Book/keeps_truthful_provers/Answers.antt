use Rattle.bisect_game.specs.Rules.{rules_of}
use Rattle.board_book.proofs.BookLemmas.{book-safe}
use Rattle.board_book.proofs.book.Book.keeps_truthful_provers.Goals as goal

pub returns : goal.returns
returns g c =
    let opening = c.args.self.now.opening in
    book-safe c.truthful_provers_are_safe.ensures (rules_of (g.J.Judge.ruling opening.judge) opening.setup) (g.P.Provers.says opening.provers) c.args.self.now.journal c.args.self.now.game c.is_playable.ensures c.is_legal.ensures.legal c.is_legal.ensures.state (g.met.J.Judge.is_fair opening.judge)
