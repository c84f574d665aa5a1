use Rattle.std.proofs.Common.{◌≡◌, ◌∙◌, ap, arith, ℕ, ◌<◌, ◌≤◌, None}
use Rattle.tournament.specs.Bracket.{open_question}
use Rattle.tournament.specs.Match.{rules_in}
use Rattle.bisect_game.specs.Setup.{Setup}
use Rattle.board_book.proofs.book.Book.next_asked.Goals as goal

pub returns-clause-none : goal.returns-clause-none
returns-clause-none g c =
    let n : c.provers-provers.result ≡ c.self.inside.game.setup.provers = c.provers-provers.ensures.is ∙ ap (λ (t : Setup). t.provers) c.setup.ensures.is in
    let nobody : (p : ℕ) → 0 < p → p ≤ c.loop-i.i → open_question (rules_in g.J.Judge.ruling c.self.inside.game) c.self.inside.game.game.record_ p ≡ None = rw (← c.self.view_is) at c.loop-i.invariant in
    rw (← c.self.view_is) (c.asks_nobody_once_over.ensures.0 (λ p some le. nobody p some (omega (arith, le, n, c.loop-i-test.false))))
