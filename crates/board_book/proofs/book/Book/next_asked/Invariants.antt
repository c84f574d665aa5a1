use Rattle.std.proofs.Common.{◌≡◌, ℕ, ◌<◌, ◌≤◌, None}
use Rattle.tournament.specs.Bracket.{open_question}
use Rattle.bisect_game.specs.Rules.{rules_of}
use Rattle.board_book.proofs.book.Book.next_asked.Given as goal

abbrev pub invariant-loop-i : goal.invariant-loop-i
invariant-loop-i g l = (p : ℕ) → 0 < p → p ≤ l.i → open_question (rules_of (g.J.Judge.ruling l.self.opening.judge) l.self.opening.setup) l.self.game.record_ p ≡ None
