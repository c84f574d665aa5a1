use Rattle.board_book.proofs.AloneLemmas.{alone, decide}
use Rattle.board_book.proofs.laws.tasks_are_alone.Goals as goal

pub returns-clause-alone : goal.returns-clause-alone
returns-clause-alone c = alone

pub returns-clause-decide : goal.returns-clause-decide
returns-clause-decide c = decide
