use Rattle.board_book.proofs.CaseLemmas.{tasks_have_the_record}
use Rattle.board_book.proofs.laws.journals_have_the_record_of_the_case.Goals as goal

pub returns-clause-task : goal.returns-clause-task
returns-clause-task c = tasks_have_the_record c.one_record_of_a_case.ensures
