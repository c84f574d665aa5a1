use Rattle.dispute_board.proofs.Points.{said_may_be_posted}
use Rattle.dispute_board.proofs.laws.what_is_said_may_be_posted.Goals as goal

pub returns : goal.returns
returns c = said_may_be_posted
