use Rattle.transcript_text.proofs.MoveLemmas.{moves_of_one_more, written_of_one_more}
use Rattle.transcript_text.proofs.refereed.add_moves_of_disputes.Goals as goal

pub disputes-preserved : goal.disputes-preserved
disputes-preserved c = record {
  text = moves_of_one_more _ _ _ _ _ _ c.disputes-test.true c.dispute-item.is c.disputes.invariant.text c.in_ok-add_dispute_moves.ensures.text;
  written = written_of_one_more _ _ _ _ c.disputes-test.true c.dispute-item.is c.disputes.invariant.written c.in_ok-add_dispute_moves.ensures.written;
}
