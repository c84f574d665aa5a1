use Rattle.transcript_text.proofs.LineLemmas.{added_dispute}
use Rattle.transcript_text.proofs.disputes.add_disputes.Goals as goal

pub disputes-preserved : goal.disputes-preserved
disputes-preserved c =
    added_dispute _ _ _ _ _ _ _ _ c.disputes-test.true c.dispute-item.is c.stage-before.ensures c.disputes.invariant c.in_ok-add_dispute.ensures
