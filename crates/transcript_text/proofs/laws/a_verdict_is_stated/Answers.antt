use Rattle.transcript_text.proofs.VerdictLemmas.{verdicts-are-stated}
use Rattle.transcript_text.proofs.laws.a_verdict_is_stated.Goals as goal

pub returns : goal.returns
returns c = verdicts-are-stated
