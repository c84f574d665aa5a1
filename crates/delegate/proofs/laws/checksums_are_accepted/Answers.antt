use Rattle.delegate.specs.InShort.{IsImageOf, IsBinaryImageOf, AskForTheMatch, AskForTheRun}
use Rattle.delegate.specs.Plainly.{AreWordsOfJudge, AreWordsOfRun}
use Rattle.delegate.proofs.GuestLemmas.{checksums-accepted}
use Rattle.delegate.proofs.laws.checksums_are_accepted.Goals as goal

pub returns-clause-in_short : goal.returns-clause-in_short
returns-clause-in_short c = λ words.
    checksums-accepted IsImageOf (λ file image is. is) c.inputs_are_read_in_range.ensures.case c.inputs_are_read_in_range.ensures.tasks
    c.adler32_is_computed.ensures.loads c.adler32_is_computed.ensures.file (AskForTheMatch words) (AskForTheRun words)

pub returns-clause-plainly : goal.returns-clause-plainly
returns-clause-plainly c = λ words.
    checksums-accepted IsBinaryImageOf (λ file image is. is) c.inputs_are_read_in_range.ensures.case c.inputs_are_read_in_range.ensures.tasks
    c.adler32_is_computed.ensures.loads c.adler32_is_computed.ensures.file (AreWordsOfJudge words) (AreWordsOfRun words)
