use Rattle.std.proofs.Common.{arith}
use Rattle.open_proof.specs.RangeLaws.{digests_are}
use Rattle.open_proof.proofs.facts.ranges.digests_are_in_range.Goals as goal

pub returns : goal.returns
returns c = digests_are c.args.digests.now (λ k below. c.digests.invariant k (omega arith))
