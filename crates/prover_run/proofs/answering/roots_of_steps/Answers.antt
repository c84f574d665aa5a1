use Rattle.std.proofs.Common.{◌≡◌, IfSome, map, subst}
use Rattle.segment_replay.specs.Roots.{digests}
use Rattle.prover_run.proofs.answering.roots_of_steps.Goals as goal

pub returns-in-Some-clause-roots : goal.returns-in-Some-clause-roots
returns-in-Some-clause-roots g c root is kept =
    subst (λ found. IfSome found (λ v. digests v.items ≡ map root c.args.steps.now)) c.in-Some.is (c.in_ok-found.ensures.roots root kept)
