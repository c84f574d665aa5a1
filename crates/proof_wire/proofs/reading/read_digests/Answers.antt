use Rattle.std.proofs.Common.{◌+◌, ◌-◌, [], ◌∷◌, length, ap, ◌∙◌, arith}
use Rattle.std.proofs.lemmas.List.{length-append}
use Rattle.proof_wire.specs.Reading.{digest_ahead}
use Rattle.proof_wire.proofs.EachLemmas.{goes_on, stops, ends}
use Rattle.proof_wire.proofs.reading.read_digests.Goals as goal

pub returns-in-Err-clause-read : goal.returns-in-Err-clause-read
returns-in-Err-clause-read c = λ other.
    stops digest_ahead c.loop.digests.items (c.args.count - c.loop.counter) (c.args.count - (c.loop.counter + 1)) c.loop.rest.now _ _ (omega arith) c.in-Err.ensures c.loop.invariant.so_far

pub loop-preserved : goal.loop-preserved
loop-preserved c = record {
  number = ap length c.in_ok-push.ensures.items ∙ length-append c.loop.digests.items (c.in-Ok.read.0 ∷ []) ∙ ap (λ n. n + 1) c.loop.invariant.number;
  so_far = rw c.in_ok-push.ensures.items
      (goes_on digest_ahead c.loop.digests.items (c.args.count - c.loop.counter) (c.args.count - (c.loop.counter + 1)) c.loop.rest.now _ _ _ (omega arith) c.in-Ok.ensures c.loop.invariant.so_far);
}

pub returns-clause-read : goal.returns-clause-read
returns-clause-read c = ends digest_ahead c.loop.digests.items (c.args.count - c.loop.counter) c.loop.rest.now _ (omega arith) c.loop.invariant.so_far
