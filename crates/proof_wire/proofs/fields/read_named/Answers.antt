use Rattle.std.proofs.Common.{◌+◌, ◌-◌, [], ◌∷◌, length, ap, ◌∙◌, arith}
use Rattle.std.proofs.lemmas.List.{length-append}
use Rattle.proof_wire.specs.Reading.{register_opening_ahead}
use Rattle.proof_wire.proofs.EachLemmas.{goes_on, stops, ends}
use Rattle.proof_wire.proofs.fields.read_named.Goals as goal

pub returns-in-Err : goal.returns-in-Err
returns-in-Err c =
    stops register_opening_ahead c.loop.named (c.args.count - c.loop.counter) (c.args.count - (c.loop.counter + 1)) c.loop.rest.now _ _ (omega arith) c.in-Err.ensures c.loop.invariant.so_far

pub loop-preserved : goal.loop-preserved
loop-preserved c = record {
  count = ap length c.push.ensures ∙ length-append c.loop.named (c.in-Ok.read.0 ∷ []) ∙ ap (λ n. n + 1) c.loop.invariant.count;
  so_far = rw c.push.ensures
      (goes_on register_opening_ahead c.loop.named (c.args.count - c.loop.counter) (c.args.count - (c.loop.counter + 1)) c.loop.rest.now _ _ _ (omega arith) c.in-Ok.ensures c.loop.invariant.so_far);
}

pub returns : goal.returns
returns c = ends register_opening_ahead c.loop.named (c.args.count - c.loop.counter) c.loop.rest.now _ (omega arith) c.loop.invariant.so_far
