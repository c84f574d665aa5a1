use Rattle.std.proofs.Common.{◌+◌, ◌-◌, ◌<◌, ◌≤◌, length, arith, ap, ◌∙◌, Ok}
use Rattle.std.proofs.lemmas.List.{take_more_set, take_all, length-set}
use Rattle.proof_wire.specs.Reading.{digest_ahead}
use Rattle.proof_wire.proofs.EachLemmas.{goes_on, ends}
use Rattle.proof_wire.proofs.fields.read_siblings.Goals as goal

pub loop-sibling-preserved : goal.loop-sibling-preserved
loop-sibling-preserved g c =
    let within : c.loop-sibling.sibling-index < length c.loop-sibling.sibling-items = omega arith in
    record {
      count = length-set _ _ _ ∙ c.loop-sibling.invariant.count;
      room = omega arith;
      so_far = rw take_more_set
          (goes_on digest_ahead _ (g.row.N - c.loop-sibling.sibling-index) (g.row.N - (c.loop-sibling.sibling-index + 1)) c.loop-sibling.rest.now _ _ _ (omega arith) c.read_digest.ensures.read c.loop-sibling.invariant.so_far);
    }

pub returns : goal.returns
returns g c =
    let long : length c.loop-sibling.sibling-items ≤ c.loop-sibling.sibling-index = omega arith in
    ends digest_ahead _ (g.row.N - c.loop-sibling.sibling-index) c.loop-sibling.rest.now _ (omega arith) c.loop-sibling.invariant.so_far
    ∙ ap (λ siblings. Ok (siblings, c.loop-sibling.rest.now)) (take_all _ _ long)
