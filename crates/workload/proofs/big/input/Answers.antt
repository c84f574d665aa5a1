use Rattle.std.proofs.Common.{◌+◌, ◌/◌, ◌^◌, refl, sym, ap, ◌∙◌}
use Rattle.workload.specs.Draws.{draw}
use Rattle.workload.specs.Workload.{input_byte}
use Rattle.workload.proofs.DrawLemmas.{drawn_next, first_values-none, with_next}
use Rattle.workload.proofs.big.input.Goals as goal

pub loop-init : goal.loop-init
unfolding draw
loop-init c = record {
  drawn = refl;
  made = c.in_ok-bytes.ensures.items ∙ sym (first_values-none (input_byte c.args.draws.now.last));
}

pub loop-preserved : goal.loop-preserved
loop-preserved c =
    let seed = c.args.draws.now.last in
    let at = c.loop.counter in
    let drawn = drawn_next seed at (at + 1) c.loop.draws.last c.draw.result refl c.loop.invariant.drawn c.draw.ensures.value in
    record {
      drawn = c.draw.ensures.kept ∙ drawn;
      made = with_next (input_byte seed) at _ _ _ c.loop.invariant.made c.in_ok-push.ensures.items (ap (λ n. n / 2 ^ 24) drawn);
    }
