use Rattle.std.proofs.Common.{◌≡◌, ◌+◌, ◌*◌, map, refl, sym, ap, ◌∙◌, arith}
use Rattle.serde_json.specs.View.{view}
use Rattle.workload.specs.Draws.{draw}
use Rattle.workload.specs.Workload.{prover_tree}
use Rattle.workload.proofs.DrawLemmas.{drawn_next, first_values-none, with_next_seen}
use Rattle.workload.proofs.TreeLemmas.{prover_drawn}
use Rattle.workload.proofs.provers.provers.Goals as goal

pub loop-place-init : goal.loop-place-init
loop-place-init c = record {
  drawn = c.requires;
  made = ap (map view) c.in_ok-provers.ensures.items ∙ sym (first_values-none (prover_tree c.args.seed));
}

pub loop-place-preserved : goal.loop-place-preserved
loop-place-preserved c =
    let seed = c.args.seed in
    let place = c.loop-place.place in
    let at = 4096 + 2 * place in
    let second_follows : at + 1 + 1 ≡ at + 2 = omega arith in
    let next_place : at + 2 ≡ 4096 + 2 * (place + 1) = omega arith in
    let first = drawn_next seed at (at + 1) c.loop-place.draws.last c.draw-first.result refl c.loop-place.invariant.drawn c.draw-first.ensures.value in
    let second = drawn_next seed (at + 1) (at + 2) c.draw-first.new.self.last c.draw-second.result second_follows (c.draw-first.ensures.kept ∙ first) c.draw-second.ensures.value in
    record {
      drawn = c.draw-second.ensures.kept ∙ (second ∙ ap (draw seed) next_place);
      made = with_next_seen view (prover_tree seed) place _ _ _ c.loop-place.invariant.made c.in_ok-push.ensures.items (prover_drawn seed place c.draw-first.result c.draw-second.result _ first second c.in_ok-prover.ensures);
    }
