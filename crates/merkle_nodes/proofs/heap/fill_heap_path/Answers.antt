use Rattle.std.proofs.Common.{◌+◌, ap, ◌∙◌, arith, length}
use Rattle.std.proofs.Math.ListN.{length-set}
use Rattle.merkle_nodes.specs.Node.{digest_at}
use Rattle.merkle_nodes.proofs.HeapPathLemmas.{level-width, beside-within, next-place, path-next}
use Rattle.merkle_nodes.proofs.heap.fill_heap_path.Goals as goal

pub bounds-nodes-width : goal.bounds-nodes-width
bounds-nodes-width c =
    let inv = c.levels.invariant in
    let within = beside-within (length c.args.siblings.now) c.levels.level c.levels.width c.levels.k (length c.args.nodes.now) c.levels-test.true inv.width inv.small c.requires.whole in
    omega (arith, within, c.beside.ensures)

pub overflow_add-siblings : goal.overflow_add-siblings
overflow_add-siblings c = omega (arith, bounds-nodes-width c)

pub offset_bounds-nodes-width : goal.offset_bounds-nodes-width
offset_bounds-nodes-width c = omega (arith, bounds-nodes-width c)

pub levels-preserved : goal.levels-preserved
levels-preserved c =
    let inv = c.levels.invariant in
    let half = level-width (length c.args.siblings.now) c.levels.level c.levels.width c.levels-test.true inv.width in
    record {
      len = length-set c.levels.siblings c.levels.level _ ∙ inv.len;
      width = omega (arith, half);
      at = next-place c.args.index c.levels.level c.levels.k inv.at;
      small = omega (arith, half, inv.small);
      path = λ digest leaf heap. path-next digest c.args.nodes.now leaf (length c.args.siblings.now) c.levels.level c.levels.width c.levels.k c.args.index c.levels.siblings _ heap c.levels-test.true
          (omega (arith, inv.len, c.levels-test.true)) inv.width inv.at inv.small (ap (λ k. digest_at c.args.nodes.now (c.levels.width + k)) c.beside.ensures) (inv.path digest leaf heap);
    }
