use Rattle.std.proofs.Common.{◌≡◌, ◌-◌, ◌/◌, ◌^◌, ◌<◌, ℕ, List, length}
use Rattle.merkle_nodes.specs.Heap.{IsHeap}
use Rattle.merkle_nodes.specs.Opening.{IsPath}
use Rattle.merkle_nodes.proofs.heap.fill_heap_path.Given as goal

abbrev pub invariant-levels : goal.invariant-levels
invariant-levels l = record {
  len : length l.siblings ≡ length l.fn.siblings;
  width : l.width ≡ 2 ^ (length l.fn.siblings - l.level);
  at : l.k ≡ l.index / 2 ^ l.level;
  small : l.k < l.width;
  path : (digest : List ℕ → List ℕ) (leaf : ℕ → List ℕ) → IsHeap digest l.nodes (length l.fn.siblings) leaf → IsPath digest leaf l.level l.index l.siblings;
}
