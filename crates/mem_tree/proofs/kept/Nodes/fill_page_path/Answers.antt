use Rattle.std.proofs.Common.{length, Some, sym, rules, ◌≡◌, ◌/◌, ◌%◌, subst}
use Rattle.merkle_nodes.specs.Opening.{IsPath}
use Rattle.merkle_nodes.specs.Heap.{IsHeap}
use Rattle.mem_tree.specs.Page.{IsMadeTree, leaf_of}
use Rattle.mem_tree.specs.Tree.{kept_of, page_at}
use Rattle.mem_tree.proofs.NodeLemmas.{path-inside, path-of-none}
use Rattle.mem_tree.proofs.kept.Nodes.fill_page_path.Goals as goal

pub returns-in-Some-clause-nodes : goal.returns-in-Some-clause-nodes
returns-in-Some-clause-nodes c = λ digest made.
    let t = kept_of c.args.self.now in
    let tree = c.in-Some.tree.now in
    let is : page_at t (c.args.chunk / 128) ≡ Some tree = search rules in
    let nodes : c.deref.result.now ≡ tree.nodes.items = search rules in
    let heap = (subst (IsMadeTree digest) is (made (c.args.chunk / 128))).heap in
    let path : IsPath digest (leaf_of tree.chunks.items) 7 (c.args.chunk % 128) c.fill_heap_path.new.siblings =
    subst (λ n. IsPath digest (leaf_of tree.chunks.items) n (c.args.chunk % 128) c.fill_heap_path.new.siblings) c.requires
    (c.fill_heap_path.ensures.path digest (leaf_of tree.chunks.items) (subst (λ nodes. IsHeap digest nodes (length c.args.siblings.now) (leaf_of tree.chunks.items)) (sym nodes) (subst (λ n. IsHeap digest tree.nodes.items n (leaf_of tree.chunks.items)) (sym c.requires) heap))) in
    path-inside t c.args.chunk c.fill_heap_path.new.siblings c.heaps_are_trees.ensures.nodes digest tree is heap path

pub returns-in-None-clause-nodes : goal.returns-in-None-clause-nodes
returns-in-None-clause-nodes c = λ digest made.
    let t = kept_of c.args.self.now in
    path-of-none t c.args.chunk c.copy_from_slice.new.self (search rules) (search rules)
