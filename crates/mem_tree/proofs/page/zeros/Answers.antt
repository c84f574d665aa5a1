use Rattle.std.proofs.Common.{◌≡◌, List, length, replicate, ap, ◌∙◌, sym, subst, arith}
use Rattle.digest_core.specs.Text.{leaf_text}
use Rattle.rd_base.specs.declared.digest.Digest32.{Digest32}
use Rattle.merkle_nodes.specs.Heap.{IsHeap}
use Rattle.mem_tree.specs.Page.{leaf_of}
use Rattle.mem_tree.proofs.PageLemmas.{zero-heap}
use Rattle.mem_tree.proofs.PlaceLemmas.{written-whole}
use Rattle.mem_tree.proofs.page.zeros.Goals as goal

pub returns-clause-heap : goal.returns-clause-heap
returns-clause-heap c = λ digest empty.
    let start = c.in_ok-nodes.nodes.items in
    let filled = c.fill_empty_heap.new.nodes in
    let n = c.in_ok-nodes.nodes.len in
    let whole : n ≡ length start = sym c.deref_mut.ensures.len ∙ ap length c.deref_mut.ensures.value in
    let fits : length filled ≡ n = c.fill_empty_heap.ensures.len ∙ c.deref_mut.ensures.len in
    subst (λ (xs : List Digest32). IsHeap digest xs 7 (leaf_of c.in_ok-chunks.chunks.items)) (sym (written-whole n filled start fits (sym whole)))
    (zero-heap digest filled c.in_ok-chunks.chunks.items c.in_ok-chunks.ensures.items (c.fill_empty_heap.ensures.heap digest (leaf_text (replicate 32 0)) (λ l low. empty l (omega arith))))
