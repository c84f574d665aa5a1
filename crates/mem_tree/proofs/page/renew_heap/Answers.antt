use Rattle.std.proofs.Common.{◌+◌, ℕ, Bool, ◌∙◌, arith}
use Rattle.merkle_nodes.specs.Heap.{is_marked}
use Rattle.mem_tree.specs.Page.{chunk_in, page_chunk}
use Rattle.mem_tree.specs.Costs.{are_different}
use Rattle.mem_tree.proofs.CostLemmas.{many-same}
use Rattle.mem_tree.proofs.page.renew_heap.Goals as goal

pub returns-clause-changed : goal.returns-clause-changed
returns-clause-changed g c =
    c.renewals_are_marked.ensures.root (is_marked c.renew_nodes.new.marks) (λ j. are_different (chunk_in c.args.chunks.now j) (page_chunk c.args.of.now.mem.now c.args.of.now.page j)) 7
    (λ k low. c.renew_nodes.ensures.below (128 + k) (omega arith) ∙ c.renew_leaves-marks.ensures.marks k low) c.renew_nodes.ensures.above

pub returns-clause-steps : goal.returns-clause-steps
returns-clause-steps g c =
    let marked : ℕ → Bool = is_marked c.renew_nodes.new.marks in
    let many = c.renewals_are_marked.ensures.many marked (λ j. are_different (chunk_in c.args.chunks.now j) (page_chunk c.args.of.now.mem.now c.args.of.now.page j)) 7
    (λ k low. c.renew_nodes.ensures.below (128 + k) (omega arith) ∙ c.renew_leaves-marks.ensures.marks k low) c.renew_nodes.ensures.above in
    let same = many-same (λ k. marked (128 + k)) (λ k. is_marked c.renew_leaves-marks.result (128 + k)) 128 (λ k low. c.renew_nodes.ensures.below (128 + k) (omega arith)) in
    omega (arith, many, same, c.renew_leaves-marks.ensures.steps, c.renew_nodes.ensures.steps)
