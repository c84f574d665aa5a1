use Rattle.std.proofs.Common.{◌+◌, ℕ, Bool, ◌∙◌, arith}
use Rattle.merkle_nodes.specs.Heap.{is_marked}
use Rattle.mem_tree.specs.RegisterTree.{differs}
use Rattle.mem_tree.proofs.CostLemmas.{many-same}
use Rattle.mem_tree.proofs.register_tree.renew.Goals as goal

pub returns-clause-steps : goal.returns-clause-steps
returns-clause-steps g c =
    let marked : ℕ → Bool = is_marked c.renew_nodes.new.marks in
    let many = c.renewals_are_marked.ensures.many marked (differs c.args.change.now.before.now c.args.change.now.after.now) 5
    (λ k low. c.renew_nodes.ensures.below (32 + k) (omega arith) ∙ c.renew_leaves.ensures.marks k low) c.renew_nodes.ensures.above in
    let same = many-same (λ k. marked (32 + k)) (λ k. is_marked c.renew_leaves.new.marks (32 + k)) 32 (λ k low. c.renew_nodes.ensures.below (32 + k) (omega arith)) in
    omega (arith, many, same, c.renew_leaves.ensures.steps, c.renew_nodes.ensures.steps)
