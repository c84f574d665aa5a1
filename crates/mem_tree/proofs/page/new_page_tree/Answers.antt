use Rattle.std.proofs.Common.{◌≡◌, ℕ, ap, arith, List, None, Some}
use Rattle.merkle_nodes.specs.Renewals.{renewals}
use Rattle.mem_tree.specs.Page.{chunk_in, page_chunk}
use Rattle.mem_tree.specs.Costs.{are_different, differs}
use Rattle.mem_tree.proofs.RenewedLemmas.{made-tree, renewals-used}
use Rattle.mem_tree.proofs.page.new_page_tree.Goals as goal

pub returns-clause-tree : goal.returns-clause-tree
returns-clause-tree g c =
    made-tree c.renewals_are_few.ensures.root c.renewals_are_few.ensures.some g.C.Counted.digest_of c.args.of.now.mem.now c.args.of.now.page c.renew.new.tree c.requires.used c.renew.ensures.heap c.renew.ensures.chunks

pub returns-clause-steps : goal.returns-clause-steps
returns-clause-steps g c =
    let m = c.args.of.now.mem.now in
    let page = c.args.of.now.page in
    let all = renewals-used c.renewals_are_few.ensures.root c.renewals_are_few.ensures.some g.C.Counted.digest_of m page None c.requires.used in
    let same : renewals (differs (Some c.in_ok-tree.tree) m page) 7 ≡ renewals (differs None m page) 7 =
    ap (λ (cs : List (List ℕ)). renewals (λ j. are_different (chunk_in cs j) (page_chunk m page j)) 7) c.in_ok-tree.ensures.chunks in
    omega (arith, all, same, c.renew.ensures.steps)
