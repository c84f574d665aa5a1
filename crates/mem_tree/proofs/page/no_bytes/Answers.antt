use Rattle.std.proofs.Common.{◌≡◌, ◌∷◌, ◌++◌, [], replicate, length, ap, ◌∙◌, arith}
use Rattle.std.proofs.lemmas.List.{length-replicate}
use Rattle.mem_tree.proofs.PageLemmas.{one-more, zero_chunks-are}
use Rattle.mem_tree.proofs.page.no_bytes.Goals as goal

pub chunks-preserved : goal.chunks-preserved
chunks-preserved c = c.in_ok-push.ensures.items ∙ (ap (λ xs. xs ++ replicate 32 0 ∷ []) c.chunks.invariant ∙ one-more (replicate 32 0) c.chunks._k)

pub returns-clause-items : goal.returns-clause-items
returns-clause-items c =
    let all : c.chunks._k ≡ 128 = omega arith in
    zero_chunks-are c.chunks.chunks.items (c.chunks.invariant ∙ ap (λ n. replicate n (replicate 32 0)) all)

pub returns-clause-len : goal.returns-clause-len
returns-clause-len c =
    let long = ap length c.chunks.invariant ∙ length-replicate c.chunks._k (replicate 32 0) in
    omega (arith, long, c.chunks.chunks.ok.0)
