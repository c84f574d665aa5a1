use Rattle.std.proofs.Common.{rules, ◌≡◌, ◌+◌, ◌<◌, All, [], ◌∷◌, ◌++◌, length, sym, ap, ◌∙◌, subst, arith, length-append}
use Rattle.posters.specs.Swaps.{swapped_back}
use Rattle.posters.proofs.Swaps.{swapped_back-append, All-unsnoc}
use Rattle.posters.proofs.round_robin.restore.Goals as goal

pub loop-j-preserved : goal.loop-j-preserved
loop-j-preserved g c =
    let v = c.loop-j.invariant in let js = c.pop.new.self.items in let j = c.in-Some.j in let place = c.len.result in
    let last : c.loop-j.swaps.items ≡ js ++ j ∷ [] = c.in-Some.ensures.items in
    let long : length c.loop-j.swaps.items ≡ length js + 1 = ap length last ∙ length-append js (j ∷ []) in
    let here : place ≡ length js = search rules in
    let few = v.1 in
    let all = All-unsnoc (length c.args.items.now) j js (subst (All (λ i. i < length c.args.items.now)) last v.2) in (
      c.swap.ensures.len ∙ v.0,
      omega arith,
      all.0,
      v.3 ∙ ap (λ l. swapped_back 0 l c.loop-j.items) last ∙ swapped_back-append 0 js j place c.loop-j.items (omega arith) ∙ ap (swapped_back 0 js) (sym c.swap.ensures.after),
    )
