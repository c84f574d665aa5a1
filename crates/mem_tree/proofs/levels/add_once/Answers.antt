use Rattle.std.proofs.Common.{◌≡◌, inl, inr, ◌-◌, length, get_or, sym, ap, ◌∙◌, arith}
use Rattle.std.proofs.lemmas.List.{get_or_default}
use Rattle.mem_tree.proofs.ParentLemmas.{added-not, added-new}
use Rattle.mem_tree.proofs.levels.add_once.Goals as goal
use Rattle.mem_tree.proofs.levels.add_once.Goals.{else-count-gt0-via-then-count-gt0+else-index-place, else-count-gt0-via-else-count-gt0}

pub returns-then-index-place : goal.returns-then-index-place
returns-then-index-place c =
    let items = c.args.places.now.items in
    let count = c.len-count.result in
    let some = c.if-count-gt0.true in
    let len : count ≡ length items = omega (arith, c.len-count.ensures, c.args.places.now.ok.0) in
    let last = ap (λ n. get_or items (n - 1) 0) (sym len) ∙ (get_or_default items (count - 1) 0 c.index.result.now (omega (arith, len, some)) ∙ (sym c.index.ensures ∙ c.if-index-place.true)) in
    sym (added-not items c.args.place (omega (arith, len, some)) last)

pub returns : goal.returns
returns c =
    let items = c.args.places.now.items in
    let count = c.len-count.result in
    let len : count ≡ length items = omega (arith, c.len-count.ensures, c.args.places.now.ok.0) in
    c.in_ok-push.ensures.items ∙ sym (added-new items c.args.place (elim c.else-count-gt0.branch [
      | else-count-gt0-via-then-count-gt0+else-index-place w ↦ inr (λ e. w.if-index-place.false (w.index.ensures ∙ (get_or_default items (count - 1) w.index.result.now 0 (omega (arith, len, w.if-count-gt0.true)) ∙ (ap (λ n. get_or items (n - 1) 0) len ∙ e))))
      | else-count-gt0-via-else-count-gt0 w ↦ inl (omega (arith, len, w.if-count-gt0.false))
    ]))
