use Rattle.std.proofs.Common.{◌≡◌, inl, inr, ◌+◌, ◌*◌, ◌||◌, ℕ, is_some, take, get_or, sym, ap, ◌∙◌, subst, arith, ⊎_elim}
use Rattle.std.proofs.lemmas.Bool.{cases_eq}
use Rattle.std.proofs.lemmas.List.{take_all, take_more}
use Rattle.mem_tree.specs.Tree.{kept_of, upper_at, IsJoinedAbove}
use Rattle.mem_tree.specs.Costs.{kept_among}
use Rattle.mem_tree.specs.Levels.{joined_among}
use Rattle.mem_tree.proofs.ParentLemmas.{joined-last, kept-is-joined, one-more}
use Rattle.mem_tree.proofs.LevelLemmas.{among-place, among-more, not-more, not-all, not-first, join-more, join-here}
use Rattle.mem_tree.proofs.kept.Nodes.join_places.Goals as goal

pub joined-node-requires-clause-place : goal.joined-node-requires-clause-place
joined-node-requires-clause-place g c = c.requires.places (get_or c.args.places.now c.places.i 0) (among-place c.args.places.now c.places.i 0 c.places-test.true)

pub returns-in_err-put_upper-clause-elsewhere : goal.returns-in_err-put_upper-clause-elsewhere
returns-in_err-put_upper-clause-elsewhere g c = λ n k apart.
    let xs = c.args.places.now in
    let i = c.places.i in
    c.put_upper.ensures.elsewhere n k (⊎_elim
    (λ level. inl level)
    (λ none. inr (λ same. not-all xs i k c.places-test.true none same))
    apart)
    ∙ c.places.invariant.elsewhere n k (⊎_elim (λ level. inl level) (λ none. inr (not-first xs i k none)) apart)

pub places-preserved : goal.places-preserved
places-preserved g c =
    let digest = g.C.Counted.digest_of in
    let xs = c.args.places.now in
    let i = c.places.i in
    let place = get_or xs i 0 in
    let before = kept_of c.places.self in
    let after = kept_of c.put_upper.new.self in
    let inv = c.places.invariant in
    let inside = c.places-test.true in
    record {
      joined = λ k is. ⊎_elim
          (λ same. subst (IsJoinedAbove digest after c.args.above) (sym same)
          (join-here digest before after c.args.above place c.joined-node.result c.put_upper.ensures.empties c.put_upper.ensures.elsewhere c.in_ok-put_upper.ensures.here c.joined-node.ensures.node c.joined-node.ensures.kept))
          (λ earlier. ⊎_elim
          (λ same. subst (IsJoinedAbove digest after c.args.above) (sym same)
          (join-here digest before after c.args.above place c.joined-node.result c.put_upper.ensures.empties c.put_upper.ensures.elsewhere c.in_ok-put_upper.ensures.here c.joined-node.ensures.node c.joined-node.ensures.kept))
          (λ other. join-more digest before after c.args.above place c.put_upper.ensures.empties c.put_upper.ensures.elsewhere k other (inv.joined k earlier))
          (cases_eq k place))
          (among-more xs i 0 k inside is);
      elsewhere = λ n k apart. ⊎_elim
          (λ level. c.put_upper.ensures.elsewhere n k (inl level) ∙ inv.elsewhere n k (inl level))
          (λ none. let apart' = not-more xs i 0 k inside none in c.put_upper.ensures.elsewhere n k (inr apart'.0) ∙ inv.elsewhere n k (inr apart'.1))
          apart;
      pages = c.put_upper.ensures.pages ∙ inv.pages;
      empties = c.put_upper.ensures.empties ∙ inv.empties;
      exact =
          let first = kept_of c.args.self.now in
          let level : (q : ℕ) → upper_at before c.args.above q ≡ upper_at first c.args.above q = λ q. inv.elsewhere c.args.above q (inl (λ e. absurd (omega (arith, e)))) in
          let some : is_some c.joined-node.result ≡ (is_some (upper_at first c.args.above (2 * place)) || is_some (upper_at first c.args.above (2 * place + 1))) =
          c.joined-node.ensures.kept ∙ (ap (λ o. is_some o || is_some (upper_at before c.args.above (2 * place + 1))) (level (2 * place)) ∙ ap (λ o. is_some (upper_at first c.args.above (2 * place)) || is_some o) (level (2 * place + 1))) in
          let one = one-more (is_some c.joined-node.result) _ c.places.steps _ some c.joined-node.ensures.counted c.joined-node.ensures.none in
          let more = ap (joined_among first c.args.above) (take_more xs i 0 inside) ∙ joined-last first c.args.above (take i xs) place in
          omega (arith, one, more, inv.exact);
      steps = omega (arith, c.joined-node.ensures.steps, inv.steps);
      more = omega (arith, c.joined-node.ensures.more, inv.more);
    }

pub returns-clause-elsewhere : goal.returns-clause-elsewhere
returns-clause-elsewhere g c = λ n k apart. c.places.invariant.elsewhere n k (⊎_elim (λ level. inl level) (λ none. inr (not-first c.args.places.now c.places.i k none)) apart)

pub returns-clause-exactly : goal.returns-clause-exactly
returns-clause-exactly g c =
    let inv = c.places.invariant in
    let xs = c.args.places.now in
    let first = kept_of c.args.self.now in
    let after = kept_of c.places.self in
    let level : (q : ℕ) → upper_at after c.args.above q ≡ upper_at first c.args.above q = λ q. inv.elsewhere c.args.above q (inl (λ e. absurd (omega (arith, e)))) in
    let counted = kept-is-joined first after c.args.above (take c.places.i xs) (λ k is.
    (inv.joined k is).kept ∙ (ap (λ o. is_some o || is_some (upper_at after c.args.above (2 * k + 1))) (level (2 * k)) ∙ ap (λ o. is_some (upper_at first c.args.above (2 * k)) || is_some o) (level (2 * k + 1)))) in
    let all = ap (kept_among after (c.args.above + 1)) (take_all c.places.i xs (omega (arith, c.places-test.false))) in
    omega (arith, inv.exact, counted, all)
