use Rattle.std.proofs.Common.{rules, ◌≡◌, ◌+◌, ◌%◌, ◌<◌, All, [], ◌∷◌, ◌++◌, length, sym, ap, ◌∙◌, subst, arith, length-append}
use Rattle.std.specs.List.{swap}
use Rattle.posters.specs.Swaps.{swapped}
use Rattle.posters.specs.Arranging.{IsArranging}
use Rattle.posters.proofs.Swaps.{swapped-append, All-snoc}
use Rattle.posters.proofs.ByClass.{arranging-swap, arranging-pass-as, number_here, class_here}
use Rattle.posters.proofs.round_robin.arrange.Goals.{then-index-classes, else-index-classes}
use Rattle.posters.proofs.round_robin.arrange.Goals as goal

pub loop-i-preserved : goal.loop-i-preserved
loop-i-preserved g c = let v = c.loop-i.invariant in let test = c.loop-i-test.true in elim c.if-index-classes.branch [
  | then-index-classes w ↦
      let js = c.loop-i.swaps.items in let i = c.loop-i.i in let place = w.len-place.result in
      let more : c.if-index-classes.swaps.items ≡ js ++ i ∷ [] = ap (λ m. m.items) w.swaps-is ∙ w.push_reserved.ensures.items in
      let here : place ≡ length js = search rules in
      let few = v.0 in let long = v.2 in let same = v.3 in
      let numbers_are : c.if-index-classes.numbers.items ≡ swap c.loop-i.numbers.items place i = ap (λ n. n.items) w.numbers-is ∙ w.swap.ensures.items in
      let next : length c.if-index-classes.swaps.items ≡ place + 1 = ap length more ∙ length-append js (i ∷ []) ∙ (let g : length js + 1 ≡ place + 1 = omega arith in g) in (
        search rules,
        search rules,
        search rules,
        search rules,
        search rules,
        subst (All (λ j. j < length c.args.items.now)) (sym more) (All-snoc _ i js v.5 (omega arith)),
        numbers_are ∙ ap (λ l. swap l place i) v.6 ∙ sym (swapped-append 0 js i place c.args.numbers.now.items (omega arith)) ∙ ap (λ l. swapped 0 l c.args.numbers.now.items) (sym more),
        w.items-is ∙ w.swap-then-index-classes.ensures.after ∙ ap (λ l. swap l place i) v.7 ∙ sym (swapped-append 0 js i place c.args.items.now (omega arith)) ∙ ap (λ l. swapped 0 l c.args.items.now) (sym more),
        subst (IsArranging c.args.classes c.loop-class.class (length c.if-index-classes.swaps.items) (i + 1)) (sym numbers_are)
            (arranging-swap c.args.classes c.loop-class.class place (length c.if-index-classes.swaps.items) i c.loop-i.numbers.items next (omega arith) (omega arith) (class_here c.loop-i.numbers.items i c.index.result.now c.args.classes c.loop-class.class (omega arith) c.index.ensures w.if-index-classes.true)
            (subst (λ n. IsArranging c.args.classes c.loop-class.class n i c.loop-i.numbers.items) (sym here) v.8)),
      )
  | else-index-classes w ↦ (
    search rules,
    search rules,
    search rules,
    search rules,
    search rules,
    search rules,
    search rules,
    search rules,
    arranging-pass-as c.args.classes c.loop-class.class _ _ c.loop-i.i c.loop-i.numbers.items _ (ap (λ m. length m.items) w.swaps-is) (ap (λ m. m.items) w.numbers-is) (search rules)
        (λ e. w.if-index-classes.false (ap (λ n. n % c.args.classes) (number_here c.loop-i.numbers.items c.loop-i.i c.index.result.now (search rules) c.index.ensures) ∙ e)) v.8,
  )
]
