use Rattle.std.proofs.Common.{◌≡◌, suc, ◌+◌, ◌-◌, ◌*◌, ◌^◌, ◌<◌, [], set, get_or, ap, ◌∙◌, sym, subst, arith, ⊎_elim}
use Rattle.std.proofs.Math.Nat.{pow-suc}
use Rattle.std.proofs.lemmas.Bool.{cases_eq}
use Rattle.std.proofs.lemmas.Nat.{pow_pos}
use Rattle.merkle_nodes.specs.Node.{digest_at}
use Rattle.merkle_nodes.proofs.HeapLemmas.{level-below, level-end, same-level, empty-heap, place-here, place-elsewhere}
use Rattle.merkle_nodes.proofs.heap.fill_empty_heap.Goals as goal

pub overflow_sub-nodes : goal.overflow_sub-nodes
overflow_sub-nodes c = level-below c.places.place c.ilog2-above.result c.args.levels c.ilog2-above.ensures.power_le (omega (arith, c.places-test.true, c.requires.len))

pub places-preserved : goal.places-preserved
places-preserved c i m some below low from to =
    let place = c.places.place in
    let above = c.ilog2-above.result in
    let x = get_or c.args.empties.now (c.args.levels - above) (record { 0 = [] }) in
    let next : above + 1 ≡ suc above = omega arith in
    let wide : 2 ^ (above + 1) ≡ 2 ^ above * 2 = ap (λ j. 2 ^ j) next ∙ pow-suc 2 above in
    ⊎_elim
    (λ same.
    let here : m ≡ above = same-level place m above (omega arith) (subst (λ j. j < 2 ^ (m + 1)) same to) c.ilog2-above.ensures.power_le (omega (arith, c.ilog2-above.ensures.next_power_gt)) in
    ap (digest_at (set c.places.nodes place x)) same ∙ (place-here c.places.nodes place x (omega (arith, c.places-test.true, c.places.auto.nodes)) ∙ ap (λ l. digest_at c.args.empties.now (c.args.levels - l)) (sym here)))
    (λ apart. place-elsewhere c.places.nodes place x i apart ∙ c.places.invariant i m some (omega arith) low from to)
    (cases_eq i place)

pub returns-clause-heap : goal.returns-clause-heap
returns-clause-heap c digest text empty =
    empty-heap digest text c.places.nodes c.args.levels (c.places.auto.nodes ∙ c.requires.len)
    (λ i m low from to. c.places.invariant i m (omega (arith, pow_pos m)) (omega (arith, c.places-test.false, c.requires.len, level-end c.args.levels m i low to)) low from to ∙ empty (c.args.levels - m) (omega arith))
