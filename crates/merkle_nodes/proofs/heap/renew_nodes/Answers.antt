use Rattle.std.proofs.Common.{◌≡◌, ◌+◌, ◌-◌, ◌*◌, ap, ◌∙◌, subst, sym, arith}
use Rattle.std.proofs.lemmas.Bool.{or_left, or_right}
use Rattle.merkle_nodes.specs.Heap.{is_marked}
use Rattle.merkle_nodes.proofs.RenewingLemmas.{IsRenewing, renewing-first, renewing-set, renewing-stay, renewed-joined, renewed-above, renewed-made}
use Rattle.merkle_nodes.proofs.heap.renew_nodes.Goals.{then-marks-i, then-marks-i-via-then-marks-i, then-marks-i-via-else-marks-i+then-marks-i-2, else-marks-i+else-marks-i-2}
use Rattle.merkle_nodes.proofs.heap.renew_nodes.Goals as goal

pub nodes-init : goal.nodes-init
nodes-init g c =
    let from : c.args.width + 1 - 1 ≡ c.args.width = omega arith in
    subst (IsRenewing g.C.Counted.digest_of c.args.nodes.now c.args.marks.now c.args.width c.args.steps.now c.args.nodes.now c.args.marks.now c.args.steps.now) (sym from)
    (renewing-first g.C.Counted.digest_of c.args.nodes.now c.args.marks.now c.args.width c.args.steps.now c.requires.len c.requires.marks c.requires.pending c.requires.unmarked)

pub nodes-preserved : goal.nodes-preserved
nodes-preserved g c =
    let digest = g.C.Counted.digest_of in
    let width = c.args.width in
    let place = width - c.nodes.k in
    let down : width + 1 - (c.nodes.k + 1) ≡ place = omega arith in
    let up : width + 1 - c.nodes.k ≡ place + 1 = omega (arith, c.nodes-test.true) in
    let old = c.args.nodes.now in
    let first = c.args.marks.now in
    let start = c.args.steps.now in
    let nodes = c.nodes.nodes in
    let marks = c.nodes.marks in
    let is : IsRenewing digest old first width start nodes marks c.nodes.steps (place + 1) = subst (IsRenewing digest old first width start nodes marks c.nodes.steps) up c.nodes.invariant in
    elim c.if-marks-i.branch [
      | then-marks-i w ↦
          let set : IsRenewing digest old first width start c.if-marks-i.nodes c.if-marks-i.marks c.if-marks-i.steps place =
          rw (w.nodes-is, w.marks-is, w.steps-is, w.digest-node.ensures.steps) (renewing-set digest old first width start nodes marks c.nodes.steps place (omega (arith, c.nodes-test.true)) (omega (arith, c.nodes.auto.k)) is
          w.digest-node.result (w.digest-node.ensures.digest ∙ ap digest w.node_text-text.ensures)
          (elim w.then-marks-i.branch [
            | then-marks-i-via-then-marks-i v ↦ or_left (is_marked marks (2 * place)) (is_marked marks (2 * place + 1)) v.if-marks-i.true
            | then-marks-i-via-else-marks-i+then-marks-i-2 v ↦ or_right (is_marked marks (2 * place)) (is_marked marks (2 * place + 1)) v.if-marks-i-2.true
          ])) in
          subst (IsRenewing digest old first width start c.if-marks-i.nodes c.if-marks-i.marks c.if-marks-i.steps) (sym down) set
      | else-marks-i+else-marks-i-2 w ↦
          let stay : IsRenewing digest old first width start c.if-marks-i.nodes c.if-marks-i.marks c.if-marks-i.steps place =
          rw (w.nodes-is, w.marks-is, w.steps-is) (renewing-stay digest old first width start nodes marks c.nodes.steps place (omega (arith, c.nodes-test.true)) (omega (arith, c.nodes.auto.k)) is w.if-marks-i.false w.if-marks-i-2.false) in
          subst (IsRenewing digest old first width start c.if-marks-i.nodes c.if-marks-i.marks c.if-marks-i.steps) (sym down) stay
    ]

pub returns-clause-joined : goal.returns-clause-joined
returns-clause-joined g c = renewed-joined g.C.Counted.digest_of c.args.nodes.now c.args.marks.now c.args.width c.args.steps.now c.nodes.nodes c.nodes.marks c.nodes.steps _ (omega (arith, c.nodes-test.false, c.nodes.auto.k-end, c.requires.some)) c.nodes.invariant

pub returns-clause-above : goal.returns-clause-above
returns-clause-above g c = renewed-above g.C.Counted.digest_of c.args.nodes.now c.args.marks.now c.args.width c.args.steps.now c.nodes.nodes c.nodes.marks c.nodes.steps _ (omega (arith, c.nodes-test.false, c.nodes.auto.k-end, c.requires.some)) c.nodes.invariant

pub returns-clause-steps : goal.returns-clause-steps
returns-clause-steps g c = renewed-made g.C.Counted.digest_of c.args.nodes.now c.args.marks.now c.args.width c.args.steps.now c.nodes.nodes c.nodes.marks c.nodes.steps _ (omega (arith, c.nodes-test.false, c.nodes.auto.k-end, c.requires.some)) c.nodes.invariant
