use Rattle.std.proofs.Common.{ap, ◌∙◌, sym}
use Rattle.digest_core.specs.Text.{register_text}
use Rattle.mem_tree.specs.RegisterTree.{register_leaf, differs}
use Rattle.mem_tree.proofs.LeafLemmas.{register_leaf-is, leaf-stays}
use Rattle.mem_tree.proofs.LeafRenewingLemmas.{renewing-first, renewing-set, renewing-stay}
use Rattle.mem_tree.proofs.register_tree.renew_leaves.Goals as goal
use Rattle.mem_tree.proofs.register_tree.renew_leaves.Goals.{then-has_changed, else-has_changed}

pub registers-init : goal.registers-init
registers-init g c =
    renewing-first g.C.Counted.digest_of c.args.nodes.now (register_leaf c.args.change.now.after.now) (differs c.args.change.now.before.now c.args.change.now.after.now) 32 c.args.steps.now c.args.marks.now c.requires.len c.requires.marks c.requires.unmarked

pub registers-preserved : goal.registers-preserved
registers-preserved g c = elim c.if-has_changed.branch [
  | then-has_changed w ↦ rw (w.nodes-is, w.marks-is, w.steps-is, w.digest-leaf.ensures.steps)
      (renewing-set g.C.Counted.digest_of c.args.nodes.now (register_leaf c.args.change.now.after.now) (differs c.args.change.now.before.now c.args.change.now.after.now) 32 c.args.steps.now c.registers.nodes c.registers.marks c.registers.steps c.registers.reg
      c.registers-test.true c.registers.invariant w.digest-leaf.result
      (w.digest-leaf.ensures.digest ∙ ap g.C.Counted.digest_of (w.register_text.ensures ∙ (ap register_text w.get.ensures ∙ sym (register_leaf-is c.args.change.now.after.now c.registers.reg))))
      (sym c.has_changed.ensures ∙ w.if-has_changed.true))
  | else-has_changed w ↦ rw (w.nodes-is, w.marks-is, w.steps-is)
      (renewing-stay g.C.Counted.digest_of c.args.nodes.now (register_leaf c.args.change.now.after.now) (differs c.args.change.now.before.now c.args.change.now.after.now) 32 c.args.steps.now c.registers.nodes c.registers.marks c.registers.steps c.registers.reg
      c.registers-test.true c.registers.invariant
      (c.requires.leaves c.registers.reg c.registers-test.true ∙ ap g.C.Counted.digest_of (leaf-stays c.args.change.now.before.now c.args.change.now.after.now c.registers.reg (sym c.has_changed.ensures ∙ w.if-has_changed.false)))
      (sym c.has_changed.ensures ∙ w.if-has_changed.false))
]
