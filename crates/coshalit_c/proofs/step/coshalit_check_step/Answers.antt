use Rattle.std.proofs.Common.{rules, sym, ◌∙◌}
use Rattle.coshalit_c.proofs.StepLemmas.{found-as, says-leads, says-not-open, says-wrong-shape, leads-to}
use Rattle.coshalit_c.proofs.step.coshalit_check_step.Goals as goal

pub returns-clause-leads : goal.returns-clause-leads
returns-clause-leads c = says-leads c.args.version c.written.result c.args.root.now c.args.wire.now c.check_wire.result c.written.ensures.status (search rules, search rules)
    (found-as c.args.version c.args.root.now c.args.wire.now c.check_wire.result c.digest_with.result c.digest_with.ensures
    c.check_wire.ensures.leads c.check_wire.ensures.not_open c.check_wire.ensures.wrong_shape)

pub returns-clause-next : goal.returns-clause-next
returns-clause-next c = λ zero. leads-to c.args.version c.args.root.now c.args.wire.now c.args.next.now c.written.new.next c.check_wire.result
    (found-as c.args.version c.args.root.now c.args.wire.now c.check_wire.result c.digest_with.result c.digest_with.ensures
    c.check_wire.ensures.leads c.check_wire.ensures.not_open c.check_wire.ensures.wrong_shape)
    c.written.ensures.root (sym c.written.ensures.status ∙ zero)

pub returns-clause-not_open : goal.returns-clause-not_open
returns-clause-not_open c = says-not-open c.args.version c.written.result c.args.root.now c.args.wire.now c.check_wire.result c.written.ensures.status (search rules, search rules)
    (found-as c.args.version c.args.root.now c.args.wire.now c.check_wire.result c.digest_with.result c.digest_with.ensures
    c.check_wire.ensures.leads c.check_wire.ensures.not_open c.check_wire.ensures.wrong_shape)

pub returns-clause-wrong_shape : goal.returns-clause-wrong_shape
returns-clause-wrong_shape c = says-wrong-shape c.args.version c.written.result c.args.root.now c.args.wire.now c.check_wire.result c.written.ensures.status (search rules, search rules)
    (found-as c.args.version c.args.root.now c.args.wire.now c.check_wire.result c.digest_with.result c.digest_with.ensures
    c.check_wire.ensures.leads c.check_wire.ensures.not_open c.check_wire.ensures.wrong_shape)
