use Rattle.std.proofs.Common.{Some, None}
use Rattle.rv_text.specs.Places.{distances_in}
use Rattle.rv_text.proofs.digits.SumLemmas.{sum-first}
use Rattle.rv_text.proofs.operands.+operands_bits.Goals as goal
use Rattle.rv_text.proofs.operands.+operands_bits.Goals.{in-Some, in-None}

pub returns-after-after_slot-clause-bits : goal.returns-after-after_slot-clause-bits
returns-after-after_slot-clause-bits t c =
    let o = c.split_operand.ensures in
    elim c.match-after_slot.branch [
      | in-Some w ↦ sum-first (distances_in c.args.scope.now) c.args.slots.now _ c.args.text.now _ _ c.field_of.result _ _ c.plus.result (Some w.in-Some.rest.now) c.in-len1-up.len_at_least o.operand o.rest c.field_of.ensures c.operand_bits-first.ensures.bits (rw w.in-Some.is at c.after_slot.ensures) (rw w.more-is w.operands_bits-more.ensures.bits) c.plus.ensures
      | in-None w ↦ sum-first (distances_in c.args.scope.now) c.args.slots.now _ c.args.text.now _ _ c.field_of.result _ _ c.plus.result None c.in-len1-up.len_at_least o.operand o.rest c.field_of.ensures c.operand_bits-first.ensures.bits (rw w.in-None.is at c.after_slot.ensures) w.more-is c.plus.ensures
    ]
