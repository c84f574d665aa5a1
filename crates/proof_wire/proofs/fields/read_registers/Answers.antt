use Rattle.std.proofs.Common.{◌≡◌, ◌+◌, ◌-◌, ◌<◌, ◌≤◌, length, set, arith, ap, ◌∙◌, Ok}
use Rattle.std.proofs.lemmas.List.{take_more_set, take_all, length-set}
use Rattle.proof_wire.specs.Reading.{word_ahead, registers_ahead}
use Rattle.proof_wire.proofs.EachLemmas.{goes_on, ends, with_register-above_zero}
use Rattle.proof_wire.proofs.fields.read_registers.Goals as goal

pub loop-reg-preserved : goal.loop-reg-preserved
loop-reg-preserved c =
    let within : c.loop-reg.reg < length c.loop-reg.regs = omega arith in
    let written : c.set.new.self ≡ set c.loop-reg.regs c.loop-reg.reg c.read_word-value.result.0 =
    c.set.ensures ∙ with_register-above_zero c.loop-reg.regs c.loop-reg.reg c.read_word-value.result.0 c.loop-reg.auto.reg in
    record {
      count = ap length written ∙ length-set _ _ _ ∙ c.loop-reg.invariant.count;
      room = omega arith;
      so_far = rw (written, take_more_set)
          (goes_on word_ahead _ (32 - c.loop-reg.reg) (32 - (c.loop-reg.reg + 1)) c.loop-reg.rest.now _ _ _ (omega arith) c.read_word-value.ensures.read c.loop-reg.invariant.so_far);
    }

pub returns-clause-read : goal.returns-clause-read
unfolding registers_ahead
returns-clause-read c =
    let long : length c.loop-reg.regs ≤ c.loop-reg.reg = omega arith in
    ends word_ahead _ (32 - c.loop-reg.reg) c.loop-reg.rest.now _ (omega arith) c.loop-reg.invariant.so_far
    ∙ ap (λ regs. Ok (regs, c.loop-reg.rest.now)) (take_all _ _ long)
