use Rattle.std.proofs.Common.{◌<◌, length, arith}
use Rattle.proof_wire.proofs.EachLemmas.{bytes_of_one_more, fits_of_one_more}
use Rattle.proof_wire.proofs.writing.put_registers.Goals as goal

pub loop-reg-preserved : goal.loop-reg-preserved
loop-reg-preserved c =
    let within : c.loop-reg.reg < length c.args.regs.now = omega arith in
    record {
      bytes = bytes_of_one_more _ _ _ c.args.regs.now c.loop-reg.reg c.get.result c.loop-reg.auto.reg within c.get.ensures c.loop-reg.invariant.bytes c.in_ok-put_word.ensures.bytes;
      fits = fits_of_one_more c.args.regs.now c.loop-reg.reg c.get.result c.loop-reg.auto.reg within c.get.ensures c.loop-reg.invariant.fits c.put_word.ensures.fits;
    }
