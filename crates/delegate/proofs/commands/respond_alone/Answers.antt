use Rattle.std.proofs.Common.{arith}
use Rattle.delegate.proofs.AloneLemmas.{too_long-alone, ended-alone}
use Rattle.delegate.proofs.commands.respond_alone.Goals as goal

pub returns-then-bytes-gt-MAX_CASE_BYTES : goal.returns-then-bytes-gt-MAX_CASE_BYTES
returns-then-bytes-gt-MAX_CASE_BYTES c =
    too_long-alone c.args.command c.args.bytes.now c.in_ok-too_long.field-0 (omega (arith, c.if-bytes-gt-MAX_CASE_BYTES.true)) c.in_ok-too_long.ensures

pub returns : goal.returns
returns c =
    ended-alone c.args.command c.args.bytes.now c.in_ok-given.given.items c.carry_out_alone.result c.either_way.result (omega (arith, c.if-bytes-gt-MAX_CASE_BYTES.false))
    c.in_ok-given.ensures.items c.carry_out_alone.ensures c.either_way.ensures
