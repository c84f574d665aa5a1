use Rattle.std.proofs.Common.{arith}
use Rattle.delegate.specs.OfCase.{start_response}
use Rattle.delegate.proofs.OfCaseLemmas.{too_long-by, ended-by, valid-too_long, valid-ended}
use Rattle.delegate.proofs.of_case.start_response_to.Goals as goal

pub returns-then-bytes-gt-MAX_CASE_BYTES-clause-response : goal.returns-then-bytes-gt-MAX_CASE_BYTES-clause-response
returns-then-bytes-gt-MAX_CASE_BYTES-clause-response c =
    too_long-by start_response c.args.bytes.now c.in_ok-too_long.field-0 (omega (arith, c.if-bytes-gt-MAX_CASE_BYTES.true)) c.in_ok-too_long.ensures

pub returns-then-bytes-gt-MAX_CASE_BYTES-clause-valid : goal.returns-then-bytes-gt-MAX_CASE_BYTES-clause-valid
returns-then-bytes-gt-MAX_CASE_BYTES-clause-valid c = valid-too_long c.args.bytes.now (omega (arith, c.if-bytes-gt-MAX_CASE_BYTES.true))

pub returns-clause-response : goal.returns-clause-response
returns-clause-response c =
    ended-by start_response c.args.bytes.now c.in_ok-given.given.items c.start.result c.either_way.result (omega (arith, c.if-bytes-gt-MAX_CASE_BYTES.false))
    c.in_ok-given.ensures.items c.start.ensures.stands c.either_way.ensures

pub returns-clause-valid : goal.returns-clause-valid
returns-clause-valid c =
    valid-ended c.args.bytes.now c.in_ok-given.given.items c.start.result c.either_way.result (omega (arith, c.if-bytes-gt-MAX_CASE_BYTES.false))
    c.in_ok-given.ensures.items c.start.ensures.stands c.start.ensures.valid c.either_way.ensures
