use Rattle.std.proofs.Common.{arith}
use Rattle.delegate.specs.OfCase.{roots_at_response}
use Rattle.delegate.proofs.OfCaseLemmas.{too_long-by, ended-by}
use Rattle.delegate.proofs.run_roots.roots_response_to.Goals as goal

pub returns-then-bytes-gt-MAX_CASE_BYTES : goal.returns-then-bytes-gt-MAX_CASE_BYTES
returns-then-bytes-gt-MAX_CASE_BYTES c =
    too_long-by (roots_at_response c.args.steps.now) c.args.bytes.now c.in_ok-too_long.field-0 (omega (arith, c.if-bytes-gt-MAX_CASE_BYTES.true)) c.in_ok-too_long.ensures

pub returns : goal.returns
returns c =
    ended-by (roots_at_response c.args.steps.now) c.args.bytes.now c.in_ok-given.given.items c.roots.result c.either_way.result (omega (arith, c.if-bytes-gt-MAX_CASE_BYTES.false))
    c.in_ok-given.ensures.items c.roots.ensures c.either_way.ensures
