use Rattle.std.proofs.Common.{arith}
use Rattle.proof_wire.proofs.AnswerLemmas.{is_found, is_only}
use Rattle.proof_wire.proofs.reading.decode.Goals as goal

pub returns-clause-found : goal.returns-clause-found
returns-clause-found c = is_found c.args.bytes.now c.read_whole.result (λ k. omega (arith, c.type_inv.bytes k)) c.read_whole.ensures

pub returns-clause-only : goal.returns-clause-only
returns-clause-only c = λ answer spells. is_only c.args.bytes.now c.read_whole.result answer spells c.read_whole.ensures
