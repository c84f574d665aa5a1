use Rattle.std.proofs.Common.{◌∙◌, arith}
use Rattle.proof_wire.proofs.AnswerLemmas.{is_step_found, step_again}
use Rattle.proof_wire.proofs.reading.decode_step.Goals as goal

pub returns-clause-found : goal.returns-clause-found
returns-clause-found c = is_step_found c.args.bytes.now c.read_whole_step.result (λ k. omega (arith, c.type_inv.bytes k)) c.read_whole_step.ensures

pub returns-clause-only : goal.returns-clause-only
returns-clause-only c = λ proof spells. c.read_whole_step.ensures ∙ step_again proof c.args.bytes.now spells
