use Rattle.std.proofs.Common.{sym, subst}
use Rattle.rv_step.specs.State.{state_of}
use Rattle.prover_run.specs.Prover.{Prover, IsRunOf}
use Rattle.prover_run.proofs.RunLemmas.{last_output}
use Rattle.prover_run.proofs.prover.RunAnswererAnswerer.answer.Goals as goal

pub plain_answer-answer-requires-clause-short : goal.plain_answer-answer-requires-clause-short
plain_answer-answer-requires-clause-short g c κs within =
    last_output c.outputs_grow_slowly.ensures g.D.Digester.digest_of _ c.in_ok-run.run' c.in_ok-run.ensures c.self.invariant.room

pub invariant_of-self-in_err-answer : goal.invariant_of-self-in_err-answer
invariant_of-self-in_err-answer g c =
    let p : Prover = record { start = state_of c.self.inside.start; tamper = c.self.inside.tamper; bound = c.self.inside.reader.plan.bound } in
    let was = c.self.invariant in
    record {
      chained = was.chained;
      has_input = was.has_input;
      room = was.room;
      recorded = subst (IsRunOf g.D.Digester.digest_of p) (sym c.plain_answer-answer.ensures.run) c.in_ok-run.ensures;
      are_kept = c.plain_answer-answer.ensures.kept p c.in_ok-run.ensures was.are_kept;
    }

pub invariant_of-self-2 : goal.invariant_of-self-2
invariant_of-self-2 g c =
    let p : Prover = record { start = state_of c.self.inside.start; tamper = c.self.inside.tamper; bound = c.self.inside.reader.plan.bound } in
    let was = c.self.invariant in
    record {
      chained = was.chained;
      has_input = was.has_input;
      room = was.room;
      recorded = subst (IsRunOf g.D.Digester.digest_of p) (sym c.plain_answer-answer.ensures.run) c.in_ok-run.ensures;
      are_kept = c.plain_answer-answer.ensures.kept p c.in_ok-run.ensures was.are_kept;
    }
