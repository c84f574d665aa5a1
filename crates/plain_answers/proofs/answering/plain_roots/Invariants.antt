use Rattle.std.proofs.Common.{◌≡◌, map, take, IfSome}
use Rattle.rv_step.specs.State.{state_of}
use Rattle.rv_step.specs.Step.{state_at}
use Rattle.plain_answers.specs.Plain.{plain_root}
use Rattle.plain_answers.proofs.answering.plain_roots.Given as goal

abbrev pub invariant-steps : goal.invariant-steps
invariant-steps g l = record {
  so_far : l.roots.items ≡ map (plain_root g.D.Digester.digest_of (state_at (state_of l.run.start)) l.run.bound) (take l.step-index l.steps);
  kept : IfSome l.reached (λ r. r.committed ≡ state_at (state_of l.run.start) r.at);
}
