use Rattle.std.proofs.Common.{sym, ap, ◌∙◌}
use Rattle.rv_step.specs.State.{State, state_of}
use Rattle.rv_step.specs.Step.{state_at}
use Rattle.state_commit.specs.StateRoot.{root_in}
use Rattle.plain_answers.specs.Plain.{plain_root}
use Rattle.plain_answers.proofs.RunLemmas.{one-more}
use Rattle.plain_answers.proofs.answering.plain_roots.Goals as goal

pub steps-preserved : goal.steps-preserved
steps-preserved g c =
    let digest = g.D.Digester.digest_of in
    let start = state_of c.args.run.now.start in
    let at = c.in_ok-next.ensures.committed ∙ ap (state_at start) c.min.ensures in
    record {
      so_far = one-more (plain_root digest (state_at start) c.args.run.now.bound) c.args.steps.now c.steps.step-index c.steps.roots.items c.push.new.self.items c.root.result c.steps-test.true
          c.in_ok-push.ensures.items c.steps.invariant.so_far (c.root.ensures ∙ ap (λ (s : State). root_in digest s.version s) at);
      kept = c.in_ok-next.ensures.committed ∙ ap (state_at start) (sym c.in_ok-next.ensures.at);
    }
