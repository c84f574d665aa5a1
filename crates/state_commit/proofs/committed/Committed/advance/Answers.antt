use Rattle.std.proofs.Common.{◌≡◌, ℕ, sym, ap, ◌∙◌, subst}
use Rattle.rv_step.specs.State.{State, state_of}
use Rattle.rv_step.specs.Step.{state_at}
use Rattle.state_commit.specs.Committing.{HasTreeFor}
use Rattle.state_commit.proofs.VersionLemmas.{tree-for, input-kept}
use Rattle.state_commit.proofs.committed.Committed.advance.Goals as goal

pub registers_after-regs-requires : goal.registers_after-regs-requires
registers_after-regs-requires g c =
    let before = state_of c.self.inside.machine in
    let after : state_of c.advance.new.machine ≡ state_at before c.args.steps = c.in_ok-advance.ensures.ok in
    let version = ap (λ (s : State). s.version) after ∙ c.runs_keep_the_input.ensures.version before c.args.steps in
    subst (λ (v : ℕ). HasTreeFor v c.self.inside.regs) (sym version) (tree-for before c.self.inside.regs c.self.invariant.1)

pub invariant_of-result : goal.invariant_of-result
invariant_of-result g c =
    let before = state_of c.self.inside.machine in
    let after : state_of c.advance.new.machine ≡ state_at before c.args.steps = c.in_ok-advance.ensures.ok in (
      (
        c.advance.ensures.chained,
        c.in_ok-memory.ensures.untouched,
        c.in_ok-memory.ensures.tree before.memory (c.in_ok-released.ensures.tree before.memory c.self.invariant.0.2) c.in_ok-released.ensures.used,
      ),
      c.registers_after-regs.ensures,
      input-kept g.D.Digester.digest_of before (state_of c.advance.new.machine) c.self.inside.input
          (ap (λ (s : State). s.version) after ∙ c.runs_keep_the_input.ensures.version before c.args.steps) (ap (λ (s : State). s.input) after ∙ c.runs_keep_the_input.ensures.input before c.args.steps) c.self.invariant.2,
    )
