use Rattle.std.proofs.Common.{◌≡◌, ℕ, sym, ap, ◌∙◌, subst}
use Rattle.mem_plain.specs.Contents.{byte_at}
use Rattle.rv_step.specs.State.{State, state_of}
use Rattle.rv_step.specs.Step.{step}
use Rattle.state_commit.specs.Committing.{HasTreeFor}
use Rattle.state_commit.proofs.StateLemmas.{step-outside}
use Rattle.state_commit.proofs.VersionLemmas.{tree-for, input-kept}
use Rattle.state_commit.proofs.committed.Committed.step.Goals as goal

pub registers_after-regs-requires : goal.registers_after-regs-requires
registers_after-regs-requires g c =
    let before = state_of c.self.inside.machine in
    let after : state_of c.step.new.machine ≡ step before = c.in_ok-page.ensures.ok in
    let version = ap (λ (s : State). s.version) after ∙ c.runs_keep_the_input.ensures.version before 1 in
    subst (λ (v : ℕ). HasTreeFor v c.self.inside.regs) (sym version) (tree-for before c.self.inside.regs c.self.invariant.1)

pub invariant_of-result : goal.invariant_of-result
invariant_of-result g c =
    let before = state_of c.self.inside.machine in
    let after : state_of c.step.new.machine ≡ step before = c.in_ok-page.ensures.ok in
    let same = step-outside before c.in_ok-page.page c.in_ok-page.ensures.page c.one_page_changes.ensures.kept c.one_page_changes.ensures.elsewhere in (
      (c.step.ensures.chained, c.in_ok-follow.ensures.untouched, c.in_ok-follow.ensures.tree before.memory c.self.invariant.0.2 (λ q apart. same q apart ∙ ap (λ (t : State). byte_at t.memory q) (sym after))),
      c.registers_after-regs.ensures,
      input-kept g.D.Digester.digest_of before (state_of c.step.new.machine) c.self.inside.input
          (ap (λ (s : State). s.version) after ∙ c.runs_keep_the_input.ensures.version before 1) (ap (λ (s : State). s.input) after ∙ c.runs_keep_the_input.ensures.input before 1) c.self.invariant.2,
    )
