use Rattle.std.proofs.Common.{◌≡◌, ℕ, ◌++◌, sym, ap, ◌∙◌, add-one, arith}
use Rattle.rv_step.specs.Step.{step, state_at}
use Rattle.segment_replay.specs.Roots.{root_of_state}
use Rattle.transcript_text.specs.Roots.{root_line, root_lines}
use Rattle.delegate.proofs.commands.run.add_roots.Goals as goal

pub states-preserved : goal.states-preserved
states-preserved g c =
    let digest = g.D.Digester.digest_of in
    let root = λ (k : ℕ). root_of_state digest (state_at c.args.start k) in
    let i = c.states.i in
    let before = c.states.invariant in (
      c.in_ok-add_root_line.ensures.added
          ∙ (ap (λ text. text ++ root_line i c.root.result.0) before.0
          ∙ (ap (λ r. root_lines root i ++ root_line i r) (c.root.ensures ∙ ap (root_of_state digest) before.1)
          ∙ ap (root_lines root) (sym (add-one i)))),
      c.in_ok-committed.ensures ∙ (ap step before.1 ∙ ap (state_at c.args.start) (sym (add-one i))),
    )

pub returns : goal.returns
returns g c =
    let digest = g.D.Digester.digest_of in
    let root = λ (k : ℕ). root_of_state digest (state_at c.args.start k) in
    let bound = c.args.bound in
    let last : c.states.i ≡ bound = omega (arith, c.states.auto.i-end, c.states-test.false) in
    let before = c.states.invariant in
    c.in_ok-add_root_line-2.ensures.added
    ∙ (ap (λ text. text ++ root_line bound c.root-2.result.0) (before.0 ∙ ap (root_lines root) last)
    ∙ (ap (λ r. root_lines root bound ++ root_line bound r) (c.root-2.ensures ∙ ap (root_of_state digest) (before.1 ∙ ap (state_at c.args.start) last))
    ∙ ap (root_lines root) (sym (add-one bound))))
