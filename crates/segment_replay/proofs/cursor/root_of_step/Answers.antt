use Rattle.std.proofs.Common.{◌≡◌, ℕ, sym, ap, ◌∙◌}
use Rattle.rd_base.specs.Scheme.{scheme_of}
use Rattle.rv_step.specs.State.{State}
use Rattle.state_commit.specs.StateRoot.{registers_digest}
use Rattle.mem_tree.specs.InputTree.{input_root}
use Rattle.segment_replay.specs.Roots.{root_of_state}
use Rattle.segment_replay.proofs.cursor.root_of_step.Goals as goal

pub root_of_parts-root-requires-clause-registers : goal.root_of_parts-root-requires-clause-registers
root_of_parts-root-requires-clause-registers g c =
    let r = c.args.replay.now.run.now in
    let m = c.in_ok-cursor.cursor.machine in
    let version : m.version ≡ r.first.version = ap (λ (s : State). s.version) c.in_ok-cursor.ensures.machine.state ∙ c.tampered_runs_keep_the_input.ensures.version r.tamper r.first c.in_ok-cursor.cursor.at in
    c.digest.ensures.value ∙ ap (λ (v : ℕ). registers_digest g.D.Digester.digest_of v m.regs) (c.requires.registers ∙ sym version)

pub root_of_parts-root-requires-clause-input : goal.root_of_parts-root-requires-clause-input
root_of_parts-root-requires-clause-input g c tree =
    let r = c.args.replay.now.run.now in
    let version = ap (λ (s : State). s.version) c.in_ok-cursor.ensures.machine.state ∙ c.tampered_runs_keep_the_input.ensures.version r.tamper r.first c.in_ok-cursor.cursor.at in
    let same = ap (λ (s : State). s.input) c.in_ok-cursor.ensures.machine.state ∙ c.tampered_runs_keep_the_input.ensures.input r.tamper r.first c.in_ok-cursor.cursor.at in
    c.args.replay.now.of_input (ap (λ (v : ℕ). (scheme_of v).input) (sym version) ∙ tree) ∙ ap (input_root g.D.Digester.digest_of) (sym same)

pub returns-clause-root : goal.returns-clause-root
returns-clause-root g c = c.root_of_parts-root.ensures ∙ ap (root_of_state g.D.Digester.digest_of) (c.in_ok-cursor.ensures.machine.state ∙ c.in_ok-cursor.ensures.step)
