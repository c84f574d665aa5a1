use Rattle.std.proofs.Common.{ℕ, List, ap, ◌∙◌}
use Rattle.rd_base.specs.Scheme.{scheme_of}
use Rattle.rv_step.specs.State.{State}
use Rattle.open_proof.specs.OpenedChunk.{opening_at}
use Rattle.open_proof.specs.PlainProof.{input_opening_at, plain_facts, registers_opened}
use Rattle.open_proof.specs.declared.facts.Facts.{Facts}
use Rattle.open_proof.proofs.WholeLemmas.{facts-are}
use Rattle.open_proof.proofs.proving.plain_facts.Goals as goal

pub returns : goal.returns
returns g c =
    let digest = g.D.Digester.digest_of in
    let s = c.args.committed.now in
    let f : Facts = record {
      version = c.machine.result.now.version;
      mem = c.root.result;
      input_tree = c.tree_of.result;
      regs = c.registers_opened.result;
      ctl = c.ctl_of.result;
      fetch = c.opening_at.result;
      operand = c.opening_at-2.result;
      input = c.input_opening_at.result;
    } in
    facts-are f (plain_facts digest s) (ap (λ (t : State). t.version) c.machine.ensures.state) (c.root.ensures s.memory c.memory.ensures.tree) c.tree_of.ensures.value
    (c.registers_opened.ensures ∙ ap (λ (rs : List ℕ). registers_opened digest (scheme_of s.version).registers s.regs rs) (c.as_slice.ensures.value ∙ c.called_by_state-called.ensures.names))
    c.ctl_of.ensures
    (c.opening_at.ensures ∙ ap (opening_at digest s.memory) c.called_by_state-called.ensures.fetch)
    (c.opening_at-2.ensures ∙ ap (opening_at digest s.memory) c.called_by_state-called.ensures.operand)
    (c.input_opening_at.ensures ∙ ap (input_opening_at digest s.input) c.called_by_state-called.ensures.input)
