use Rattle.std.proofs.Common.{◌≡◌, ◌<◌, ℕ, Option, IfSome, ap, ◌∙◌, sym, subst}
use Rattle.rd_base.specs.Scheme.{scheme_of}
use Rattle.rd_base.specs.declared.scheme.InputScheme.TheVariants as input
use Rattle.rv_step.specs.NextEffect.{seen_of}
use Rattle.rv_step.specs.NextNeed.{next_need}
use Rattle.rv_step.specs.Alike.{named_at}
use Rattle.rv_step.specs.State.{State, state_of}
use Rattle.open_proof.specs.Facts.{byte_needed}
use Rattle.open_proof.specs.OpenedChunk.{fetch_of_state}
use Rattle.open_proof.specs.Shown.{operand_of_state, tree_of_state}
use Rattle.open_proof.specs.declared.facts.HeldInput.{HeldInput}
use Rattle.open_proof.proofs.WholeLemmas.{byte-offered, byte-within}
use Rattle.open_proof.proofs.proving.called_by_state.Goals as goal

pub returns-clause-fetch : goal.returns-clause-fetch
returns-clause-fetch g c = c.called_of.ensures.fetch ∙ ap fetch_of_state c.machine.ensures.state

pub returns-clause-names : goal.returns-clause-names
returns-clause-names g c = c.called_of.ensures.names ∙ ap named_at c.machine.ensures.state

pub returns-clause-operand : goal.returns-clause-operand
returns-clause-operand g c = c.called_of.ensures.operand ∙ ap operand_of_state c.machine.ensures.state

pub returns-clause-input : goal.returns-clause-input
returns-clause-input g c =
    let digest = g.D.Digester.digest_of in
    c.called_of.ensures.input
    ∙ (ap (λ (t : Option HeldInput). byte_needed t (next_need (seen_of (state_of c.machine.result.now)))) c.tree_of.ensures.value
    ∙ ap (λ (s : State). byte_needed (tree_of_state digest c.args.committed.now) (next_need (seen_of s))) c.machine.ensures.state)

pub returns-clause-inside : goal.returns-clause-inside
returns-clause-inside g c =
    let n = next_need (seen_of (state_of c.machine.result.now)) in
    subst (λ (o : Option ℕ). IfSome o (λ k. k < 1048576)) (sym c.called_of.ensures.input) (byte-within c.tree_of.result n c.tree_of.ensures.short)

pub returns-clause-offered : goal.returns-clause-offered
returns-clause-offered g c =
    let s = c.args.committed.now in
    let n = next_need (seen_of (state_of c.machine.result.now)) in
    subst (λ (o : Option ℕ). IfSome o (λ _. (scheme_of s.version).input ≡ input.Tree))
    (sym (c.called_of.ensures.input ∙ ap (λ (t : Option HeldInput). byte_needed t n) c.tree_of.ensures.value))
    (byte-offered g.D.Digester.digest_of s.input (scheme_of s.version).input n)
