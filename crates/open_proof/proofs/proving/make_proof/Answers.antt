use Rattle.std.proofs.Common.{sym, subst}
use Rattle.rd_base.specs.declared.proof.Proof.{Proof}
use Rattle.rv_step.specs.Valid.{IsValid}
use Rattle.open_proof.specs.Conditions.{LeadsFrom}
use Rattle.open_proof.specs.Facts.{facts_of}
use Rattle.open_proof.proofs.WholeLemmas.{plain-is}
use Rattle.open_proof.proofs.proving.make_proof.Goals as goal

pub returns-clause-leads : goal.returns-clause-leads
returns-clause-leads g c = λ a b start end.
    let digest = g.D.Digester.digest_of in
    let s = c.args.committed.now in
    subst (λ (proof : Proof). LeadsFrom digest s.version a (facts_of proof) b) (sym (plain-is digest s c.plain_facts.result c.proof_of.result c.plain_facts.ensures c.proof_of.ensures))
    (c.plain_proofs_lead.ensures digest s a b (subst IsValid c.machine-machine.ensures.state c.machines_are_valid.ensures) start end)
