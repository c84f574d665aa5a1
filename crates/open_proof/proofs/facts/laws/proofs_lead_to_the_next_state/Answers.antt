use Rattle.open_proof.proofs.TruthLemmas.{leads-or-found}
use Rattle.open_proof.proofs.facts.laws.proofs_lead_to_the_next_state.Goals as goal

pub returns : goal.returns
returns c = λ digest is_digest proof s a b range valid root leads.
    leads-or-found c.laws_below.ensures.steps c.laws_below.ensures.registers c.laws_below.ensures.trees digest is_digest s valid proof a b range root leads
