use Rattle.open_proof.proofs.LeadLemmas.{shown-leads}
use Rattle.open_proof.proofs.facts.laws.shown_states_lead.Goals as goal

pub returns : goal.returns
returns c = λ digest facts s valid shows. shown-leads c.laws_below.ensures.steps c.laws_below.ensures.registers c.laws_below.ensures.trees digest s valid facts shows
