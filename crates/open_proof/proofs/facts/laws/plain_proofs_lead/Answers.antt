use Rattle.open_proof.proofs.TruthLemmas.{plain-leads}
use Rattle.open_proof.proofs.facts.laws.plain_proofs_lead.Goals as goal

pub returns : goal.returns
returns c = λ digest s a b valid start end. plain-leads c.laws_below.ensures.steps c.laws_below.ensures.registers c.laws_below.ensures.trees digest s valid a b start end
