use Rattle.machine_audit.specs.MachineAudit.{ConfirmedCasesAreRight}
use Rattle.delegate.proofs.ConfirmedLemmas.{confirmed-are-right}
use Rattle.delegate.proofs.HeadlineLemmas.{by-name}
use Rattle.delegate.proofs.laws.confirmed_texts_are_right.Goals as goal

pub returns : goal.returns
returns c = confirmed-are-right (by-name ConfirmedCasesAreRight c.confirmed_cases_are_right.ensures c.confirmed_cases_are_right-2.ensures)
