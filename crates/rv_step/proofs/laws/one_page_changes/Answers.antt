use Rattle.rv_step.proofs.PageLemmas.{step_kept, step_elsewhere, step_page}
use Rattle.rv_step.proofs.laws.one_page_changes.Goals as goal

pub returns-clause-kept : goal.returns-clause-kept
returns-clause-kept c = step_kept

pub returns-clause-elsewhere : goal.returns-clause-elsewhere
returns-clause-elsewhere c = step_elsewhere c.laying_bytes.ensures.stored

pub returns-clause-below : goal.returns-clause-below
returns-clause-below c = step_page
