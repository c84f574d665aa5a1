use Rattle.rv_text.proofs.meaning.LaterLemmas.{name-later}
use Rattle.rv_text.proofs.meaning.TargetLemmas.{far-exactly, undefined-exactly}
use Rattle.rv_text.proofs.laws.only_names_fail_later.Goals as goal

pub returns-clause-of_name : goal.returns-clause-of_name
returns-clause-of_name c = name-later

pub returns-clause-undefined : goal.returns-clause-undefined
returns-clause-undefined c = undefined-exactly

pub returns-clause-far : goal.returns-clause-far
returns-clause-far c = far-exactly
