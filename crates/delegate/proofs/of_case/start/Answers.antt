use Rattle.rv_step.specs.State.{state_of}
use Rattle.sha2.specs.Sha256.{sha256}
use Rattle.case_reader.specs.Case.{data_of}
use Rattle.delegate.proofs.OfCaseLemmas.{valid-of}
use Rattle.delegate.proofs.of_case.start.Goals as goal

pub root_of-requires : goal.root_of-requires
root_of-requires c = (c.in_ok-machine.ensures.fresh sha256).chained

pub returns-clause-valid : goal.returns-clause-valid
returns-clause-valid c =
    valid-of c.args.bytes.items (data_of c.in_ok-case.case) (state_of c.in_ok-machine.machine) c.in_ok-case.ensures c.in_ok-machine.ensures.stands c.in_ok-machine.ensures.in_range.valid
