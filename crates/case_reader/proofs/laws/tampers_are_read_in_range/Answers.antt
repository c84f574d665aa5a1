use Rattle.case_reader.proofs.TamperLemmas.{tampers_are_read}
use Rattle.case_reader.proofs.laws.tampers_are_read_in_range.Goals as goal

pub returns : goal.returns
returns c = tampers_are_read
