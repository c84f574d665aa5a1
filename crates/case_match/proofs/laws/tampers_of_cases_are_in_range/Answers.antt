use Rattle.rd_base.specs.declared.tamper.Tamper.{Tamper}
use Rattle.rd_base.specs.declared.tamper.Tamper.TheVariants.{Untouched, Flip, Register, Early}
use Rattle.checkpoint_run.specs.ValidRuns.{IsTamperInRange}
use Rattle.case_reader.specs.ReadTampers.{IsReadTamper}
use Rattle.case_match.proofs.laws.tampers_of_cases_are_in_range.Goals as goal

in-range : (t : Tamper) → IsReadTamper t → IsTamperInRange t
in-range Untouched is = tt
in-range (Flip at addr mask) is = (is.1, is.2)
in-range (Register at reg value) is = is.3
in-range (Early steps) is = tt

pub returns : goal.returns
returns c bytes read k script held is = in-range script.tamper (c.tampers_are_read_in_range.ensures bytes read k script held is)
