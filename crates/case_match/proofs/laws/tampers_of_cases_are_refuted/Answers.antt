use Rattle.std.proofs.Common.{◌-◌}
use Rattle.case_match.proofs.laws.tampers_of_cases_are_refuted.Goals as goal

pub returns : goal.returns
returns g c bytes read start p q script held range truthful some is by =
    c.tampers_are_refuted.ensures.refuted read start p q script range truthful some is (c.tampers_of_cases_are_in_range.ensures bytes read (q - 1) script held is) by
