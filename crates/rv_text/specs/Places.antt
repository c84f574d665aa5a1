-- Derived: the names in the code's map.
use Rattle.std.specs.Prelude.{ℕ, List, Result, Ok}
use Rattle.std.specs.BTreeMap.{BTreeMap, get_by}
use denote.Ref.{Bor}
use Rattle.std.specs.Cmp.Lexicographic.{slice_cmp}
use Rattle.std.specs.Ordering.{nat_cmp}
use Rattle.rd_base.specs.Results.{◌>>=◌}
use Rattle.rv_text.specs.Operands.{Distances}
use Rattle.rv_text.specs.Assembly.{Pass, Names, near, distances_from}
use Rattle.rv_text.specs.Faults.{fault}
use Rattle.rv_text.specs.declared.fault.AsmFault.{AsmFault}
use Rattle.rv_text.specs.declared.fault.AsmError.{AsmError}
use Rattle.rv_text.specs.declared.fault.AsmError.TheVariants as errors
use Rattle.rv_text.specs.declared.assembling.LineError.{LineError}
use Rattle.rv_text.specs.declared.assembling.LineError.TheVariants as lines
use Rattle.rv_text.specs.declared.names.Scope.{Scope}
use Rattle.rv_text.specs.declared.names.Scope.TheVariants.{Near, At}

abbrev pub places_of : BTreeMap (Bor (List ℕ)) ℕ → Names
places_of m name = get_by (λ k. slice_cmp nat_cmp name k.now) m

abbrev pub distances_in : Scope → Distances
distances_in Near = near
distances_in (At places here) = distances_from (places_of places.now) here

-- a line's error as the text's
abbrev pub error_in : ℕ → LineError → AsmError
error_in line (lines.Fault kind) = errors.Fault (fault line kind)
error_in line lines.Memory = errors.Memory

-- the names after a pass
abbrev pub names_of : Result Pass AsmFault → Result Names AsmFault
names_of r = r >>= λ p. Ok p.names
