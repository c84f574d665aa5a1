-- To believe: the range of the input of a case that is read.
use Rattle.std.specs.Prelude.{◌≡◌, ℕ, ◌<◌, ◌≤◌, List, All, length, slice_index, Some, Ok}
use Rattle.std.specs.Option.{option_map}
use Rattle.case_reader.specs.Case.{CaseData, tree_of, case_at}
use Rattle.case_reader.specs.Tasks.{Many, many_of}

-- at most 1,048,576 bytes
pub record IsReadInput (input : List ℕ) : Type 0 where
  pub short : length input ≤ 1048576
  pub bytes : (k : ℕ) → slice_index input k < 256

-- a case that is read has such an input
abbrev pub InputsAreRead : Type 0
InputsAreRead = (bytes : List ℕ) (c : CaseData) → case_at bytes ≡ Ok c → IsReadInput c.input

-- and so has each task
abbrev pub InputsOfTasksAreRead : Type 0
InputsOfTasksAreRead = (bytes : List ℕ) (cs : List CaseData) → option_map many_of (tree_of bytes) ≡ Some (Ok (Many cs)) → All (λ (c : CaseData). IsReadInput c.input) cs
