-- Derived: numbers in the order of their classes, and servers that suit them. `arrange` ends with `IsByClass`.
use Rattle.std.specs.Prelude.{ℕ, ◌+◌, ◌%◌, ◌<◌, ◌≤◌, List, length, slice_index}
use Rattle.posters.specs.Classes.{HaveClasses}

-- the numbers are in the order of their classes
abbrev pub IsByClass : ℕ → List ℕ → Type 0
IsByClass classes numbers = (i j : ℕ) → i ≤ j → j < length numbers → slice_index numbers i % classes ≤ slice_index numbers j % classes

-- servers of the classes from the first on, for the `long` numbers from the place `from` on, which are of these classes and in their order
pub record Suits {W : Type 0} (class : W → ℕ) (classes : ℕ) (numbers : List ℕ) (from long : ℕ) (servers : List W) : Type 0 where
  pub first : ℕ
  pub by_class : IsByClass classes numbers
  pub servers_classes : HaveClasses class first servers
  pub least : (j : ℕ) → from ≤ j → j < from + long → first ≤ slice_index numbers j % classes
  pub most : (j : ℕ) → from ≤ j → j < from + long → slice_index numbers j % classes < first + length servers
