-- Derived: numbers that are being put into the order of their classes, class after class. `arrange` ends with `IsByClass`.
use Rattle.std.specs.Prelude.{ℕ, ◌%◌, ◌<◌, ◌≤◌, List, length, slice_index}

-- the first `done` numbers are in order, and none after them is of a lower class; all others are of this class or a higher one, and those
-- before place i of a higher one
pub record IsArranging (classes class done i : ℕ) (numbers : List ℕ) : Type 0 where
  pub front : (a b : ℕ) → a < done → a ≤ b → b < length numbers → slice_index numbers a % classes ≤ slice_index numbers b % classes
  pub others : (j : ℕ) → done ≤ j → j < length numbers → class ≤ slice_index numbers j % classes
  pub passed : (j : ℕ) → done ≤ j → j < i → class < slice_index numbers j % classes
