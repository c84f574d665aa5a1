-- To believe: which classes servers have. The class of a number is what it leaves when it is divided by the count of classes.
use Rattle.std.specs.Prelude.{◌≡◌, ℕ, ◌+◌, ◌<◌, List, length, slice_index_or}

-- the servers have the classes from the first on, one each, in their order
abbrev pub HaveClasses : {W : Type 0} → (W → ℕ) → ℕ → List W → Type 0
HaveClasses {W} class first servers = (i : ℕ) (d : W) → i < length servers → class (slice_index_or servers i d) ≡ first + i
