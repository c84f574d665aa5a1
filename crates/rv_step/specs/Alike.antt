-- To believe: a state and one with other registers step alike, if the registers that the next instruction names hold the
-- same.
use Rattle.std.specs.Prelude.{◌≡◌, ◌≢◌, ℕ, ◌==◌, List, [], ◌∷◌, Bool, false, ◌||◌, map, length, slice_index}
use Rattle.rv_step.specs.NextEffect.{seen_of, fetched}
use Rattle.rv_step.specs.State.{State}
use Rattle.rv_step.specs.Step.{step}
use Rattle.rv_step.specs.Named.{named_by}

-- the registers that the next instruction of a state names; none if nothing is fetched
abbrev pub named_at : State → List ℕ
named_at s = named_by (fetched (seen_of s))

-- the state with these registers
abbrev pub with_registers : List ℕ → State → State
with_registers xs s = record s { regs = xs }

-- a register file that shows what a state's next instruction names
pub record Shows (xs : List ℕ) (s : State) : Type 0 where
  pub size : length xs ≡ length s.regs
  pub zero_first : slice_index xs 0 ≡ slice_index s.regs 0
  pub named : map (λ r. slice_index xs r) (named_at s) ≡ map (λ r. slice_index s.regs r) (named_at s)

-- after the step the rest is the same, and so is each register that was the same
pub record StepAlike (xs : List ℕ) (s t u : State) : Type 0 where
  pub pc : t.pc ≡ u.pc
  pub memory : t.memory ≡ u.memory
  pub status : t.status ≡ u.status
  pub output : t.output ≡ u.output
  pub version : t.version ≡ u.version
  pub input : t.input ≡ u.input
  pub regs : (r : ℕ) → slice_index xs r ≡ slice_index s.regs r → slice_index t.regs r ≡ slice_index u.regs r

-- a register is among these
abbrev pub has_register : List ℕ → ℕ → Bool
has_register [] r = false
has_register (q ∷ qs) r = (q == r) || has_register qs r

-- a step changes at most one register, and a named one
pub record ChangesNamed (s : State) : Type 0 where
  pub elsewhere : (r : ℕ) → has_register (named_at s) r ≡ false → slice_index (step s).regs r ≡ slice_index s.regs r
  pub one : (r q : ℕ) → slice_index (step s).regs r ≢ slice_index s.regs r → q ≢ r → slice_index (step s).regs q ≡ slice_index s.regs q
