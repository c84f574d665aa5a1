-- To believe: the ranges of the numbers of each tamper of a case that is read.
use Rattle.std.specs.Prelude.{◌≡◌, ◌⊎◌, ℕ, ◌^◌, ◌<◌, ◌≤◌, List, Some, slice_get, Ok}
use Rattle.rd_base.specs.declared.script.Script.{Script}
use Rattle.rd_base.specs.declared.tamper.Tamper.{Tamper}
use Rattle.rd_base.specs.declared.tamper.Tamper.TheVariants.{Untouched, Flip, Register, Early}
use Rattle.case_reader.specs.Case.{CaseData}
use Rattle.case_reader.specs.Tasks.{One, Many, tasks_at}

-- steps, addresses and values are words, a mask is a byte, and a register is one of x1 to x31
abbrev pub IsReadTamper : Tamper → Type 0
IsReadTamper Untouched = Unit {0}
IsReadTamper (Flip at addr mask) = (at < 2 ^ 32) × (addr < 2 ^ 32) × (mask < 256)
IsReadTamper (Register at reg value) = (at < 2 ^ 32) × (1 ≤ reg) × (reg ≤ 31) × (value < 2 ^ 32)
IsReadTamper (Early steps) = steps < 2 ^ 32

-- a case that bytes hold: their only one, or that of a task
abbrev pub HoldsCase : List ℕ → CaseData → Type 0
HoldsCase bytes c = (tasks_at bytes ≡ Ok (One c)) ⊎ ((cs : List CaseData) × (k : ℕ) × (tasks_at bytes ≡ Ok (Many cs)) × (slice_get cs k ≡ Some c))

-- each prover of such a case has such a tamper
abbrev pub TampersAreRead : Type 0
TampersAreRead = (bytes : List ℕ) (c : CaseData) (k : ℕ) (script : Script) → HoldsCase bytes c → slice_get c.provers k ≡ Some script → IsReadTamper script.tamper
