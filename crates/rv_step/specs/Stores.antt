-- Derived: that an effect stores at a multiple of the width, if it stores, and the number that an instruction reads.
use Rattle.std.specs.Prelude.{ℕ}
use Rattle.rv_step.specs.Parts.{IsAccess}
use Rattle.rv_step.specs.NextEffect.{Seen}
use Rattle.rv_step.specs.declared.effect.Effect.{Effect}
use Rattle.rv_step.specs.declared.effect.Effect.TheVariants.{Store}
use Rattle.rv_step.specs.declared.asked.Need.{Need}
use Rattle.rv_step.specs.declared.asked.Need.TheVariants as need

-- if an effect is a store, it is at a multiple of its width
abbrev pub StoresAligned : Effect → Type 0
StoresAligned (Store addr width value) = IsAccess addr width
StoresAligned e = Unit {0}

-- the number that is read for what an instruction needs, of memory or of the input; 0 if nothing is read
abbrev pub read_by : Seen → Need → ℕ
read_by s (need.Load addr width) = s.number addr width
read_by s (need.Input index) = s.byte index
read_by s n = 0
