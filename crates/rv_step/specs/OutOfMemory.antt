-- To believe, of a step that is out of memory: the steps for which memory has to be taken.
use Rattle.std.specs.Prelude.{◌≡◌, ◌/◌, Some}
use Rattle.mem_plain.specs.Contents.{Contents, IsUsed}
use Rattle.rv_step.specs.State.{State}
use Rattle.rv_step.specs.NextEffect.{seen_of, next_effect}
use Rattle.rv_step.specs.declared.effect.Effect.{Effect}
use Rattle.rv_step.specs.declared.effect.Effect.TheVariants.{Store, Put}

-- an effect for which memory has to be taken: a store to a page in which every byte is 0, or one more byte of output
abbrev pub NeedsMemory : Contents → Effect → Type 0
NeedsMemory m (Store addr width value) = ¬ IsUsed m (addr / 4096)
NeedsMemory m (Put byte) = Unit {0}
NeedsMemory m e = ⊥

-- the step from a state has an effect for which memory has to be taken
abbrev pub StepNeedsMemory : State → Type 0
StepNeedsMemory s = (e : Effect) × (next_effect (seen_of s) ≡ Some e) × NeedsMemory s.memory e
