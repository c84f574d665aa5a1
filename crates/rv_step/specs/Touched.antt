-- To believe: the page that a step stores to. The law `one_page_changes` ties it to the step.
use Rattle.std.specs.Prelude.{ℕ, ◌/◌, Option, Some, None}
use Rattle.rv_step.specs.State.{State}
use Rattle.rv_step.specs.NextEffect.{seen_of, next_effect}
use Rattle.rv_step.specs.declared.effect.Effect.{Effect}
use Rattle.rv_step.specs.declared.effect.Effect.TheVariants.{Store}

-- the page of the store that an effect is: its address by 4,096
abbrev pub stored_page : Effect → Option ℕ
stored_page (Store addr width value) = Some (addr / 4096)
stored_page e = None

-- the page that a step stores to by its effect, if it has one
abbrev pub page_of_effect : Option Effect → Option ℕ
page_of_effect (Some e) = stored_page e
page_of_effect None = None

-- the page that the step from a state stores to, if it stores
unfoldable pub touched : State → Option ℕ
touched s = page_of_effect (next_effect (seen_of s))
