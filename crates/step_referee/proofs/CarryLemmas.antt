-- What an effect that neither stores nor puts changes of what is held.
use Rattle.std.proofs.Common.{◌≡◌, ◌≢◌, ℕ, List, Option, Some, None, refl}
use Rattle.rd_base.specs.declared.opened.Opening.{Opening}
use Rattle.rv_step.specs.declared.effect.Effect.{Effect}
use Rattle.rv_step.specs.declared.effect.Effect.TheVariants.{Write, Jump, Branch, Next, Store, Put, Exit, Trap}
use Rattle.open_proof.specs.Held.{Held, held_after}
use Rattle.step_referee.specs.Ticks.{digests_of_effect}

-- an effect that neither stores nor puts makes no digest
abbrev pub IsNoStore : Effect → Type 0
IsNoStore e = (addr width value : ℕ) → e ≢ Store addr width value

abbrev pub IsNoPut : Effect → Type 0
IsNoPut e = (byte : ℕ) → e ≢ Put byte

pub held_apart : (digest : List ℕ → List ℕ) (operand : Option Opening) (p : Held) (e : Effect) → IsNoStore e → IsNoPut e
    → record { mem = p.mem; regs = (held_after digest operand p e).regs; ctl = record p.ctl { pc = (held_after digest operand p e).ctl.pc; status = (held_after digest operand p e).ctl.status } }
    ≡ held_after digest operand p e
held_apart digest None p (Write rd value) stores puts = refl
held_apart digest None p (Jump rd target) stores puts = refl
held_apart digest None p (Branch target) stores puts = refl
held_apart digest None p Next stores puts = refl
held_apart digest None p (Exit code) stores puts = refl
held_apart digest None p (Trap code) stores puts = refl
held_apart digest (Some o) p (Write rd value) stores puts = refl
held_apart digest (Some o) p (Jump rd target) stores puts = refl
held_apart digest (Some o) p (Branch target) stores puts = refl
held_apart digest (Some o) p Next stores puts = refl
held_apart digest (Some o) p (Exit code) stores puts = refl
held_apart digest (Some o) p (Trap code) stores puts = refl
held_apart digest operand p (Store addr width value) stores puts = absurd (stores addr width value refl)
held_apart digest operand p (Put byte) stores puts = absurd (puts byte refl)

pub digests_apart : (operand : Option Opening) (e : Effect) → IsNoStore e → IsNoPut e → digests_of_effect operand e ≡ 0
digests_apart operand (Store addr width value) stores puts = absurd (stores addr width value refl)
digests_apart operand (Put byte) stores puts = absurd (puts byte refl)
digests_apart operand e stores puts = refl
