-- To believe: what a step sees of a state, whoever holds the state, and the effect that the step has by what it sees (RISC-V Unprivileged
-- ISA 20191213, 1.2 and 2).
use Rattle.std.specs.Prelude.{ℕ, ◌%◌, ◌==◌, ◌&&◌, List, Option, Some, None, if◌then◌else◌}
use Rattle.rd_base.specs.Scheme.{scheme_of}
use Rattle.rd_base.specs.Status.{is_running}
use Rattle.rd_base.specs.declared.scheme.InputScheme.{InputScheme}
use Rattle.rd_base.specs.declared.status.Status.{Status}
use Rattle.rv_decode.specs.Reading.{reading_of}
use Rattle.rv_decode.specs.declared.instr.Instr.{Instr}
use Rattle.mem_plain.specs.Contents.{number_at}
use Rattle.rv_step.specs.State.{State}
use Rattle.rv_step.specs.Effect.{effect_with}
use Rattle.rv_step.specs.Offer.{byte_or_ones, offered}
use Rattle.rv_step.specs.declared.effect.Effect.{Effect}
use Rattle.rv_step.specs.declared.effect.Effect.TheVariants.{Trap}
use Rattle.rv_step.specs.Codes.{misaligned_jump, illegal_instruction}

-- the status, the address of the next instruction, the registers, the word that is fetched at an address, the number that memory gives at
-- an address for a width in bytes, how the input is held, and the byte of the input with a number
pub record Seen : Type 0 where
  pub status : Status
  pub pc : ℕ
  pub regs : List ℕ
  pub word : ℕ → ℕ
  pub number : ℕ → ℕ → ℕ
  pub input_scheme : InputScheme
  pub byte : ℕ → ℕ

-- what is seen of a state
abbrev pub seen_of : State → Seen
seen_of s = record {
  status = s.status;
  pc = s.pc;
  regs = s.regs;
  word = λ addr. number_at s.memory addr 4;
  number = λ addr width. number_at s.memory addr width;
  input_scheme = (scheme_of s.version).input;
  byte = byte_or_ones s.input;
}

-- the address of the word that is fetched: pc, if a state of this status is running and pc is a multiple of 4
abbrev pub address_fetched : Status → ℕ → Option ℕ
address_fetched status pc = if is_running status && (pc % 4 == 0) then Some pc else None

-- the instruction that the word at an address is
abbrev pub read_at : (ℕ → ℕ) → Option ℕ → Option Instr
read_at word (Some addr) = reading_of (word addr)
read_at word None = None

-- the instruction that is fetched; none if no word is fetched, or one that is no instruction
abbrev pub fetched : Seen → Option Instr
fetched s = read_at s.word (address_fetched s.status s.pc)

-- the effect of the instruction that a word is; a word that is none traps
abbrev pub effect_of_word : Seen → Option Instr → Effect
effect_of_word s (Some i) = effect_with (offered s.input_scheme s.byte) s.regs s.pc s.number i
effect_of_word s None = Trap illegal_instruction

-- the effect of the next step: a state that has stopped has none; one that is running has that of the word at pc, and a trap if pc isn't a
-- multiple of 4
unfoldable pub next_effect : Seen → Option Effect
next_effect s =
    if is_running s.status
    then Some (if s.pc % 4 == 0 then effect_of_word s (reading_of (s.word s.pc)) else Trap misaligned_jump)
    else None

-- the effect of an instruction in a state
abbrev pub effect_at : State → Instr → Effect
effect_at s i = effect_of_word (seen_of s) (Some i)
