-- To believe: what a step sees of what is held of a state, where opened chunks stand for memory and input.
use Rattle.std.specs.Prelude.{ℕ, ◌%◌, ◌^◌, ◌-◌, nat_lt, slice_index, Option, Some, None, if◌then◌else◌}
use Rattle.rd_base.specs.declared.scheme.InputScheme.{InputScheme}
use Rattle.rd_base.specs.declared.scheme.InputScheme.TheVariants as input
use Rattle.rd_base.specs.declared.opened.InOpening.{InOpening}
use Rattle.rd_base.specs.declared.opened.Opening.{Opening}
use Rattle.mem_plain.specs.Page.{number_in}
use Rattle.rv_step.specs.NextEffect.{Seen}
use Rattle.open_proof.specs.Held.{Held}
use Rattle.open_proof.specs.declared.facts.HeldInput.{HeldInput}

-- the number of this many bytes at an address, in the opened chunk that holds them
abbrev pub number_shown : Option Opening → ℕ → ℕ → ℕ
number_shown (Some o) addr width = number_in o.chunk (addr % 32) width
number_shown None addr width = 0

-- how the input is held
abbrev pub offering : Option HeldInput → InputScheme
offering (Some t) = input.Tree
offering None = input.InMemory

-- the input as far as it is shown: the bytes of the opened chunk, and ffffffff behind the input's end
abbrev pub opened_byte : Option InOpening → ℕ → ℕ
opened_byte (Some o) k = slice_index o.chunk (k % 32)
opened_byte None k = 0

abbrev pub byte_shown : Option HeldInput → Option InOpening → ℕ → ℕ
byte_shown (Some t) input k = if nat_lt k t.len then opened_byte input k else 2 ^ 32 - 1
byte_shown None input k = 2 ^ 32 - 1

-- what a step sees: the word at pc in the fetched chunk, numbers of memory in the chunk of data, and the input as far as it is shown
abbrev pub seen_held : Option Opening → Option Opening → Option HeldInput → Option InOpening → Held → Seen
seen_held fetch operand tree input p = record {
  status = p.ctl.status;
  pc = p.ctl.pc;
  regs = p.regs;
  word = λ addr. number_shown fetch addr 4;
  number = λ addr width. number_shown operand addr width;
  input_scheme = offering tree;
  byte = λ k. byte_shown tree input k;
}
