use Rattle.std.proofs.Common.{◌≡◌, ◌+◌, ◌*◌, ◌-◌, [], ◌∷◌, length, take}
use Rattle.proof_wire.specs.Reading.{word_ahead, each_ahead}
use Rattle.proof_wire.proofs.EachLemmas.{with_front}
use Rattle.proof_wire.proofs.fields.read_registers.Given as goal

abbrev pub invariant-loop-reg : goal.invariant-loop-reg
invariant-loop-reg l = record {
  count : length l.regs ≡ 32;
  room : length l.bytes + 4 ≡ length l.rest + 4 * l.reg;
  so_far : with_front (take l.reg l.regs) (each_ahead word_ahead (32 - l.reg) l.rest) ≡ with_front (0 ∷ []) (each_ahead word_ahead 31 l.bytes);
}
