use Rattle.std.proofs.lemmas.Nat.Bits.{bit_at_and, bit_at_or, bit_at_xor, same_from_bits_below}
use Rattle.rv_step.proofs.arithmetic_laws.words_are_their_bits.Goals as goal

pub returns-clause-combined : goal.returns-clause-combined
returns-clause-combined c = λ a b. record { both = bit_at_and a b; either = bit_at_or a b; one_alone = bit_at_xor a b }

pub returns-clause-same : goal.returns-clause-same
returns-clause-same c = same_from_bits_below 32
