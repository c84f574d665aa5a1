use Rattle.std.proofs.Common.{arith}
use Rattle.rv_decode.proofs.Numbers.{extended_low, extended_high, ones_of}
use Rattle.rv_decode.proofs.form.sign_extend.Goals as goal

pub overflow_sub-result : goal.overflow_sub-result
overflow_sub-result c = let o = ones_of c.args.width c.requires.width_to in omega arith

pub returns-then-n-ones : goal.returns-then-n-ones
returns-then-n-ones c = extended_low c.args.n c.args.width c.requires.width_from c.requires.width_to c.if-n-ones.true

pub returns-else-n-ones : goal.returns-else-n-ones
returns-else-n-ones c = extended_high c.args.n c.args.width c.requires.width_from c.requires.width_to c.requires.n_in c.if-n-ones.false
