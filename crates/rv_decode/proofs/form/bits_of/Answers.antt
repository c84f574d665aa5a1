use Rattle.rv_decode.proofs.Numbers.{masked}
use Rattle.rv_decode.proofs.form.bits_of.Goals as goal

pub returns : goal.returns
returns c = masked c.args.word c.args.high c.args.low c.requires.low_in c.requires.not_all
