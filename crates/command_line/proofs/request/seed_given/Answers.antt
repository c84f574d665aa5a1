use Rattle.std.specs.Prelude.{codes}
use Rattle.std.specs.Str.Parse.{ParsesUnsigned, ExplainsUnsignedError, HasUnsignedDigitsIfOk}
use Rattle.clap.specs.Matches.{found_of}
use Rattle.clap.proofs.WalkLemmas.{one_text-rows}
use Rattle.command_line.proofs.WordsLemmas.{seed-of-getter}
use Rattle.command_line.proofs.request.seed_given.Goals as goal

pub returns : goal.returns
returns c =
    seed-of-getter {gives = λ bs r. ParsesUnsigned 32 10 bs r × ExplainsUnsignedError 10 bs r × HasUnsignedDigitsIfOk bs r} _ _ c.get_one.result (λ bs r g. g.0) (one_text-rows (found_of c.args.given.now) (codes "N"))
    c.get_one.ensures.none c.get_one.ensures.value
