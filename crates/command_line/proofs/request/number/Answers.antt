use Rattle.std.specs.Str.Parse.{ParsesUnsigned, ExplainsUnsignedError, HasUnsignedDigitsIfOk}
use Rattle.clap.specs.Matches.{found_of}
use Rattle.clap.proofs.WalkLemmas.{one_text-rows}
use Rattle.command_line.proofs.WordsLemmas.{some-number, no-number}
use Rattle.command_line.proofs.request.number.Goals as goal

pub returns-in-Some-clause-value : goal.returns-in-Some-clause-value
returns-in-Some-clause-value c =
    some-number {gives = λ bs r. ParsesUnsigned 32 10 bs r × ExplainsUnsignedError 10 bs r × HasUnsignedDigitsIfOk bs r} _ _ c.args.default c.in-Some.number c.max.result (λ bs r g. g.0) (one_text-rows (found_of c.args.given.now) c.args.name.now)
    c.in-Some.ensures.none c.in-Some.ensures.value (c.max.ensures)

pub returns-in-None-clause-value : goal.returns-in-None-clause-value
returns-in-None-clause-value c =
    no-number {gives = λ bs r. ParsesUnsigned 32 10 bs r × ExplainsUnsignedError 10 bs r × HasUnsignedDigitsIfOk bs r} _ _ c.args.default (λ bs r g. g.0) (one_text-rows (found_of c.args.given.now) c.args.name.now) c.in-None.ensures.value
