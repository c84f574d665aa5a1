use Rattle.std.proofs.Common.{◌∙◌, ap, cond, codes}
use Rattle.std.specs.Str.Parse.{ParsesBool}
use Rattle.clap.specs.Matches.{found_of}
use Rattle.clap.proofs.WalkLemmas.{one_text-rows}
use Rattle.command_line.specs.declared.request.MatchText.TheVariants.{Report, Full}
use Rattle.command_line.proofs.WordsLemmas.{text-of-getter}
use Rattle.command_line.proofs.request.text_given.Goals as goal

pub returns : goal.returns
returns c =
    c.text_where.ensures ∙ (ap (λ full. cond full Full Report) c.unwrap_or.ensures
    ∙ text-of-getter {gives = ParsesBool} _ _ c.get_one.result (λ bs r g. g) (one_text-rows (found_of c.args.given.now) (codes "full")) c.get_one.ensures.none c.get_one.ensures.value)
