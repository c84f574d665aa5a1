use Rattle.std.proofs.Common.{◌∙◌, ap, sym, codes}
use Rattle.std.specs.Prelude.{option_map, option_and_then}
use Rattle.clap.specs.Matches.{found_of}
use Rattle.clap.proofs.WalkLemmas.{first_value-rows}
use Rattle.digest_core.specs.Name.{digest_named}
use Rattle.command_line.proofs.request.digest_given.Goals as goal

pub returns-in_err-get_str : goal.returns-in_err-get_str
returns-in_err-get_str c =
    c.from_residual.ensures
    ∙ ap (option_and_then digest_named) (sym (ap (option_map (λ s. s.now)) c.in_err-get_str.was) ∙ (c.get_str.ensures ∙ first_value-rows (found_of c.args.given.now) (codes "digest")))

pub returns : goal.returns
returns c =
    c.named.ensures
    ∙ ap (option_and_then digest_named) (sym (ap (option_map (λ s. s.now)) c.in_ok-get_str.was) ∙ (c.get_str.ensures ∙ first_value-rows (found_of c.args.given.now) (codes "digest")))
