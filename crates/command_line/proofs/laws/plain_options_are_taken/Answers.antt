use Rattle.std.proofs.Common.{Some, None, ◌∙◌, ap, cond}
use Rattle.std.specs.Prelude.{if◌then◌else◌}
use Rattle.command_line.specs.Options.{judge_of}
use Rattle.command_line.proofs.PlainLemmas.{all-of-judge, plain-taken}
use Rattle.command_line.proofs.laws.plain_options_are_taken.Goals as goal

pub returns : goal.returns
returns c = λ program given plain.
    c.options_are_taken.ensures.judge program given (all-of-judge given plain.each) ∙ ap (λ b. if b then Some (judge_of given) else None) (plain-taken given plain)
