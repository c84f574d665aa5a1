use Rattle.std.proofs.Common.{◌∙◌, ◌||◌, ap₂, refl, rules}
use Rattle.std.proofs.lemmas.Result.{IfOk-weaker}
use Rattle.clap.specs.Simple.{with_rule}
use Rattle.command_line.proofs.parser.with_match_options.Goals as goal

pub returns-clause-app : goal.returns-clause-app
returns-clause-app c =
    IfOk-weaker c.arg-3.result _ _
    (λ parser adds. adds.shape c.number_option-every.ensures.own ∙ ap₂ with_rule
    (c.in_ok-arg-2.ensures.shape c.number_option-posters.ensures.own ∙ ap₂ with_rule
    (c.in_ok-arg.ensures.shape c.number_option-workers.ensures.own ∙ ap₂ with_rule refl (c.number_option-workers.ensures.rule 64 (search rules)))
    (c.number_option-posters.ensures.rule 16 (search rules))) (c.number_option-every.ensures.rule 65536 (search rules)))
    c.arg-3.ensures

pub returns-clause-local : goal.returns-clause-local
returns-clause-local c =
    IfOk-weaker c.arg-3.result _ _
    (λ parser adds none. adds.globals ∙ ap₂ (λ a b. a || b)
    (c.in_ok-arg-2.ensures.globals ∙ ap₂ (λ a b. a || b)
    (c.in_ok-arg.ensures.globals ∙ ap₂ (λ a b. a || b) none c.number_option-workers.ensures.own)
    c.number_option-posters.ensures.own) c.number_option-every.ensures.own)
    c.arg-3.ensures
