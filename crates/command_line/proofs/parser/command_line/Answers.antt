use Rattle.std.proofs.Common.{◌≡◌, ◌∙◌, ap, ap₂, codes}
use Rattle.std.proofs.lemmas.Result.{IfOk-weaker}
use Rattle.clap.specs.Simple.{App, Shape, app_of, app_of_fields, new_app, on_top, with_subcommand}
use Rattle.command_line.specs.Words.{command_line, with_required_subcommand}
use Rattle.command_line.proofs.parser.command_line.Goals as goal

top_of : App → Shape
top_of a = a.top

pub returns : goal.returns
unfolding command_line top_of
returns c =
    let top : app_of c.subcommand_required.result ≡ on_top with_required_subcommand (new_app (codes "refcli")) =
    ap app_of_fields c.subcommand_required.ensures ∙ ap (on_top with_required_subcommand) c.new.ensures.app in
    IfOk-weaker c.subcommand-6.result _ _
    (λ parser adds. adds.shape c.in_ok-big.ensures.local ∙ ap₂ with_subcommand
    (c.in_ok-subcommand-5.ensures.shape c.new-list.ensures.local ∙ ap₂ with_subcommand
    (c.in_ok-subcommand-4.ensures.shape c.new-audit.ensures.local ∙ ap₂ with_subcommand
    (c.in_ok-subcommand-3.ensures.shape c.new-roots.ensures.local ∙ ap₂ with_subcommand
    (c.in_ok-subcommand-2.ensures.shape c.new-run.ensures.local ∙ ap₂ with_subcommand
    (c.in_ok-subcommand.ensures.shape c.in_ok-judge.ensures.local ∙ ap₂ with_subcommand top (ap top_of c.in_ok-judge.ensures.app))
    (ap top_of c.new-run.ensures.app)) (ap top_of c.new-roots.ensures.app)) (ap top_of c.new-audit.ensures.app)) (ap top_of c.new-list.ensures.app)) (ap top_of c.in_ok-big.ensures.app))
    c.subcommand-6.ensures
