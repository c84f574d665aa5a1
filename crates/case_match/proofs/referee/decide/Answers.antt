use Rattle.std.proofs.Common.{◌∙◌, map, ap}
use Rattle.std.proofs.lemmas.Result.{IfOk-weaker}
use Rattle.board_book.specs.Tasks.{openings}
use Rattle.case_match.specs.Openings.{ended_alone}
use Rattle.case_match.proofs.referee.decide.Goals as goal

pub returns : goal.returns
returns g c =
    IfOk-weaker c.endings.result _ _
    (λ ends e. e ∙ ap (map (ended_alone g.J.Judge.ruling g.P.Provers.says)) (ap openings c.into_list.ensures ∙ (c.in_ok-played.ensures.openings ∙ ap (λ bs. openings bs.books) c.in_ok-books.ensures)))
    c.endings.ensures
