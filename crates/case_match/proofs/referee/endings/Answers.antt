use Rattle.std.proofs.Common.{◌≡◌, ◌∙◌, map, arith}
use Rattle.std.proofs.lemmas.Grind.{common_steps}
use Rattle.board_book.specs.Tasks.{BookOf}
use Rattle.case_match.specs.Openings.{ended_alone}
use Rattle.case_match.proofs.TaskLemmas.{map_twice}
use Rattle.case_match.proofs.referee.endings.Goals as goal

pub returns : goal.returns
returns g c =
    let end = λ (b : BookOf g.row.J-Names.Denot g.row.P-Names.Denot). ended_alone g.J.Judge.ruling g.P.Provers.says b.opening in
    let are : c.books.ends.items ≡ map end c.args.books.items = grind (arith, common_steps) in
    are ∙ map_twice (ended_alone g.J.Judge.ruling g.P.Provers.says) (λ (b : BookOf g.row.J-Names.Denot g.row.P-Names.Denot). b.opening) c.args.books.items
