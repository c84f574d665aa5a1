use Rattle.std.proofs.Common.{◌∙◌, [], ◌∷◌, ap, subst}
use Rattle.board_book.specs.Tasks.{task_of}
use Rattle.dispute_board.specs.OneHistory.{AsksOnBoard}
use Rattle.dispute_board.specs.OneTask.{of_one}
use Rattle.dispute_board.proofs.Single.{head_is, still_one, only_there, only_asks}
use Rattle.dispute_board.proofs.board.Board.ask.Goals as goal

pub ask-requires-clause-there : goal.ask-requires-clause-there
ask-requires-clause-there g c =
    let f = c.requires.few in
    only_there g.J.Judge.ruling g.P.Provers.says c.seat.inside.tasks f.0 c.args.p (head_is c.seat.inside.tasks f.0 c.seat.invariant (ap (λ k. k.head) c.seat.view_is ∙ f.1)) c.requires.some f.2

pub invariant_of-seat : goal.invariant_of-seat
invariant_of-seat g c = still_one c.seat.inside.tasks c.ask.new.seat c.ask.ensures.2.stands.same c.seat.invariant

pub returns : goal.returns
returns g c =
    let f = c.requires.few in let a = c.ask.ensures in (
      f.0,
      f.1,
      subst (λ k. AsksOnBoard (task_of g.J.Judge.ruling g.P.Provers.says f.0 ∷ []) k 1 c.args.p c.ask.result (of_one c.ask.new.seat)) c.seat.view_is
          (only_asks g.J.Judge.ruling g.P.Provers.says c.seat.inside.tasks c.ask.new.seat f.0 c.args.p c.ask.result (head_is c.seat.inside.tasks f.0 c.seat.invariant (ap (λ k. k.head) c.seat.view_is ∙ f.1)) a.0 a.1 a.2),
    )
