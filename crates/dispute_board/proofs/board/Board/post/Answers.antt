use Rattle.std.proofs.Common.{◌∙◌, [], ◌∷◌, ap, subst}
use Rattle.tournament.specs.Posting.{answer_of}
use Rattle.board_book.specs.Tasks.{task_of}
use Rattle.dispute_board.specs.OneHistory.{PostsOnBoard}
use Rattle.dispute_board.specs.OneTask.{of_one}
use Rattle.dispute_board.proofs.Single.{head_is, still_one, only_there, only_may, only_posts}
use Rattle.dispute_board.proofs.board.Board.post.Goals as goal

pub post-requires-clause-there : goal.post-requires-clause-there
post-requires-clause-there g c =
    let f = c.requires.few in
    only_there g.J.Judge.ruling g.P.Provers.says c.seat.inside.tasks f.0 c.args.p (head_is c.seat.inside.tasks f.0 c.seat.invariant (ap (λ k. k.head) c.seat.view_is ∙ f.1)) c.requires.some f.2

pub post-requires-clause-may : goal.post-requires-clause-may
post-requires-clause-may g c =
    let f = c.requires.few in
    only_may g.J.Judge.ruling g.P.Provers.says c.seat.inside.tasks f.0 c.args.p c.args.qid (answer_of c.args.turn) (head_is c.seat.inside.tasks f.0 c.seat.invariant (ap (λ k. k.head) c.seat.view_is ∙ f.1)) (c.requires.may f.0 f.1)

pub invariant_of-seat : goal.invariant_of-seat
invariant_of-seat g c = still_one c.seat.inside.tasks c.post.new.seat c.post.ensures.2.stands.same c.seat.invariant

pub returns : goal.returns
returns g c =
    let f = c.requires.few in let a = c.post.ensures in (
      f.0,
      f.1,
      subst (λ k. PostsOnBoard (task_of g.J.Judge.ruling g.P.Provers.says f.0 ∷ []) k 1 c.args.p c.args.qid (answer_of c.args.turn) c.post.result (of_one c.post.new.seat)) c.seat.view_is
          (only_posts g.J.Judge.ruling g.P.Provers.says c.seat.inside.tasks c.post.new.seat f.0 c.args.p c.args.qid (answer_of c.args.turn) c.post.result (head_is c.seat.inside.tasks f.0 c.seat.invariant (ap (λ k. k.head) c.seat.view_is ∙ f.1)) a.0 a.1 a.2),
    )
