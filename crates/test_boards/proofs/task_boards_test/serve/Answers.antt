use Rattle.std.proofs.Common.{◌≡◌, ◌∙◌, ℕ, Option, ap}
use Rattle.rd_base.specs.declared.answer.Answer.{Answer}
use Rattle.bisect_game.specs.declared.settled.Question.{Question}
use Rattle.tournament.specs.Posting.{answer_of}
use Rattle.toy_game.specs.Toy.{says_of}
use Rattle.test_boards.specs.Casts.{cast_at}
use Rattle.test_boards.proofs.TaskLemmas.{there_of, may_of, still_there}
use Rattle.test_boards.proofs.task_boards_test.serve.Goals as goal

pub ask-requires-clause-there : goal.ask-requires-clause-there
ask-requires-clause-there g c = there_of c.args.board.now c.args.casts.0 c.args.casts.1 c.args.seat.now c.requires.seat c.args.t c.args.p c.requires.task.0 c.requires.task.1 c.requires.prover.0 c.requires.prover.1

pub post-posted-requires-clause-there : goal.post-posted-requires-clause-there
post-posted-requires-clause-there g c =
    there_of c.args.board.now c.args.casts.0 c.args.casts.1 c.ask.new.seat (still_there c.args.board.now c.args.casts.0 c.args.casts.1 c.args.seat.now c.requires.seat c.ask.new.seat c.ask.ensures.2.stands.same) c.args.t c.args.p c.requires.task.0 c.requires.task.1 c.requires.prover.0 c.requires.prover.1

pub post-posted-requires-clause-may : goal.post-posted-requires-clause-may
post-posted-requires-clause-may g c =
    let a = c.ask.ensures in let question = c.in-Question.question in let passes : ℕ = c.in-Question.passes in
    let m : answer_of c.move_of.result ≡ says_of (cast_at c.args.casts.0 c.args.casts.1 c.args.t).players c.args.p question passes = c.move_of.ensures ∙ c.in_ok-answer-in-Question.ensures.says ∙ ap (λ (f : Question → ℕ → Option Answer). f question passes) c.player_at-player.ensures in
    may_of c.args.board.now c.args.casts.0 c.args.casts.1 c.args.seat.now c.requires.seat c.what_is_said_may_be_posted.ensures c.args.t c.args.p c.requires.task.0 c.requires.task.1 question passes (answer_of c.move_of.result) _ c.ask.new.seat a.0 a.1 a.2 c.in-Question.is m
