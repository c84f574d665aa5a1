use Rattle.test_boards.specs.declared.casts.Forgetful.{Forgetful}
use Rattle.toy_game.specs.Toy.{answers, says_of}
use Rattle.test_boards.proofs.CastLemmas.{seats_more, player_said}
use Rattle.test_boards.proofs.casts.add_seats.Goals as goal

pub loop-i-preserved : goal.loop-i-preserved
loop-i-preserved c =
    seats_more (λ (s : Forgetful). answers s.player) (says_of c.args.cast.now.players) c.args.seats.now.items c.loop-i.seats.items c.push.new.self.items _ c.loop-i.i c.loop-i.invariant c.in_ok-push.ensures.items
    (player_said c.args.cast.now.players c.loop-i.i)
