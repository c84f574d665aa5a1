use Rattle.toy_game.specs.declared.cast.Cast.{Cast}
use Rattle.toy_game.specs.Toy.{says_of}
use Rattle.test_boards.proofs.CastLemmas.{count_at, said_next}
use Rattle.test_boards.proofs.casts.seats_of.Goals as goal

pub add_seats-requires : goal.add_seats-requires
add_seats-requires c = record { few = (count_at c.args.casts.now c.loop-cast.cast-index _ c.requires.counts c.loop-cast-test.true).1 }

pub loop-cast-preserved : goal.loop-cast-preserved
loop-cast-preserved c = said_next (λ (x : Cast). says_of x.players) c.args.casts.now c.loop-cast.cast-index _ _ _ c.loop-cast-test.true c.loop-cast.invariant c.in_ok-add_seats.ensures
