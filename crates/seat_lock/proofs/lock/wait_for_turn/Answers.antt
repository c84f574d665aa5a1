use Rattle.seat_lock.proofs.Turns.{begins_later}
use Rattle.seat_lock.proofs.lock.wait_for_turn.Goals as goal

pub returns-then-look_for_turn-clause-begins : goal.returns-then-look_for_turn-clause-begins
returns-then-look_for_turn-clause-begins g c = begins_later g.T.Logged.head g.T.Logged.log c.args.ticket c.args.seat.now.me c.loop.seat.me c.look_for_turn.new.seat.me c.loop.invariant.2 c.if-look_for_turn.ensures.begins
