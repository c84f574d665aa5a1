use Rattle.seat_lock.proofs.Opens.{opens}
use Rattle.seat_lock.proofs.lock.SeatLock.new.Goals as goal

pub new-requires : goal.new-requires
new-requires g c = rw (c.push_reserved.ensures.items, c.in_ok-slots.ensures.items, c.of-about.ensures) (opens g.T.Logged.head g.T.Logged.log c.args.value)
