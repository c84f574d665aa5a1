use Rattle.std.proofs.Common.{rules}
use Rattle.seat_lock.proofs.DrawKeeps.{draws}
use Rattle.seat_lock.proofs.lock.draw_ticket.Goals as goal

pub fetch_add-requires : goal.fetch_add-requires
fetch_add-requires g c = let rest = c.requires.rest in
    (c.requires.lock.0, search rules, draws g.T.Logged.head g.T.Logged.log _ _ _ rest.headed.0 rest.no_ticket rest.headed.1)
