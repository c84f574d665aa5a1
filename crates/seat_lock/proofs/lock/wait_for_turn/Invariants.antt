use Rattle.std.proofs.Common.{◌≡◌}
use Rattle.seat_lock.specs.Views.{StillWaits}
use Rattle.seat_lock.proofs.lock.wait_for_turn.Given as goal

abbrev pub invariant-loop : goal.invariant-loop
invariant-loop g l = (l.seat.table_id ≡ l.initial.seat.table_id) × (l.seat.id ≡ l.initial.seat.id) × StillWaits l.fn.ticket l.initial.seat.me l.seat.me
