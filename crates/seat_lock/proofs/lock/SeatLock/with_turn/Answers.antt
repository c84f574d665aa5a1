use Rattle.std.proofs.Common.{◌∙◌, subst}
use Rattle.seat_lock.specs.Turned.{Turned}
use Rattle.seat_lock.specs.Views.{known_as}
use Rattle.seat_lock.proofs.Turns.{turned}
use Rattle.seat_lock.proofs.lock.SeatLock.with_turn.Goals as goal

pub returns : goal.returns
returns g c =
    let drawn = c.draw_ticket-ticket.ensures in let waited = c.wait_for_turn.ensures in let acted = c.act_in_turn.ensures in
    let d = acted.acted in let raw = c.seat.inside.raw in
    let ticket = c.draw_ticket-ticket.new.seat in let turn = c.wait_for_turn.new.seat in let after = c.act_in_turn.new.seat in
    let head = g.T.Logged.head in let log = g.T.Logged.log in (
      d.0,
      d.1,
      d.3,
      subst (λ k. Turned {T = g.row.T.Denot} head log k d.0 d.1 (known_as after.table_id after.id after.me.0)) c.seat.view_is
          (turned head log raw.table_id after.table_id raw.id after.id (acted.same.0 ∙ waited.same.0 ∙ drawn.same.0) (acted.same.1 ∙ waited.same.1 ∙ drawn.same.1)
          raw.me ticket.me turn.me after.me c.draw_ticket-ticket.result drawn.drawn waited.begins d.0 d.1 d.2 d.4 d.5 acted.none_twice),
    )
