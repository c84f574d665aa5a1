use Rattle.std.proofs.Common.{◌∙◌}
use Rattle.posters.proofs.Seats.{seat_again}
use Rattle.posters.proofs.serving.Hall.serve_until_over.Goals as goal

pub serve_until_post-requires-clause-seat : goal.serve_until_post-requires-clause-seat
serve_until_post-requires-clause-seat g c κs within = let r = c.requires.seat in let v = c.loop.invariant in
    record { heads = r.heads; seat = seat_again c.args.self.now.board r.heads c.args.seat.now c.loop.seat v.0 r.seat; placed = r.placed; said_all = v.1 ∙ r.said_all }
