use Rattle.bisect_game.proofs.DisputeLemmas.{order_of_sides_is_free}
use Rattle.bisect_game.proofs.laws.sides_settle_in_any_order.Goals as goal

pub returns : goal.returns
returns c = order_of_sides_is_free
