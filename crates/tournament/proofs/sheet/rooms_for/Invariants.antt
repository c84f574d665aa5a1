use Rattle.std.proofs.Common.{◌≡◌, vec_len}
use Rattle.tournament.specs.Keeping.{AllRooms}
use Rattle.tournament.proofs.sheet.rooms_for.Given as goal

abbrev pub invariant-loop : goal.invariant-loop
invariant-loop l = (vec_len l.rooms ≡ l.counter) × AllRooms l.setup l.rooms.items
