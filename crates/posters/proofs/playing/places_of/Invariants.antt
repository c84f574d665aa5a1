use Rattle.std.proofs.Common.{◌≡◌, ◌≤◌, ◌*◌, take, length}
use Rattle.board_book.specs.Tasks.{openings}
use Rattle.posters.specs.Serving.{places_from}
use Rattle.posters.proofs.playing.places_of.Given as goal

abbrev pub invariant-loop-i : goal.invariant-loop-i
invariant-loop-i g l = (l.places.items ≡ places_from 1 (take l.i (openings l.books.books))) × (length l.places.items ≤ 16 * l.i)
