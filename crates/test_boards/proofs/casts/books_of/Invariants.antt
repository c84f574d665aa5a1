use Rattle.std.proofs.Common.{◌≡◌, map, take}
use Rattle.test_boards.specs.Casts.{book_of}
use Rattle.test_boards.proofs.casts.books_of.Given as goal

abbrev pub invariant-loop-cast : goal.invariant-loop-cast
invariant-loop-cast l = l.list.items ≡ map book_of (take l.cast-index l.casts)
