use Rattle.std.proofs.Common.{◌<◌, ◌≤◌, ◌∙◌, ℕ, sym, ap, subst}
use Rattle.board_book.specs.Tasks.{openings}
use Rattle.test_boards.specs.Casts.{book_of}
use Rattle.test_boards.proofs.CastLemmas.{count_at, map_more, long_as, empty_books, opened_books}
use Rattle.test_boards.proofs.casts.books_of.Goals as goal

pub book_of-requires-clause-some : goal.book_of-requires-clause-some
book_of-requires-clause-some c = (count_at c.args.casts.now c.loop-cast.cast-index _ c.requires.counts c.loop-cast-test.true).0

pub book_of-requires-clause-few : goal.book_of-requires-clause-few
book_of-requires-clause-few c = (count_at c.args.casts.now c.loop-cast.cast-index _ c.requires.counts c.loop-cast-test.true).1

pub loop-cast-preserved : goal.loop-cast-preserved
loop-cast-preserved c = map_more book_of c.args.casts.now c.loop-cast.cast-index _ c.loop-cast.list.items c.push.new.self.items _ c.loop-cast-test.true c.loop-cast.invariant c.in_ok-push.ensures.items c.in_ok-book_of.ensures

pub open-requires-clause-some : goal.open-requires-clause-some
open-requires-clause-some c = subst (λ (n : ℕ). 0 < n) (sym (long_as c.args.casts.now c.loop-cast.cast-index c.loop-cast.list.items c.loop-cast-test.false c.loop-cast.invariant)) c.requires.some

pub open-requires-clause-few : goal.open-requires-clause-few
open-requires-clause-few c = subst (λ (n : ℕ). n ≤ 8) (sym (long_as c.args.casts.now c.loop-cast.cast-index c.loop-cast.list.items c.loop-cast-test.false c.loop-cast.invariant)) c.requires.few

pub open-requires-clause-empty : goal.open-requires-clause-empty
open-requires-clause-empty c = empty_books c.args.casts.now c.loop-cast.cast-index c.loop-cast.list.items c.loop-cast-test.false c.loop-cast.invariant

pub returns : goal.returns
returns c = ap (λ bs. openings bs.books) c.in_ok-books.ensures ∙ opened_books c.args.casts.now c.loop-cast.cast-index c.loop-cast.list.items c.loop-cast-test.false c.loop-cast.invariant
