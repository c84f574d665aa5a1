use Rattle.std.proofs.Common.{◌≡◌, ◌++◌, map}
use Rattle.case_match.specs.Openings.{ended_alone}
use Rattle.case_match.proofs.referee.endings.Given as goal

abbrev pub invariant-books : goal.invariant-books
invariant-books g l = record {
  all : l.yielded ++ l.book-iterator.rest.items ≡ l.fn.books.items;
  are : l.ends.items ≡ map (λ b. ended_alone g.J.Judge.ruling g.P.Provers.says b.opening) l.yielded;
}
