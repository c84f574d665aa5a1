use Rattle.std.proofs.Common.{◌≡◌, ◌∙◌, refl, arith, ◌+◌, ◌-◌}
use Rattle.board_book.proofs.BookLemmas.{answers_at, answers_set, prefix_more, set_length}
use Rattle.board_book.proofs.book.Book.finish_alone.Goals as goal

pub serve-requires-clause-says : goal.serve-requires-clause-says
serve-requires-clause-says g c = λ lives within.
    let f = c.in-Some.ensures.found in
    let e : 1 + (c.in-Some.asked.p - 1) ≡ c.in-Some.asked.p = omega (arith, f.0) in
    rw e at (answers_at g.A.Answerer.answers (g.P.Provers.says c.loop.self.opening.provers) 1 (c.in-Some.asked.p - 1) c.loop.answerers c.index-answerers-asked.result c.loop.invariant.keeps (omega (arith, f.0, f.1, c.loop.invariant.count)))

pub returns-in_err-serve-clause-keeps : goal.returns-in_err-serve-clause-keeps
returns-in_err-serve-clause-keeps g c =
    let f = c.in-Some.ensures.found in
    let here = answers_at g.A.Answerer.answers (g.P.Provers.says c.loop.self.opening.provers) 1 (c.in-Some.asked.p - 1) c.loop.answerers c.index-answerers-asked.result c.loop.invariant.keeps (omega (arith, f.0, f.1, c.loop.invariant.count)) in
    rw (← c.loop.invariant.opening) (answers_set g.A.Answerer.answers (g.P.Provers.says c.loop.self.opening.provers) 1 (c.in-Some.asked.p - 1) c.loop.answerers c.serve.new.answerer c.loop.invariant.keeps (c.serve.ensures.keeps ∙ here))

pub loop-preserved : goal.loop-preserved
loop-preserved g c =
    let f = c.in-Some.ensures.found in
    let here = answers_at g.A.Answerer.answers (g.P.Provers.says c.loop.self.opening.provers) 1 (c.in-Some.asked.p - 1) c.loop.answerers c.index-answerers-asked.result c.loop.invariant.keeps (omega (arith, f.0, f.1, c.loop.invariant.count)) in
    let longer = c.in_ok-serve.ensures.longer in
    let p = c.loop.invariant.prefix in
    record {
      opening = c.serve.ensures.opening ∙ c.loop.invariant.opening;
      count = set_length c.loop.answerers (c.in-Some.asked.p - 1) c.serve.new.answerer ∙ (c.loop.invariant.count ∙ rw c.serve.ensures.opening refl);
      keeps = rw c.serve.ensures.opening (answers_set g.A.Answerer.answers (g.P.Provers.says c.loop.self.opening.provers) 1 (c.in-Some.asked.p - 1) c.loop.answerers c.serve.new.answerer c.loop.invariant.keeps (c.serve.ensures.keeps ∙ here));
      prefix = prefix_more _ _ _ p.0 longer.0 c.loop.counter p.1 p.2 longer.1;
    }
