use Rattle.std.proofs.Common.{ap}
use Rattle.test_boards.proofs.ProverLemmas.{said_by_provers}
use Rattle.test_boards.proofs.provers_test.opened.Goals as goal

pub returns-clause-says : goal.returns-clause-says
returns-clause-says g c =
    said_by_provers _ g.D.Digester.digest_of c.new-start.result _ 8 _ c.in_ok-provers.provers _ _ c.in_ok-answerers.ensures.answers c.new-start.ensures c.in_ok-provers.ensures (ap (λ b. b.opening.provers) c.in_ok-book.ensures)
