use Rattle.test_boards.proofs.provers_test.accepted_prover.Goals as goal

pub ended_tasks-requires-clause-fresh : goal.ended_tasks-requires-clause-fresh
ended_tasks-requires-clause-fresh g c κs within = c.in_ok-loads.ensures.fresh _
