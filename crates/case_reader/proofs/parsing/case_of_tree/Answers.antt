use Rattle.case_reader.proofs.parsing.case_of_tree.Goals as goal

pub invariant_of-result-clause-bound_is_positive : goal.invariant_of-result-clause-bound_is_positive
invariant_of-result-clause-bound_is_positive c = c.in_ok-bound.ensures.from
