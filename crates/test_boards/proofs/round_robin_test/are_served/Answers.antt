use Rattle.std.proofs.Common.{length, sym}
use Rattle.std.specs.List.{range_with_len}
use Rattle.std.proofs.lemmas.List.FromFn.{length-range_with_len}
use Rattle.test_boards.proofs.ForTests.{map_unit}
use Rattle.test_boards.proofs.round_robin_test.are_served.Goals as goal

pub serve_all-requires-clause-ready : goal.serve_all-requires-clause-ready
serve_all-requires-clause-ready g c κs within = let items = c.as_mut_slice-2.result.now in
    ((λ n. tt), (λ k d below. tt), map_unit items (range_with_len 0 (length items)) (sym (length-range_with_len 0 (length items))))
