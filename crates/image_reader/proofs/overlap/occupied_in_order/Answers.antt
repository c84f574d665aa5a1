use Rattle.std.proofs.Common.{rules}
use Rattle.std.proofs.lemmas.List.Sorted.{IsNonDecreasingBy-from_sort_by_key}
use Rattle.image_reader.proofs.OverlapLemmas.{share-in_order, filled-in_order}
use Rattle.image_reader.proofs.overlap.occupied_in_order.Goals as goal

pub returns-clause-filled : goal.returns-clause-filled
returns-clause-filled c = filled-in_order c.args.loads.now _ (rw c.in_ok-segments.ensures at c.in_ok-sort_by_key.ensures.permutation)

pub returns-clause-rising : goal.returns-clause-rising
returns-clause-rising c = IsNonDecreasingBy-from_sort_by_key (λ load. load.p_vaddr) _ c.in_ok-sort_by_key.ensures.sorted (λ a r q k. search rules)

pub returns-clause-same : goal.returns-clause-same
returns-clause-same c = share-in_order c.args.loads.now _ (rw c.in_ok-segments.ensures at c.in_ok-sort_by_key.ensures.permutation)
