use Rattle.std.proofs.Common.{◌-◌, ltb, arith, rules}
use Rattle.std.proofs.lemmas.Bool.{ltb-true, ltb-false}
use Rattle.std.proofs.lemmas.List.Sorted.{IsPartitionPoint-from_clause}
use Rattle.checkpoint_run.proofs.IndexLemmas.{none_below, last_below, parted}
use Rattle.checkpoint_run.proofs.checkpoint.last_below.Goals as goal

pub returns-then-below-eq0-clause-none : goal.returns-then-below-eq0-clause-none
returns-then-below-eq0-clause-none c pages n page are within =
    let places = c.args.places.now in
    let count = c.args.count in
    let point = IsPartitionPoint-from_clause (λ p. ltb p count) places _ c.partition_point-below.ensures.partitioned (parted places count are.ascend) (λ a r q k. search rules) in
    none_below pages n page count places are within c.partition_point-below.result
    (λ k low. ltb-true _ _ (point.0 k 0 (omega arith) low)) (λ k from low. ltb-false _ _ (point.1 k 0 from low)) c.if-below-eq0.true

pub returns-clause-below : goal.returns-clause-below
returns-clause-below c ascend =
    let places = c.args.places.now in
    let count = c.args.count in
    let point = IsPartitionPoint-from_clause (λ p. ltb p count) places _ c.partition_point-below.ensures.partitioned (parted places count ascend) (λ a r q k. search rules) in
    let some = c.if-below-eq0.false in
    ltb-true _ _ (point.0 (c.partition_point-below.result - 1) 0 (omega arith) (omega arith))

pub returns-clause-some : goal.returns-clause-some
returns-clause-some c pages n page are within =
    let places = c.args.places.now in
    let count = c.args.count in
    let point = IsPartitionPoint-from_clause (λ p. ltb p count) places _ c.partition_point-below.ensures.partitioned (parted places count are.ascend) (λ a r q k. search rules) in
    let some = c.if-below-eq0.false in
    last_below pages n page count places are within c.partition_point-below.result
    (λ k low. ltb-true _ _ (point.0 k 0 (omega arith) low)) (λ k from low. ltb-false _ _ (point.1 k 0 from low)) (omega arith) c.partition_point-below.ensures.bound
