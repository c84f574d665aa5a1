use Rattle.std.proofs.Common.{length}
use Rattle.posters.proofs.round_robin.+fn-serve_classes-join_mut+arg2+fn-serve_classes-join_mut+arg3+serve_classes.Given as goal

abbrev pub decreases-join_mut+arg2 : goal.decreases-join_mut+arg2
decreases-join_mut+arg2 g l = length l.left.now

abbrev pub decreases-join_mut+arg3 : goal.decreases-join_mut+arg3
decreases-join_mut+arg3 g l = length l.right.now

abbrev pub decreases-serve_classes : goal.decreases-serve_classes
decreases-serve_classes g l = length l.servers.now
