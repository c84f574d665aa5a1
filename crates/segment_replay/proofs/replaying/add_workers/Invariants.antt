use Rattle.std.proofs.Common.{◌-◌, All, vec_len}
use Rattle.segment_replay.specs.Cursor.{IsWorkerOf}
use Rattle.segment_replay.proofs.replaying.add_workers.Given as goal

abbrev pub invariant-workers : goal.invariant-workers
invariant-workers g l = All (λ w. IsWorkerOf g.D.Digester.digest_of l.replay.run.now w) l.workers.items

abbrev pub decreases-workers : goal.decreases-workers
decreases-workers g l = l.count - vec_len l.workers
