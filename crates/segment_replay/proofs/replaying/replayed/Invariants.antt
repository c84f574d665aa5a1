use Rattle.std.proofs.Common.{◌≡◌, map, take}
use Rattle.segment_replay.specs.Roots.{root_at, digests}
use Rattle.segment_replay.specs.Cursor.{IsWorkerOf}
use Rattle.segment_replay.proofs.replaying.replayed.Given as goal

abbrev pub invariant-steps : goal.invariant-steps
invariant-steps g l = record {
  so_far : digests l.roots.items ≡ map (root_at g.D.Digester.digest_of l.replay.run.now) (take l.step-index l.steps);
  worker : IsWorkerOf g.D.Digester.digest_of l.replay.run.now l.worker;
}
