use Rattle.std.proofs.Common.{◌≡◌, IfSome, map, sym, subst, arith}
use Rattle.std.specs.Fork.{slice_chunk}
use Rattle.segment_replay.specs.Roots.{root_at, digests}
use Rattle.segment_replay.specs.Cursor.{IsWorkerOf}
use Rattle.segment_replay.proofs.PieceLemmas.{of_each}
use Rattle.segment_replay.proofs.replaying.replay_pieces.Goals as goal

pub for_each_mut-requires-clause-accepts : goal.for_each_mut-requires-clause-accepts
for_each_mut-requires-clause-accepts g c κs within i p below is =
    (subst (IsWorkerOf g.D.Digester.digest_of c.args.replay.now.run.now) (sym is) (c.requires.workers i p.now below), search)

pub returns-clause-workers : goal.returns-clause-workers
returns-clause-workers g c k d below =
    let e = (c.for_each_mut.ensures k d (omega arith)).1 in
    subst (IsWorkerOf g.D.Digester.digest_of c.args.replay.now.run.now) e.left e.call.0

pub returns-clause-made : goal.returns-clause-made
returns-clause-made g c =
    of_each (λ w. w.made) (λ n r. IfSome r (λ v. digests v.items ≡ slice_chunk (map (root_at g.D.Digester.digest_of c.args.replay.now.run.now) c.args.steps.now) c.args.size n)) c.for_each_mut.new.s
    (λ n w below. let e = (c.for_each_mut.ensures n w (omega arith)).1 in
    subst (λ w. IfSome w.made (λ v. digests v.items ≡ slice_chunk (map (root_at g.D.Digester.digest_of c.args.replay.now.run.now) c.args.steps.now) c.args.size n)) e.left e.call.1)
