use Rattle.std.proofs.Common.{◌≡◌, IfOk, map, subst}
use Rattle.segment_replay.specs.Roots.{root_at, digests}
use Rattle.segment_replay.proofs.kept_run.KeptRun.roots.Goals as goal

pub returns-clause-roots : goal.returns-clause-roots
returns-clause-roots g c = subst (λ r. IfOk c.roots_by.result (λ v. digests v.items ≡ map (root_at g.D.Digester.digest_of r) c.args.steps.now)) c.self.view_is c.roots_by.ensures.roots
