use Rattle.std.proofs.Common.{sym, ◌∙◌}
use Rattle.checkpoint_run.proofs.EndedLemmas.{end_near}
use Rattle.checkpoint_run.proofs.recording.skip_to_tamper.Goals as goal

pub skip_stretch-requires-clause-ended : goal.skip_stretch-requires-clause-ended
skip_stretch-requires-clause-ended g c = (c.requires.ended.0, c.args.bound, c.requires.ended.1, sym c.tamper_to_come.ensures.step ∙ c.in-Some.is)

pub returns-in-None : goal.returns-in-None
returns-in-None g c first ended = end_near g.D.Digester.digest_of c.args.tamper.now first c.args.every c.args.bound c.args.recording.now c.requires.every ended (sym c.tamper_to_come.ensures.step ∙ c.in-None.is)
