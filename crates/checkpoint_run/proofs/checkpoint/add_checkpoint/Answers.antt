use Rattle.std.proofs.Common.{◌∙◌, refl}
use Rattle.checkpoint_run.proofs.VersionLemmas.{pictured_memory}
use Rattle.checkpoint_run.proofs.checkpoint.add_checkpoint.Goals as goal

pub returns-clause-added : goal.returns-clause-added
returns-clause-added c = record {
  checkpoint = _;
  pushed = c.in_ok-push.ensures.items;
  step_is = refl;
  regs_are = refl;
  ctl_is = refl;
  versions_are = c.len.ensures ∙ c.add_versions.new.versions.ok.0;
  memory_is = pictured_memory c.add_versions.new.versions.items c.args.machine.now.mem c.contents_of_a_function.ensures.alike c.is_memory.ensures c.in_ok-add_versions.ensures.shown;
}
