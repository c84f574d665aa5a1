-- To believe. How a match may be played.
use Rattle.std.specs.Prelude.{◌<◌}
use Rattle.case_match.specs.declared.options.Options.{Options}

-- each option is at least 1
pub record AreAtLeastOne (options : Options) : Type 0 where
  pub workers : 0 < options.workers
  pub posters : 0 < options.posters
  pub every : 0 < options.every
