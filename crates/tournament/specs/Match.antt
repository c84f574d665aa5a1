-- To believe: what contracts see of a match: who judges it, the numbers by which it is played, and its state.
use Rattle.bisect_game.specs.Setup.{Setup}
use Rattle.bisect_game.specs.Ruling.{Ruling}
use Rattle.bisect_game.specs.Rules.{Rules, rules_of}
use Rattle.tournament.specs.Moves.{MatchState}

-- a match before a judge with these names
pub record MatchOf (N : Type 0) : Type 0 where
  pub judge : N
  pub setup : Setup
  pub game : MatchState

-- what it is played by, if the names of judges fix what these decide
abbrev pub rules_in : {N : Type 0} → (N → Ruling) → MatchOf N → Rules
rules_in ruling m = rules_of (ruling m.judge) m.setup
