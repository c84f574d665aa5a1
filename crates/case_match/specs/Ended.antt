-- To believe. The record of a case is that of a match that is over, whatever its provers say.
use Rattle.std.specs.Prelude.{◌≡◌, List, true}
use Rattle.bisect_game.specs.Rules.{Rules, ArePlayable}
use Rattle.bisect_game.specs.Says.{Says}
use Rattle.tournament.specs.Bracket.{Record, bracket, is_complete}
use Rattle.tournament.specs.Journals.{answers_of}
use Rattle.tournament.specs.Posting.{Post, record_after}

-- some posts come to this record, in which each claim is settled and each dispute has closed
pub record IsOfEndedMatch (rules : Rules) (r : Record) : Type 0 where
  pub posts : List Post
  pub comes : record_after rules posts ≡ r
  pub complete : is_complete r ≡ true

abbrev pub RecordsOfCasesHaveEnded : Type 0
RecordsOfCasesHaveEnded = (rules : Rules) (says : Says) → ArePlayable rules → IsOfEndedMatch rules (bracket rules (answers_of rules says))
