-- To believe, for the law `served_matches_end`: how long a match lasts by a clock. A period is long enough for each prover that is asked
-- when it begins to post once, or for somebody to post a pass for it.
use Rattle.std.specs.Prelude.{◌≡◌, ℕ, ◌+◌, ◌-◌, ◌*◌, ◌<◌, ◌≤◌, true, List, [], ◌∷◌, length, Some}
use Rattle.bisect_game.specs.declared.settled.Question.{Question}
use Rattle.bisect_game.specs.Rules.{Rules, ArePlayable}
use Rattle.tournament.specs.Bracket.{open_question, is_complete}
use Rattle.tournament.specs.FewPosts.{effective_posts_of}
use Rattle.tournament.specs.Length.{IsMost}
use Rattle.tournament.specs.Moves.{MatchState, begun}
use Rattle.tournament.specs.Posting.{Post, after_posts}

-- the posts of a period, by anybody and with any contents: among them each prover that is asked when it begins has one that isn't stale, be it an answer
-- or a pass
pub record IsServed (rules : Rules) (st : MatchState) (xs : List Post) : Type 0 where
  pub each : (p : ℕ) (q : Question) → 0 < p → open_question rules st.record_ p ≡ Some q → 1 ≤ effective_posts_of rules p xs st

-- the state after periods, one after another
abbrev pub after_periods : Rules → List (List Post) → MatchState → MatchState
after_periods rules [] st = st
after_periods rules (xs ∷ periods) st = after_periods rules periods (after_posts rules xs st)

abbrev pub AllServed : Rules → List (List Post) → MatchState → Type 0
AllServed rules [] st = Unit {0}
AllServed rules (xs ∷ periods) st = IsServed rules st xs × AllServed rules periods (after_posts rules xs st)

-- after (P + 1) * (1 + (m - 1) * (k + 1)) such periods a match of m provers with the patience P is over, for a most number k of bisection rounds
abbrev pub PeriodsAreFew : Type 0
PeriodsAreFew =
    (rules : Rules) (periods : List (List Post)) (k : ℕ) → ArePlayable rules → IsMost rules.setup.fan rules.setup.bound k → AllServed rules periods (begun rules) →
    (rules.setup.patience + 1) * (1 + (rules.setup.provers - 1) * (k + 1)) ≤ length periods → is_complete (after_periods rules periods (begun rules)).record_ ≡ true
