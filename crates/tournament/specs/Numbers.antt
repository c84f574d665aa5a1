-- To believe: the numbers in the record of a match. Whatever was posted, it has a claim of each prover, and its disputes
-- are between provers and numbered from 1.
use Rattle.std.specs.Prelude.{◌≡◌, ℕ, ◌+◌, ◌≤◌, List, [], ◌∷◌, length}
use Rattle.bisect_game.specs.Rules.{Rules, ArePlayable}
use Rattle.bisect_game.specs.Bisection.{Bisection}
use Rattle.tournament.specs.Bracket.{Record}
use Rattle.tournament.specs.Posting.{Post, record_after}

-- the number of one of `provers` provers
abbrev pub IsProver : ℕ → ℕ → Type 0
IsProver provers p = (1 ≤ p) × (p ≤ provers)

-- disputes of `provers` provers, the first of which has the number n, and each later one the next
abbrev pub AreNumbered : ℕ → ℕ → List Bisection → Type 0
AreNumbered provers n [] = Unit {0}
AreNumbered provers n (d ∷ ds) = ((d.number ≡ n) × (IsProver provers d.first × IsProver provers d.second)) × AreNumbered provers (n + 1) ds

-- a claim of each prover, and disputes between provers, numbered from 1
pub record IsOfProvers (provers : ℕ) (r : Record) : Type 0 where
  pub claims : length r.claims ≡ provers
  pub disputes : AreNumbered provers 1 r.disputes

abbrev pub RecordsAreOfProvers : Type 0
RecordsAreOfProvers = (rules : Rules) (xs : List Post) → IsOfProvers rules.setup.provers (record_after rules xs)

-- and each dispute cuts its intervals in as many parts as the rules say
abbrev pub AllHaveFan : ℕ → List Bisection → Type 0
AllHaveFan fan [] = Unit {0}
AllHaveFan fan (d ∷ ds) = (d.fan ≡ fan) × AllHaveFan fan ds

abbrev pub DisputesHaveTheFan : Type 0
DisputesHaveTheFan = (rules : Rules) (xs : List Post) → ArePlayable rules → AllHaveFan rules.setup.fan (record_after rules xs).disputes
