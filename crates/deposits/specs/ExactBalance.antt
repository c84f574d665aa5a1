-- To believe: what a prover has exactly that is live once a match is over, and what all others have. Whoever posted whatever, each of its
-- disputes eliminated the other side alone, or closed by a collision, as one at most did.
use Rattle.std.specs.Prelude.{◌≡◌, ℕ, zero, suc, ◌+◌, ◌-◌, ◌*◌, ◌<◌, ◌≤◌, true, ◌&&◌, ◌==◌, ◌⊎◌, List, [], ◌∷◌, if◌then◌else◌}
use Rattle.bisect_game.specs.Bisection.{Bisection}
use Rattle.bisect_game.specs.Ruling.{IsFair}
use Rattle.bisect_game.specs.Rules.{Rules, ArePlayable}
use Rattle.bisect_game.specs.Says.{Says}
use Rattle.bisect_game.specs.Truth.{Truth, IsRun}
use Rattle.tournament.specs.Bracket.{Record, is_complete}
use Rattle.tournament.specs.Moves.{begun}
use Rattle.tournament.specs.OpenDisputes.{one_if, is_side}
use Rattle.tournament.specs.FewPosts.{disputes_played}
use Rattle.tournament.specs.Journals.{turns, Legal}
use Rattle.tournament.specs.Posting.{Post, record_after}
use Rattle.tournament.specs.Undecided.{is_collision}
use Rattle.tournament.specs.Theorem.{lives}
use Rattle.tournament.specs.TrueMoves.{MovesTruly}
use Rattle.tournament.specs.Truthful.{IsTruthfulProver}
use Rattle.deposits.specs.Balances.{balance, pool, wins_of, is_won_if}

-- THE DISPUTES OF A PROVER: how many closed by a collision

abbrev pub collisions_among : ℕ → List Bisection → ℕ
collisions_among p [] = 0
collisions_among p (d ∷ ds) = one_if (is_side p d && is_collision d.close) + collisions_among p ds

abbrev pub collisions_of : ℕ → Record → ℕ
collisions_of p r = collisions_among p r.disputes

-- each dispute of a prover eliminated the other side alone, or closed by a collision
abbrev pub AllWon : ℕ → List Bisection → Type 0
AllWon p [] = Unit {0}
AllWon p (d ∷ ds) = (is_side p d ≡ true → (is_won_if d.first d.second d.close p ≡ true) ⊎ (is_collision d.close ≡ true)) × AllWon p ds

-- THE OTHERS: what all provers but one have together, of this many, the first of which has the number q
abbrev pub others_from : ℕ → Record → ℕ → ℕ → ℕ → ℕ
others_from stake r p q zero = 0
others_from stake r p q (suc n) = (if q == p then 0 else balance stake r q) + others_from stake r p (q + 1) n

abbrev pub others_of : ℕ → ℕ → Record → ℕ → ℕ
others_of stake provers r p = others_from stake r p 1 provers

-- THE EQUATION: who is live at the end has its own stake and one for each of its disputes but that of a collision. What it won is exactly
-- what the others and the pool lack of what the others put down.
pub record HasWonAll (stake provers : ℕ) (p : ℕ) (r : Record) : Type 0 where
  pub each : AllWon p r.disputes
  pub counts : disputes_played p r ≡ wins_of r p + collisions_of p r
  pub one_collision : collisions_of p r ≤ 1
  pub balance_ : balance stake r p ≡ stake * (1 + (disputes_played p r - collisions_of p r))
  pub others : others_of stake provers r p + pool stake r + stake * (disputes_played p r - collisions_of p r) ≡ stake * (provers - 1)

abbrev pub WhoLivesWinsAll : Type 0
WhoLivesWinsAll =
    (stake : ℕ) (rules : Rules) (xs : List Post) (p : ℕ) → ArePlayable rules → 0 < p → p ≤ rules.setup.provers →
    is_complete (record_after rules xs) ≡ true → lives (record_after rules xs) p ≡ true → HasWonAll stake rules.setup.provers p (record_after rules xs)

-- so the others, pool and all, never end with more than they put down
abbrev pub OthersGainNothing : Type 0
OthersGainNothing =
    (stake : ℕ) (rules : Rules) (xs : List Post) (p : ℕ) → ArePlayable rules → 0 < p → p ≤ rules.setup.provers →
    is_complete (record_after rules xs) ≡ true → lives (record_after rules xs) p ≡ true →
    others_of stake rules.setup.provers (record_after rules xs) p + pool stake (record_after rules xs) ≤ stake * (rules.setup.provers - 1)

-- and so it is with a prover whose moves are true, whatever others post
abbrev pub TrueMovesWinAll : Type 0
TrueMovesWinAll =
    (stake : ℕ) (rules : Rules) (t : Truth) (xs : List Post) (p : ℕ) → ArePlayable rules → IsFair rules.ruling → IsRun rules t → 0 < p → p ≤ rules.setup.provers →
    MovesTruly rules t p (begun rules) xs → is_complete (record_after rules xs) ≡ true → HasWonAll stake rules.setup.provers p (record_after rules xs)

-- and a prover that answers truly by its script, whoever moves in whatever order
abbrev pub TruthfulWinAll : Type 0
TruthfulWinAll =
    (stake : ℕ) (rules : Rules) (says : Says) (t : Truth) (ps : List ℕ) (p : ℕ) → ArePlayable rules → IsFair rules.ruling → IsRun rules t → 0 < p → p ≤ rules.setup.provers →
    IsTruthfulProver rules says t p → Legal rules says ps (begun rules) → is_complete (turns rules says ps (begun rules)).record_ ≡ true →
    HasWonAll stake rules.setup.provers p (turns rules says ps (begun rules)).record_
