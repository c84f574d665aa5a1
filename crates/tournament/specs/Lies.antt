-- To believe: where a lie is found in a match. If two provers each answer by a run of their own, every dispute between them that has closed
-- ends where the two runs part. So against a prover that answers truly, one whose run leaves the true one at step s, and none of whose later
-- steps is false, is out in the proof of step s - 1, or the dispute closes by a collision: two different strings of one digest, which the
-- two proofs of the step where it ends open.
use Rattle.std.specs.Prelude.{◌≡◌, ℕ, ◌<◌, ◌≤◌, true, false, ◌⊎◌, List, [], ◌∷◌}
use Rattle.bisect_game.specs.declared.settled.Close.TheVariants.{Out}
use Rattle.bisect_game.specs.Bisection.{Bisection, is_closed}
use Rattle.bisect_game.specs.Parting.{IsClaimedRun, EndsWhereTheyPart, LeavesAt, IsRefutedAt, HasCollided}
use Rattle.bisect_game.specs.Rules.{Rules, ArePlayable}
use Rattle.bisect_game.specs.Ruling.{Ruling, IsFair}
use Rattle.bisect_game.specs.Truth.{Truth, IsRun}
use Rattle.bisect_game.specs.Says.{Says}
use Rattle.tournament.specs.Journals.{turns, Legal}
use Rattle.tournament.specs.Moves.{begun}
use Rattle.tournament.specs.Posting.{Post, record_after}
use Rattle.tournament.specs.Theorem.{AreTrue}
use Rattle.tournament.specs.TrueMoves.{MovesTruly}
use Rattle.tournament.specs.Truthful.{IsTruthfulProver}

-- a run and its own claim. Its steps need not be true.
abbrev pub ClaimsItsRun : Rules → Truth → Type 0
ClaimsItsRun rules run = IsClaimedRun rules run (rules.ruling.root_of run.claim)

-- a prover whose moves are those of a run has the run's answers only, be the run a true one or not. The words for true moves and answers say
-- what a run's are.
abbrev pub PostsOfARun : Type 0
PostsOfARun =
    (rules : Rules) (run : Truth) (xs : List Post) (p : ℕ) → rules.ruling.is_sound run.claim ≡ true → 0 < p → p ≤ rules.setup.provers →
    MovesTruly rules run p (begun rules) xs → AreTrue rules run p (record_after rules xs)

abbrev pub ScriptsOfARun : Type 0
ScriptsOfARun =
    (rules : Rules) (says : Says) (run : Truth) (ps : List ℕ) (p : ℕ) → ArePlayable rules → rules.ruling.is_sound run.claim ≡ true → 0 < p → p ≤ rules.setup.provers →
    IsTruthfulProver rules says run p → Legal rules says ps (begun rules) → AreTrue rules run p (turns rules says ps (begun rules)).record_

-- of disputes, each that has these first and second sides
abbrev pub AllEndWhereTheyPart : Rules → Truth → Truth → ℕ → ℕ → List Bisection → Type 0
AllEndWhereTheyPart rules one other p q [] = Unit {0}
AllEndWhereTheyPart rules one other p q (d ∷ ds) =
    (d.first ≡ p → d.second ≡ q → is_closed d ≡ true → EndsWhereTheyPart rules one other d) × AllEndWhereTheyPart rules one other p q ds

abbrev pub DisputesEndWhereRunsPart : Type 0
DisputesEndWhereRunsPart =
    (rules : Rules) (xs : List Post) (one other : Truth) (p q : ℕ) → ArePlayable rules → ClaimsItsRun rules one → ClaimsItsRun rules other →
    AreTrue rules one p (record_after rules xs) → AreTrue rules other q (record_after rules xs) → AllEndWhereTheyPart rules one other p q (record_after rules xs).disputes

-- in a dispute between the prover p that answers truly and the prover q, whichever is the first side, q alone is out in the proof of step
-- s - 1, or the dispute has closed by a collision of their two proofs
pub record IsLieFound (ruling : Ruling) (truth lie : Truth) (s p q : ℕ) (d : Bisection) : Type 0 where
  pub as_second : d.first ≡ p → d.second ≡ q → is_closed d ≡ true → IsRefutedAt s (Out false true) d ⊎ HasCollided ruling truth lie d
  pub as_first : d.first ≡ q → d.second ≡ p → is_closed d ≡ true → IsRefutedAt s (Out true false) d ⊎ HasCollided ruling lie truth d

abbrev pub AllLiesFound : Ruling → Truth → Truth → ℕ → ℕ → ℕ → List Bisection → Type 0
AllLiesFound ruling truth lie s p q [] = Unit {0}
AllLiesFound ruling truth lie s p q (d ∷ ds) = IsLieFound ruling truth lie s p q d × AllLiesFound ruling truth lie s p q ds

abbrev pub LiesAreFound : Type 0
LiesAreFound =
    (rules : Rules) (xs : List Post) (truth lie : Truth) (s p q : ℕ) → ArePlayable rules → IsFair rules.ruling → IsRun rules truth → ClaimsItsRun rules lie → LeavesAt rules truth lie s →
    AreTrue rules truth p (record_after rules xs) → AreTrue rules lie q (record_after rules xs) → AllLiesFound rules.ruling truth lie s p q (record_after rules xs).disputes

-- and so it is with provers that answer by scripts
abbrev pub LiesOfScriptsAreFound : Type 0
LiesOfScriptsAreFound =
    (rules : Rules) (says : Says) (truth lie : Truth) (ps : List ℕ) (s p q : ℕ) → ArePlayable rules → IsFair rules.ruling → IsRun rules truth → ClaimsItsRun rules lie → LeavesAt rules truth lie s →
    0 < p → p ≤ rules.setup.provers → 0 < q → q ≤ rules.setup.provers → IsTruthfulProver rules says truth p → IsTruthfulProver rules says lie q →
    Legal rules says ps (begun rules) → AllLiesFound rules.ruling truth lie s p q (turns rules says ps (begun rules)).record_.disputes
