-- To believe, for the law `the_lowest_is_never_idle`: the stages of a match. In each the lowest prover that lives when it begins is a side of one dispute, so that no stage is empty
-- and a prover 1 that lives has a dispute in every stage.
use Rattle.std.specs.Prelude.{◌≡◌, ℕ, ◌+◌, ◌<◌, ◌≤◌, nat_lt, false, ◌&&◌, ◌==◌, List, [], ◌∷◌, length, if◌then◌else◌}
use Rattle.rd_base.specs.declared.claim.Claim.{Claim}
use Rattle.bisect_game.specs.Bisection.{Bisection}
use Rattle.bisect_game.specs.Rules.{Rules}
use Rattle.tournament.specs.Bracket.{Record, live_from, last_stage, is_out_in}
use Rattle.tournament.specs.Collisions.{HasGiven}
use Rattle.tournament.specs.FewPosts.{disputes_played}
use Rattle.tournament.specs.OpenDisputes.{one_if, is_side}
use Rattle.tournament.specs.Posting.{Post, record_after}

-- the disputes of the stages before this one
abbrev pub disputes_before : ℕ → List Bisection → List Bisection
disputes_before stage [] = []
disputes_before stage (d ∷ ds) = if nat_lt d.stage stage then d ∷ disputes_before stage ds else disputes_before stage ds

-- the provers that live when a stage begins, with their claims, in order of number
abbrev pub live_at : ℕ → Record → List (ℕ × Claim)
live_at stage r = live_from (disputes_before stage r.disputes) 1 r.claims

-- in how many disputes of a stage a prover is a side
abbrev pub disputes_in_stage : ℕ → ℕ → List Bisection → ℕ
disputes_in_stage stage p [] = 0
disputes_in_stage stage p (d ∷ ds) = one_if ((d.stage == stage) && is_side p d) + disputes_in_stage stage p ds

-- a stage has a lowest live prover, and it is a side of one of its disputes
pub record LowestPlays (stage : ℕ) (r : Record) : Type 0 where
  pub lowest : ℕ × Claim
  pub others : List (ℕ × Claim)
  pub lives : live_at stage r ≡ lowest ∷ others
  pub plays : disputes_in_stage stage lowest.0 r.disputes ≡ 1

abbrev pub LowestIsNeverIdle : Type 0
LowestIsNeverIdle =
    (rules : Rules) (xs : List Post) (stage : ℕ) → 0 < stage → stage ≤ last_stage (record_after rules xs).disputes → LowestPlays stage (record_after rules xs)

-- so the lowest prover that gave a claim, and whom no dispute has eliminated, has a dispute in each stage
abbrev pub LowestPlaysAll : Type 0
LowestPlaysAll =
    (rules : Rules) (xs : List Post) (p : ℕ) (c : Claim) (others : List (ℕ × Claim)) → live_from [] 1 (record_after rules xs).claims ≡ (p, c) ∷ others →
    is_out_in (record_after rules xs).disputes p ≡ false → disputes_played p (record_after rules xs) ≡ last_stage (record_after rules xs).disputes

-- and prover 1 above all
abbrev pub FirstPlaysAll : Type 0
FirstPlaysAll =
    (rules : Rules) (xs : List Post) (c : Claim) → HasGiven (record_after rules xs).claims 1 c → is_out_in (record_after rules xs).disputes 1 ≡ false →
    disputes_played 1 (record_after rules xs) ≡ last_stage (record_after rules xs).disputes

-- no stage is empty: there are no more stages than disputes
abbrev pub StagesHaveDisputes : Type 0
StagesHaveDisputes = (rules : Rules) (xs : List Post) → last_stage (record_after rules xs).disputes ≤ length (record_after rules xs).disputes
