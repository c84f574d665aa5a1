-- To believe: how often a prover is eliminated, by its claim and by its disputes. Whatever was posted, once at most. Who lives and whose
-- claim was given is listed with it among the live, and nobody else is.
use Rattle.std.specs.Prelude.{◌≡◌, ◌↔◌, ℕ, ◌+◌, ◌-◌, ◌<◌, ◌≤◌, true, List, [], ◌∷◌, Some, slice_get, Contains}
use Rattle.rd_base.specs.declared.claim.Claim.{Claim}
use Rattle.rd_base.specs.declared.answer.Answer.TheVariants as answer
use Rattle.bisect_game.specs.declared.settled.Settled.TheVariants.{Given}
use Rattle.bisect_game.specs.Bisection.{Bisection}
use Rattle.bisect_game.specs.Rules.{Rules}
use Rattle.tournament.specs.Bracket.{Record, is_out_by, live}
use Rattle.tournament.specs.OpenDisputes.{one_if}
use Rattle.tournament.specs.Posting.{Post, record_after}
use Rattle.tournament.specs.Theorem.{is_out_by_claim, lives}

-- how many of these disputes eliminated a prover
abbrev pub outs_in : ℕ → List Bisection → ℕ
outs_in p [] = 0
outs_in p (d ∷ ds) = one_if (is_out_by d d.close p) + outs_in p ds

-- how often it is eliminated, by its claim and by disputes
abbrev pub outs_of : ℕ → Record → ℕ
outs_of p r = one_if (is_out_by_claim (slice_get r.claims (p - 1))) + outs_in p r.disputes

abbrev pub NobodyIsOutTwice : Type 0
NobodyIsOutTwice = (rules : Rules) (xs : List Post) (p : ℕ) → 0 < p → outs_of p (record_after rules xs) ≤ 1

-- in any record
abbrev pub TheLiveAreListed : Type 0
TheLiveAreListed =
    (r : Record) (p : ℕ) (c : Claim) → 0 < p →
    Contains (live r) (p, c) ↔ ((lives r p ≡ true) × (slice_get r.claims (p - 1) ≡ Some (Some (Given (answer.Claim c)))))
