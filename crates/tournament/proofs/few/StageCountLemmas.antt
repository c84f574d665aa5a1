-- A match has no more stages than disputes.
use Rattle.std.proofs.Common.{ℕ, ◌+◌, ◌-◌, ◌≤◌, Bool, true, false, if◌then◌else◌, List, [], ◌∷◌, ◌++◌, length, slice_get, slice_set, inl, inr, Some, arith, subst, length-append}
use Rattle.std.proofs.lemmas.Bool.{cases_Bool}
use Rattle.rd_base.specs.declared.claim.Claim.{Claim}
use Rattle.bisect_game.specs.declared.settled.Settled.{Settled}
use Rattle.bisect_game.specs.Bisection.{Bisection}
use Rattle.bisect_game.specs.Rules.{Rules}
use Rattle.tournament.specs.Bracket.{Record, last_stage, disputes_of, pairs, is_stage_due, stage_opened, nothing_settled, claim_missing, settled_in, put, settle}
use Rattle.tournament.specs.Posting.{record_after}
use Rattle.tournament.specs.Settling.{after}
use Rattle.tournament.specs.Theorem.{FewDisputes}
use Rattle.tournament.specs.FewPosts.{FewStages}
use Rattle.tournament.proofs.OpenedLemmas.{opened-not, opened-due}
use Rattle.tournament.proofs.PostLemmas.{posts_settle}
use Rattle.tournament.proofs.keeping.KeepingLemmas.{stages-append, stage-settled, many-settled}

abbrev pub IsCounted : List Bisection → Type 0
IsCounted ds = last_stage ds ≤ length ds

one-stage : (rules : Rules) (g n : ℕ) (ps : List ((ℕ × Claim) × (ℕ × Claim))) → last_stage (disputes_of rules g n ps) ≤ g
one-stage rules g n [] = omega arith
one-stage rules g n (p ∷ ps) = omega (arith, one-stage rules g (n + 1) ps)

-- a stage that begins has a dispute, or isn't one
counted-both : (rules : Rules) (ds : List Bisection) (n : ℕ) (ps : List ((ℕ × Claim) × (ℕ × Claim))) → IsCounted ds → IsCounted (ds ++ disputes_of rules (last_stage ds + 1) n ps)
counted-both rules ds n [] few = omega (arith, few, stages-append ds [], length-append ds [])
counted-both rules ds n (p ∷ ps) few =
    let new : List Bisection = disputes_of rules (last_stage ds + 1) n (p ∷ ps) in
    omega (
      arith,
      few,
      stages-append ds (disputes_of rules (last_stage ds + 1) n (p ∷ ps)),
      length-append ds (disputes_of rules (last_stage ds + 1) n (p ∷ ps)),
      one-stage rules (last_stage ds + 1) (n + 1) ps,
    )

counted-opened : (rules : Rules) (r : Record) → IsCounted r.disputes → IsCounted (stage_opened rules r).disputes
counted-opened rules r few = elim (cases_Bool (is_stage_due rules r)) [
  | inl due ↦ rw (opened-due rules r due) (counted-both rules r.disputes (length r.disputes + 1) (pairs rules r) few)
  | inr not_due ↦ rw (opened-not rules r not_due) few
]

counted-put : (rules : Rules) (who : ℕ) (s : Settled) (r : Record) (b : Bool) → IsCounted r.disputes →
    IsCounted (if b then record r { claims = slice_set r.claims (who - 1) (Some s) } else record r { disputes = settled_in rules who s r.disputes }).disputes
counted-put rules who s r true few = few
counted-put rules who s r false few = omega (arith, few, stage-settled rules who s r.disputes, many-settled rules who s r.disputes)

pub counted-after : (rules : Rules) (es : List (ℕ × Settled)) (r : Record) → IsCounted r.disputes → IsCounted (after rules es r).disputes
unfolding settle
counted-after rules [] r few = few
counted-after rules (e ∷ es) r few =
    counted-after rules es (settle rules e.0 e.1 r) (counted-opened rules (put rules e.0 e.1 r) (counted-put rules e.0 e.1 r (claim_missing (slice_get r.claims (e.0 - 1))) few))

pub few-stages : FewDisputes → FewStages
few-stages disputes rules xs some =
    let s = posts_settle rules xs in
    let few : IsCounted (record_after rules xs).disputes = subst (λ (r : Record). IsCounted r.disputes) s.2 (counted-after rules s.0 (nothing_settled rules) (omega arith)) in
    omega (arith, few, disputes rules xs some)
