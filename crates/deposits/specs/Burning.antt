-- To believe, for the call `burned` and the laws `burned_stakes_add_up`, `stages_burn_stakes` and `the_first_is_paid_for_stages`: a second
-- settlement beside that of `Balances`. Who is out loses its stake, and nobody wins it: it is burned. So whoever stalls a match pays a stake
-- for each stage, also if it fights itself.
use Rattle.std.specs.Prelude.{◌≡◌, ℕ, zero, suc, ◌+◌, ◌-◌, ◌*◌, ◌<◌, ◌≤◌, true, false, ◌==◌, List, [], ◌∷◌, ◌++◌, Option, Some, None, sum, if◌then◌else◌}
use Rattle.rd_base.specs.declared.claim.Claim.{Claim}
use Rattle.bisect_game.specs.declared.settled.Close.{Close}
use Rattle.bisect_game.specs.declared.settled.Close.TheVariants.{Out, Collision}
use Rattle.bisect_game.specs.Bisection.{Bisection}
use Rattle.bisect_game.specs.Rules.{Rules, ArePlayable}
use Rattle.tournament.specs.OpenDisputes.{one_if}
use Rattle.tournament.specs.Bracket.{Record, last_stage, is_complete, disputes_collision}
use Rattle.tournament.specs.Collisions.{HasGiven}
use Rattle.tournament.specs.Delay.{rounds_in_sequence}
use Rattle.tournament.specs.Length.{IsMost}
use Rattle.tournament.specs.Posting.{Post, record_after}
use Rattle.tournament.specs.Theorem.{lives}
use Rattle.deposits.specs.declared.amounts.Balances.{Balances}
use Rattle.deposits.specs.Events.{Event, claim_events}
use Rattle.deposits.specs.Events.Event.{ClaimOut}
use Rattle.deposits.specs.Balances.{balance, pool, claims_out, IsSettledUp}

-- how many sides disputes have eliminated

abbrev pub losers_by : Option Close → ℕ
losers_by (Some (Out x y)) = one_if x + one_if y
losers_by (Some (Collision s t)) = 0
losers_by None = 0

abbrev pub losers_in : List Bisection → ℕ
losers_in [] = 0
losers_in (d ∷ ds) = losers_by d.close + losers_in ds

-- what is burned: a stake for each prover that is out, by its claim or by a dispute
abbrev pub burned_amount : ℕ → Record → ℕ
burned_amount stake r = stake * (claims_out r.claims + losers_in r.disputes)

-- what a prover keeps: its stake while it lives
abbrev pub kept_stake : ℕ → Record → ℕ → ℕ
kept_stake stake r p = if lives r p then stake else 0

-- of this many provers, the first of which has this number
abbrev pub kept_stakes_from : ℕ → Record → ℕ → ℕ → List ℕ
kept_stakes_from stake r p zero = []
kept_stakes_from stake r p (suc n) = kept_stake stake r p ∷ kept_stakes_from stake r (p + 1) n

-- the events of it: each loser of a dispute is out as by its claim

abbrev pub and_burned : ℕ → ℕ → Option Close → List Event → List Event
and_burned a b (Some (Out true true)) es = ClaimOut a ∷ ClaimOut b ∷ es
and_burned a b (Some (Out true false)) es = ClaimOut a ∷ es
and_burned a b (Some (Out false true)) es = ClaimOut b ∷ es
and_burned a b (Some (Out false false)) es = es
and_burned a b (Some (Collision s t)) es = es
and_burned a b None es = es

abbrev pub burn_events : List Bisection → List Event
burn_events [] = []
burn_events (d ∷ ds) = and_burned d.first d.second d.close (burn_events ds)

abbrev pub burn_events_of : Record → List Event
burn_events_of r = claim_events 1 r.claims ++ burn_events r.disputes

-- THE SETTLEMENT: what each prover keeps and, in the place of the pool, what is burned
abbrev pub balances_if_burned : ℕ → ℕ → Record → Balances
balances_if_burned stake provers r = record { of = kept_stakes_from stake r 1 provers; pool = burned_amount stake r }

-- nothing else is lost: what is kept and what is burned add up to the stakes
abbrev pub BurnedAddUp : Type 0
BurnedAddUp = (stake provers : ℕ) (r : Record) → IsSettledUp provers r → sum (balances_if_burned stake provers r).of + (balances_if_burned stake provers r).pool ≡ stake * provers

-- THE PRICE OF A STAGE, whatever was posted and by whomever: a match that is over without a collision of a dispute has burned a stake at least
-- for each of its stages

abbrev pub StagesBurn : Type 0
StagesBurn =
    (stake : ℕ) (rules : Rules) (xs : List Post) → is_complete (record_after rules xs) ≡ true → disputes_collision (record_after rules xs).disputes ≡ None →
    stake * last_stage (record_after rules xs).disputes ≤ burned_amount stake (record_after rules xs)

-- what all provers but one keep together, of this many, the first of which has the number q
abbrev pub kept_by_others_from : ℕ → Record → ℕ → ℕ → ℕ → ℕ
kept_by_others_from stake r p q zero = 0
kept_by_others_from stake r p q (suc n) = (if q == p then 0 else kept_stake stake r q) + kept_by_others_from stake r p (q + 1) n

abbrev pub kept_by_others : ℕ → ℕ → Record → ℕ → ℕ
kept_by_others stake provers r p = kept_by_others_from stake r p 1 provers

-- so if one prover lives, as a truthful one does, the others pay: of what they put down they have lost a stake at least for each stage
abbrev pub OthersPayForStages : Type 0
OthersPayForStages =
    (stake : ℕ) (rules : Rules) (xs : List Post) (p : ℕ) → ArePlayable rules → 0 < p → p ≤ rules.setup.provers → is_complete (record_after rules xs) ≡ true →
    disputes_collision (record_after rules xs).disputes ≡ None → lives (record_after rules xs) p ≡ true →
    kept_by_others stake rules.setup.provers (record_after rules xs) p + stake * last_stage (record_after rules xs).disputes ≤ stake * (rules.setup.provers - 1)

-- rounds have a price too: beside the round of the claims, each k + 1 rounds that came one after another have burned a stake, for a most
-- number k of bisection rounds
abbrev pub RoundsBurn : Type 0
RoundsBurn =
    (stake : ℕ) (rules : Rules) (xs : List Post) (k : ℕ) → ArePlayable rules → IsMost rules.setup.fan rules.setup.bound k → is_complete (record_after rules xs) ≡ true →
    disputes_collision (record_after rules xs).disputes ≡ None →
    stake * (rounds_in_sequence (record_after rules xs) - 1) ≤ burned_amount stake (record_after rules xs) * (k + 1)

-- BETWEEN THE TWO SETTLEMENTS: each stake is put down in two parts, one settled as in `Balances`, the other burned. A prover has both
-- together, and so has the pool. With nothing in the first part this is `balances_if_burned`, with nothing in the second `balances_of`

abbrev pub has_between : ℕ → ℕ → Record → ℕ → ℕ
has_between won rest r p = balance won r p + kept_stake rest r p

abbrev pub lost_between : ℕ → ℕ → Record → ℕ
lost_between won rest r = pool won r + burned_amount rest r

-- of this many provers, the first of which has this number, all together
abbrev pub between_from : ℕ → ℕ → Record → ℕ → ℕ → ℕ
between_from won rest r p zero = 0
between_from won rest r p (suc n) = has_between won rest r p + between_from won rest r (p + 1) n

-- a stage costs the second part, and balances and pool add up to the stakes
pub record IsBetween (won rest provers : ℕ) (r : Record) : Type 0 where
  pub stages : rest * last_stage r.disputes ≤ lost_between won rest r
  pub total : between_from won rest r 1 provers + lost_between won rest r ≡ (won + rest) * provers

abbrev pub BetweenBurns : Type 0
BetweenBurns =
    (won rest : ℕ) (rules : Rules) (xs : List Post) → ArePlayable rules → is_complete (record_after rules xs) ≡ true → disputes_collision (record_after rules xs).disputes ≡ None →
    IsBetween won rest rules.setup.provers (record_after rules xs)

-- BY THE SETTLEMENT OF `balances` a stage costs a stake if prover 1 lives and gave a claim, as a truthful one does: it has won a stake in each
abbrev pub FirstIsPaidForStages : Type 0
FirstIsPaidForStages =
    (stake : ℕ) (rules : Rules) (xs : List Post) (c : Claim) → ArePlayable rules → is_complete (record_after rules xs) ≡ true → disputes_collision (record_after rules xs).disputes ≡ None →
    HasGiven (record_after rules xs).claims 1 c → lives (record_after rules xs) 1 ≡ true → balance stake (record_after rules xs) 1 ≡ stake * (1 + last_stage (record_after rules xs).disputes)
