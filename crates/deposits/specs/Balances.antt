-- To believe: what each prover has once a match has ended, in closed form, and what is in the pool.
use Rattle.std.specs.Prelude.{◌≡◌, ℕ, zero, suc, ◌+◌, ◌-◌, ◌*◌, ◌≤◌, Bool, true, false, not, List, [], ◌∷◌, length, Option, Some, None}
use Rattle.bisect_game.specs.declared.settled.Settled.{Settled}
use Rattle.bisect_game.specs.declared.settled.Close.{Close}
use Rattle.bisect_game.specs.Bisection.{Bisection}
use Rattle.tournament.specs.OpenDisputes.{one_if}
use Rattle.tournament.specs.Bracket.{Record, all_there}
use Rattle.tournament.specs.Theorem.{is_out_by_claim, lives}
use Rattle.deposits.specs.declared.amounts.Balances.{Balances}
use Rattle.deposits.specs.Events.{is_won, pooled_by_close, AreSides, outs, events_of}

-- how many of its own stakes a prover has lost: 1 of a prover that is out, else 0
abbrev pub losses_of : Record → ℕ → ℕ
losses_of r p = one_if (not (lives r p))

-- how many disputes eliminated only the other side of a prover

abbrev pub is_won_if : ℕ → ℕ → Option Close → ℕ → Bool
is_won_if a b (Some c) p = is_won a b c p
is_won_if a b None p = false

abbrev pub wins_in : List Bisection → ℕ → ℕ
wins_in [] p = 0
wins_in (d ∷ ds) p = one_if (is_won_if d.first d.second d.close p) + wins_in ds p

abbrev pub wins_of : Record → ℕ → ℕ
wins_of r p = wins_in r.disputes p

-- what a prover has: its own stake unless it is out, and that of each prover that it eliminated
abbrev pub balance : ℕ → Record → ℕ → ℕ
balance stake r p = stake * (1 + wins_of r p - losses_of r p)

-- the stakes in the pool: one for each claim that is out, and two for each dispute that eliminated both sides

abbrev pub claims_out : List (Option Settled) → ℕ
claims_out [] = 0
claims_out (s ∷ ss) = one_if (is_out_by_claim (Some s)) + claims_out ss

abbrev pub pooled_if : Option Close → ℕ
pooled_if (Some c) = pooled_by_close c
pooled_if None = 0

abbrev pub pooled_in : List Bisection → ℕ
pooled_in [] = 0
pooled_in (d ∷ ds) = pooled_if d.close + pooled_in ds

abbrev pub pool : ℕ → Record → ℕ
pool stake r = stake * (claims_out r.claims + pooled_in r.disputes)

-- of this many provers, the first of which has this number
abbrev pub balances_from : ℕ → Record → ℕ → ℕ → List ℕ
balances_from stake r p zero = []
balances_from stake r p (suc n) = balance stake r p ∷ balances_from stake r (p + 1) n

abbrev pub balances_of : ℕ → ℕ → Record → Balances
balances_of stake provers r = record { of = balances_from stake r 1 provers; pool = pool stake r }

-- THE CONDITION: one settled claim per prover, disputes between two of them, and nobody eliminated twice

abbrev pub AllSides : ℕ → List Bisection → Type 0
AllSides provers [] = Unit {0}
AllSides provers (d ∷ ds) = AreSides provers d.first d.second × AllSides provers ds

pub record IsSettledUp (provers : ℕ) (r : Record) : Type 0 where
  pub claims : length r.claims ≡ provers
  pub settled : all_there r.claims ≡ true
  pub sides : AllSides provers r.disputes
  pub once : (p : ℕ) → outs (events_of r) p ≤ 1
