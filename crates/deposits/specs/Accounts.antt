-- To believe: what a ledger has, and what it has after an event. Each prover gains and loses its own amounts.
use Rattle.std.specs.Prelude.{◌≡◌, ℕ, ◌+◌, ◌-◌, ◌*◌, Bool, true, false, ◌||◌, List, [], ◌∷◌, length, replicate, slice_index_or}
use Rattle.tournament.specs.OpenDisputes.{one_if}
use Rattle.deposits.specs.Events.{Event, puts_out, pays, pooled, IsEventOf}

-- by prover the balance, and whether it is out; and the pool
pub record Accounts : Type 0 where
  pub stake : ℕ
  pub of : List ℕ
  pub out : List Bool
  pub pool : ℕ

-- each prover has put down its stake
abbrev pub staked : ℕ → ℕ → Accounts
staked stake provers = record { stake = stake; of = replicate provers stake; out = replicate provers false; pool = 0 }

abbrev pub is_told_out : Accounts → ℕ → Bool
is_told_out s p = slice_index_or s.out (p - 1) false

-- an event gives a prover the stake of the other side, or takes its own

abbrev pub balances_told : ℕ → Event → ℕ → List ℕ → List ℕ
balances_told stake e p [] = []
balances_told stake e p (x ∷ xs) = (x + stake * one_if (pays e p) - stake * one_if (puts_out e p)) ∷ balances_told stake e (p + 1) xs

abbrev pub outs_told : Event → ℕ → List Bool → List Bool
outs_told e p [] = []
outs_told e p (o ∷ os) = (o || puts_out e p) ∷ outs_told e (p + 1) os

abbrev pub told : Accounts → Event → Accounts
told s e = record { stake = s.stake; of = balances_told s.stake e 1 s.of; out = outs_told e 1 s.out; pool = s.pool + s.stake * pooled e }

-- an event may be applied: it is one of the provers, and eliminates nobody that is out
pub record CanTell (s : Accounts) (e : Event) : Type 0 where
  pub known : IsEventOf (length s.of) e
  pub not_yet : (p : ℕ) → puts_out e p ≡ true → is_told_out s p ≡ false

-- events, one after another

abbrev pub all_told : List Event → Accounts → Accounts
all_told [] s = s
all_told (e ∷ es) s = all_told es (told s e)

abbrev pub CanTellAll : List Event → Accounts → Type 0
CanTellAll [] s = Unit {0}
CanTellAll (e ∷ es) s = CanTell s e × CanTellAll es (told s e)
