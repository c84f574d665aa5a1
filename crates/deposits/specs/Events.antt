-- To believe: the events that move stakes, and those of a record.
use Rattle.std.specs.Prelude.{◌≢◌, ℕ, ◌+◌, Bool, false, not, ◌&&◌, ◌||◌, ◌==◌, if◌then◌else◌, List, [], ◌∷◌, ◌++◌, Option, Some, None}
use Rattle.bisect_game.specs.declared.settled.Settled.{Settled}
use Rattle.bisect_game.specs.declared.settled.Close.{Close}
use Rattle.bisect_game.specs.declared.settled.Close.TheVariants.{Out, Collision}
use Rattle.bisect_game.specs.Bisection.{Bisection}
use Rattle.tournament.specs.OpenDisputes.{one_if}
use Rattle.tournament.specs.Bracket.{Record}
use Rattle.tournament.specs.Numbers.{IsProver}
use Rattle.tournament.specs.Theorem.{is_out_by_claim}

-- a prover is out by its claim, or a dispute of two provers closes
pub data Event : Type 0 where
  ClaimOut : ℕ → Event
  Closed : ℕ → ℕ → Close → Event

-- a close of a dispute of two provers eliminates a prover
abbrev pub is_eliminated : ℕ → ℕ → Close → ℕ → Bool
is_eliminated a b (Out x y) p = (x && (a == p)) || (y && (b == p))
is_eliminated a b (Collision s t) p = false

-- it eliminates the other side alone
abbrev pub is_won : ℕ → ℕ → Close → ℕ → Bool
is_won a b (Out x y) p = (not x && y && (a == p)) || (x && not y && (b == p))
is_won a b (Collision s t) p = false

-- how many stakes a close gives to the pool: both if both sides are out, else none
abbrev pub pooled_by_close : Close → ℕ
pooled_by_close (Out x y) = if x && y then 2 else 0
pooled_by_close (Collision s t) = 0

-- the same of events: of a claim that is out the pool has the stake

abbrev pub puts_out : Event → ℕ → Bool
puts_out (ClaimOut q) p = q == p
puts_out (Closed a b c) p = is_eliminated a b c p

abbrev pub pays : Event → ℕ → Bool
pays (ClaimOut q) p = false
pays (Closed a b c) p = is_won a b c p

abbrev pub pooled : Event → ℕ
pooled (ClaimOut q) = 1
pooled (Closed a b c) = pooled_by_close c

-- how often events eliminate a prover, how often one eliminates only the other side of its dispute, and how many stakes they give to the
-- pool

abbrev pub outs : List Event → ℕ → ℕ
outs [] p = 0
outs (e ∷ es) p = one_if (puts_out e p) + outs es p

abbrev pub wins : List Event → ℕ → ℕ
wins [] p = 0
wins (e ∷ es) p = one_if (pays e p) + wins es p

abbrev pub spent : List Event → ℕ
spent [] = 0
spent (e ∷ es) = pooled e + spent es

-- an event of this many provers: those that it names are among them, and the sides of a dispute are two

pub record AreSides (provers a b : ℕ) : Type 0 where
  pub first : IsProver provers a
  pub second : IsProver provers b
  pub two : a ≢ b

abbrev pub IsEventOf : ℕ → Event → Type 0
IsEventOf provers (ClaimOut p) = IsProver provers p
IsEventOf provers (Closed a b c) = AreSides provers a b

abbrev pub AllEventsOf : ℕ → List Event → Type 0
AllEventsOf provers [] = Unit {0}
AllEventsOf provers (e ∷ es) = IsEventOf provers e × AllEventsOf provers es

-- THE EVENTS OF A RECORD: the claims that are out, by prover, and the disputes that have closed, by number

-- of claims the first of which is that of the prover with this number
abbrev pub claim_events : ℕ → List (Option Settled) → List Event
claim_events p [] = []
claim_events p (s ∷ ss) = if is_out_by_claim (Some s) then ClaimOut p ∷ claim_events (p + 1) ss else claim_events (p + 1) ss

abbrev pub and_closed : ℕ → ℕ → Option Close → List Event → List Event
and_closed a b (Some c) es = Closed a b c ∷ es
and_closed a b None es = es

abbrev pub dispute_events : List Bisection → List Event
dispute_events [] = []
dispute_events (d ∷ ds) = and_closed d.first d.second d.close (dispute_events ds)

abbrev pub events_of : Record → List Event
events_of r = claim_events 1 r.claims ++ dispute_events r.disputes
