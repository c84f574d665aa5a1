-- To believe: the theorem of deposits. The closed form, nothing is lost, the order of events does not matter, and the truthful keep
-- their stakes.
use Rattle.std.specs.Prelude.{◌≡◌, ℕ, ◌+◌, ◌-◌, ◌*◌, ◌<◌, ◌≤◌, true, List, length, sum, slice_index}
use Rattle.std.specs.List.Sorted.{IsPermutation}
use Rattle.bisect_game.specs.Says.{Says}
use Rattle.bisect_game.specs.Ruling.{IsFair}
use Rattle.bisect_game.specs.Rules.{Rules, ArePlayable}
use Rattle.bisect_game.specs.Truth.{Truth, IsRun}
use Rattle.tournament.specs.OpenDisputes.{one_if}
use Rattle.tournament.specs.Bracket.{Record, is_complete}
use Rattle.tournament.specs.Posting.{Post, record_after}
use Rattle.tournament.specs.Moves.{begun}
use Rattle.tournament.specs.Journals.{turns, Legal}
use Rattle.tournament.specs.Theorem.{Stays}
use Rattle.tournament.specs.Truthful.{IsTruthfulProver}
use Rattle.deposits.specs.Events.{Event, puts_out, pays, outs, wins, spent, AllEventsOf, events_of}
use Rattle.deposits.specs.Accounts.{Accounts, staked, told, all_told, CanTellAll}
use Rattle.deposits.specs.Balances.{balance, balances_of, pool, IsSettledUp}

-- what a prover has in a ledger
abbrev pub has : Accounts → ℕ → ℕ
has a p = slice_index a.of (p - 1)

-- each event adds its own amounts, whatever came before it
abbrev pub EventsAddTheirOwn : Type 0
EventsAddTheirOwn =
    (a : Accounts) (e : Event) (p : ℕ) → 0 < p → p ≤ length a.of → has (told a e) p ≡ has a p + a.stake * one_if (pays e p) - a.stake * one_if (puts_out e p)

-- a ledger after events, in closed form
pub record IsInClosedForm (stake provers : ℕ) (es : List Event) (a : Accounts) : Type 0 where
  pub balances : (p : ℕ) → 0 < p → p ≤ provers → has a p ≡ stake * (1 + wins es p - outs es p)
  pub pool : a.pool ≡ stake * spent es

-- events that eliminate nobody twice may be applied in their order, with the closed form as the result
pub record MayBeTold (stake provers : ℕ) (es : List Event) : Type 0 where
  pub can : CanTellAll es (staked stake provers)
  pub comes_to : IsInClosedForm stake provers es (all_told es (staked stake provers))

abbrev pub LedgersAreInClosedForm : Type 0
LedgersAreInClosedForm = (stake provers : ℕ) (es : List Event) → AllEventsOf provers es → ((p : ℕ) → outs es p ≤ 1) → MayBeTold stake provers es

-- of a record too
pub record RecordIsInClosedForm (stake provers : ℕ) (r : Record) : Type 0 where
  pub balances : (p : ℕ) → 0 < p → p ≤ provers → slice_index (balances_of stake provers r).of (p - 1) ≡ balance stake r p
  pub as_events : (p : ℕ) → 0 < p → p ≤ provers → balance stake r p ≡ stake * (1 + wins (events_of r) p - outs (events_of r) p)
  pub pool_as_events : pool stake r ≡ stake * spent (events_of r)

abbrev pub RecordsAreInClosedForm : Type 0
RecordsAreInClosedForm = (stake provers : ℕ) (r : Record) → IsSettledUp provers r → RecordIsInClosedForm stake provers r

-- nothing is lost: after any events that may be applied balances and pool add up to the stakes, and so they do for a record

abbrev pub LedgersAddUp : Type 0
LedgersAddUp =
    (stake provers : ℕ) (es : List Event) → CanTellAll es (staked stake provers) →
    sum (all_told es (staked stake provers)).of + (all_told es (staked stake provers)).pool ≡ stake * provers

abbrev pub BalancesAddUp : Type 0
BalancesAddUp =
    (stake provers : ℕ) (r : Record) → IsSettledUp provers r →
    sum (balances_of stake provers r).of + (balances_of stake provers r).pool ≡ stake * provers

-- the events of a record may be applied in whatever order, and give its balances
pub record ComeToBalances (stake provers : ℕ) (r : Record) (es : List Event) : Type 0 where
  pub can : CanTellAll es (staked stake provers)
  pub balances : (all_told es (staked stake provers)).of ≡ (balances_of stake provers r).of
  pub pool : (all_told es (staked stake provers)).pool ≡ (balances_of stake provers r).pool

abbrev pub OrderOfEventsIsFree : Type 0
OrderOfEventsIsFree = (stake provers : ℕ) (r : Record) (es : List Event) → IsSettledUp provers r → IsPermutation (events_of r) es → ComeToBalances stake provers r es

-- a prover that stays, as the dispute theorem proves for a truthful one, has at least its stake, and so has one that answers truly

abbrev pub WhoStaysKeepsStake : Type 0
WhoStaysKeepsStake = (stake : ℕ) (rules : Rules) (t : Truth) (p : ℕ) (r : Record) → Stays rules t p r → stake ≤ balance stake r p

abbrev pub TruthfulKeepStake : Type 0
TruthfulKeepStake =
    (stake : ℕ) (rules : Rules) (says : Says) (t : Truth) (ps : List ℕ) (p : ℕ) → ArePlayable rules → IsFair rules.ruling → IsRun rules t → 0 < p → p ≤ rules.setup.provers →
    IsTruthfulProver rules says t p → Legal rules says ps (begun rules) → stake ≤ balance stake (turns rules says ps (begun rules)).record_ p

-- the record of each match that has ended, whatever was posted, meets the condition of `balances`
abbrev pub EndedIsSettledUp : Type 0
EndedIsSettledUp =
    (rules : Rules) (xs : List Post) → ArePlayable rules → is_complete (record_after rules xs) ≡ true → IsSettledUp rules.setup.provers (record_after rules xs)
