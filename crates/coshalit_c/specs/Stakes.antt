-- To believe. What a caller in another language gets of the stakes of a match of its own that is over.
use Rattle.std.specs.Prelude.{◌≡◌, ℕ, Bool, true, ◌&&◌, nat_le, List, ◌++◌, length, take, drop}
use Rattle.sha2.specs.Sha256.{sha256}
use Rattle.tournament.specs.Bracket.{Record, is_complete}
use Rattle.tournament.specs.Moves.{MatchState}
use Rattle.deposits.specs.declared.amounts.Balances.{Balances}
use Rattle.deposits.specs.Balances.{balances_of}
use Rattle.deposits.specs.Burning.{balances_if_burned}
use Rattle.transcript_text.specs.declared.text.Head.{Head}
use Rattle.coshalit_c.specs.HostMatch.{status_of_match, IsAfterTheLog}
use Rattle.coshalit_c.specs.declared.stakes.Settlement.{Settlement}
use Rattle.coshalit_c.specs.declared.stakes.Settlement.TheVariants.{Ledger, Burning}
use Rattle.transcript_text.specs.Limits.{numbers_are_in_limits}
use Rattle.machine_audit.specs.MachineAudit.{machine_rules}

-- what each prover has by a settlement, and what is in the pool or burned
abbrev pub balances_by : Settlement → ℕ → ℕ → Record → Balances
balances_by Ledger stake provers r = balances_of stake provers r
balances_by Burning stake provers r = balances_if_burned stake provers r

-- the numbers of the match and the stake are within their limits
abbrev pub stakes_are_in_limits : Head → ℕ → Bool
stakes_are_in_limits head stake = nat_le stake 1000000000 && numbers_are_in_limits head

-- what is written of a match that is over: its status, the balances in the order of the provers, as far as there is room, and the pool
pub record AreStakesWritten (settlement : Settlement) (head : Head) (stake : ℕ) (st : MatchState) (status : ℕ) (before now : List ℕ) (pool : ℕ) : Type 0 where
  pub over : is_complete st.record_ ≡ true
  pub status_ : status ≡ status_of_match (machine_rules sha256 head) st.record_
  pub room : now ≡ take (length before) (balances_by settlement stake head.provers st.record_).of ++ drop (length (balances_by settlement stake head.provers st.record_).of) before
  pub pool_ : pool ≡ (balances_by settlement stake head.provers st.record_).pool

-- it is written of the match after the log
abbrev pub AreStakesFound : Settlement → Head → ℕ → List ℕ → ℕ → List ℕ → List ℕ → ℕ → Type 0
AreStakesFound settlement head stake log status before now pool =
    IsAfterTheLog head log (λ st reply. AreStakesWritten settlement head stake st status before now pool)
