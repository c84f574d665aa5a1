-- To believe, for the law `stalls_are_free`: that stages cost nothing by the settlement of `balances`, and a stake each, no more, by that of `burned`.
-- In a match of sixteen provers the first lies, the next fourteen claim the truth and belong to the first, and the last is truthful and
-- alone. It is asked for its claim and for nothing else.
use Rattle.std.specs.Prelude.{◌≡◌, ℕ, ◌-◌, ◌*◌, ◌<◌, ◌≤◌, true, List, None}
use Rattle.bisect_game.specs.Ruling.{IsFair}
use Rattle.bisect_game.specs.Rules.{Rules, ArePlayable}
use Rattle.bisect_game.specs.Truth.{Truth, IsRun}
use Rattle.tournament.specs.Bracket.{last_stage, is_complete, disputes_collision}
use Rattle.tournament.specs.FewPosts.{disputes_played}
use Rattle.tournament.specs.Posting.{Post, record_after}
use Rattle.tournament.specs.Theorem.{AreTrue}
use Rattle.deposits.specs.Balances.{pool}
use Rattle.deposits.specs.Burning.{burned_amount}
use Rattle.deposits.specs.ExactBalance.{others_of}

-- a match before a fair judge in which a prover gives true answers, and is in no dispute of its stages. By the first settlement all that the others
-- put down is theirs at the end; by the second they have lost a stake for each stage
pub record IsFreeStall (stake : ℕ) (stages_ : ℕ) (p : ℕ) (rules : Rules) (truth : Truth) (xs : List Post) : Type 0 where
  pub playable : ArePlayable rules
  pub fair : IsFair rules.ruling
  pub run : IsRun rules truth
  pub numbered : 0 < p
  pub known : p ≤ rules.setup.provers
  pub truthful : AreTrue rules truth p (record_after rules xs)
  pub over : is_complete (record_after rules xs) ≡ true
  pub clean : disputes_collision (record_after rules xs).disputes ≡ None
  pub idle : disputes_played p (record_after rules xs) ≡ 0
  pub stages : last_stage (record_after rules xs).disputes ≡ stages_
  pub unpooled : pool stake (record_after rules xs) ≡ 0
  pub free : others_of stake rules.setup.provers (record_after rules xs) p ≡ stake * (rules.setup.provers - 1)
  pub burns : burned_amount stake (record_after rules xs) ≡ stake * stages_

abbrev pub StallsAreFree : Type 0
StallsAreFree = (stake : ℕ) → (rules : Rules) × ((truth : Truth) × ((xs : List Post) × IsFreeStall stake 14 16 rules truth xs))
