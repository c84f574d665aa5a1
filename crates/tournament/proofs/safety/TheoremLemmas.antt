-- The dispute theorem over lists of posts.
use Rattle.std.proofs.Common.{ℕ, zero, suc, ◌-◌, ◌*◌, ◌<◌, ◌≤◌, List, [], ◌∷◌, length, arith}
use Rattle.bisect_game.specs.Bisection.{Bisection}
use Rattle.bisect_game.specs.Laws.{BisectionLaws}
use Rattle.bisect_game.specs.Rules.{Rules}
use Rattle.tournament.specs.Numbers.{DisputesHaveTheFan}
use Rattle.tournament.specs.Posting.{record_after, NobodyAskedIsOver}
use Rattle.tournament.specs.Rulings.{rulings_of, RulingsAreFew}
use Rattle.tournament.specs.Theorem.{AllShort, TruthfulStay, VerdictIsRight, FewDisputes, FewRounds}
use Rattle.tournament.proofs.length.CountLemmas.{few_disputes}
use Rattle.tournament.proofs.length.FewLemmas.{few_rounds, have_the_fan}
use Rattle.tournament.proofs.safety.MatchLemmas.{settled_stay}
use Rattle.tournament.proofs.safety.VerdictLemmas.{settled_right}
use Rattle.tournament.proofs.length.OverLemmas.{over-after}
use Rattle.tournament.proofs.PostLemmas.{IsSettled, settled-begun}

pub few_disputes_of_posts : FewDisputes
few_disputes_of_posts rules xs some =
    let i : IsSettled rules (record_after rules xs) = settled-begun rules xs in
    rw i.comes at (few_disputes rules i.list some)

rulings-by : (rules : Rules) (n : ℕ) (ds : List Bisection) → length ds ≤ n → AllShort rules ds → rulings_of ds ≤ 2 * n
rulings-by rules n [] few short = omega arith
rulings-by rules zero (d ∷ ds) few short = absurd (omega arith)
rulings-by rules (suc n) (d ∷ ds) few short =
    let rest : rulings_of ds ≤ 2 * n = rulings-by rules n ds (omega (arith, few)) short.1 in
    omega (arith, rest, short.0.proofs)

module _ (laws : BisectionLaws) where
  pub truthful_stay : TruthfulStay
  truthful_stay rules t xs p playable fair run numbered true_ =
      let i : IsSettled rules (record_after rules xs) = settled-begun rules xs in
      rw i.comes at ((settled_stay laws) rules t i.list p playable fair run numbered i.fit (rw (← i.comes) at true_))

  pub verdict_is_right : VerdictIsRight
  verdict_is_right rules t xs p playable fair run numbered true_ complete =
      let i : IsSettled rules (record_after rules xs) = settled-begun rules xs in
      rw i.comes at ((settled_right laws) rules t i.list p playable fair run numbered i.fit (rw (← i.comes) at true_) (rw (← i.comes) at complete))

  pub few_rounds_of_posts : FewRounds
  few_rounds_of_posts rules xs playable =
      let i : IsSettled rules (record_after rules xs) = settled-begun rules xs in
      rw i.comes at ((few_rounds laws) rules i.list playable)

  pub nobody_asked_is_over : NobodyAskedIsOver
  nobody_asked_is_over rules xs playable =
      let i : IsSettled rules (record_after rules xs) = settled-begun rules xs in
      rw i.comes at ((over-after laws) rules i.list)

  pub disputes_have_the_fan : DisputesHaveTheFan
  disputes_have_the_fan rules xs playable =
      let i : IsSettled rules (record_after rules xs) = settled-begun rules xs in
      rw i.comes at ((have_the_fan laws) rules i.list playable)

  pub rulings_are_few : RulingsAreFew
  rulings_are_few rules xs playable =
      let few : length (record_after rules xs).disputes < rules.setup.provers = few_disputes_of_posts rules xs playable.some in
      rulings-by rules (rules.setup.provers - 1) (record_after rules xs).disputes (omega (arith, few)) (few_rounds_of_posts rules xs playable)
