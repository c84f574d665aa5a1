-- Every dispute between two provers that answer by runs of their own ends where the runs part.
use Rattle.std.proofs.Common.{◌≡◌, ℕ, List, [], ◌∷◌, sym, ◌∙◌, ap, subst}
use Rattle.rd_base.specs.declared.claim.Claim.{Claim}
use Rattle.bisect_game.specs.Bisection.{Bisection}
use Rattle.bisect_game.specs.Laws.{BisectionLaws}
use Rattle.bisect_game.specs.Parting.{IsClaimedRun, RunsPartWhereTheyEnd, LeavesAt, LieIsRefutedAtItsStep}
use Rattle.bisect_game.specs.Rules.{Rules, ArePlayable}
use Rattle.bisect_game.specs.Ruling.{IsFair}
use Rattle.bisect_game.specs.Truth.{Truth, IsRun}
use Rattle.tournament.specs.Bracket.{Record}
use Rattle.tournament.specs.Journals.{turns, LegalListsArePosts}
use Rattle.tournament.specs.Moves.{MatchState, begun}
use Rattle.tournament.specs.Posting.{Post, after_posts, record_after}
use Rattle.tournament.specs.Theorem.{HasTrueClaimSoFar, AllTrueIn, AreTrue}
use Rattle.tournament.specs.Lies.{ClaimsItsRun, AllEndWhereTheyPart, DisputesEndWhereRunsPart, AllLiesFound, LiesAreFound, ScriptsOfARun, LiesOfScriptsAreFound}
use Rattle.tournament.proofs.safety.PairLemmas.{IsOneByOne, AllOneByOne, all-one-by-one, true-given}

module _ (laws : BisectionLaws) (parting : RunsPartWhereTheyEnd) where
  -- the claim that a side gave is that of its run
  claimed : (rules : Rules) (run : Truth) (r : Record) (p : ℕ) (c : Claim) → ClaimsItsRun rules run → c ≡ run.claim → IsClaimedRun rules run (rules.ruling.root_of c)
  claimed rules run r p c i same = record { begins = i.begins; ends = ap rules.ruling.root_of same ∙ i.ends; sound = i.sound }

  all-end : (rules : Rules) (one other : Truth) (p q : ℕ) (r : Record) (ds : List Bisection) → ArePlayable rules → ClaimsItsRun rules one → ClaimsItsRun rules other →
      HasTrueClaimSoFar one r.claims p → HasTrueClaimSoFar other r.claims q → AllTrueIn rules one p ds → AllTrueIn rules other q ds → AllOneByOne rules r ds → AllEndWhereTheyPart rules one other p q ds
  all-end rules one other p q r [] playable io jo cp cq tp tq a = tt
  all-end rules one other p q r (d ∷ ds) playable io jo cp cq tp tq a = (
    λ first second shut.
        let o : IsOneByOne rules r d = a.0 in
        let is_p : o.p ≡ p = sym o.is_first ∙ first in
        let is_q : o.q ≡ q = sym o.is_second ∙ second in
        let mine : o.first ≡ one.claim = (true-given laws) one r p o.first cp (rw is_p at o.by_first) in
        let theirs : o.second ≡ other.claim = (true-given laws) other r q o.second cq (rw is_q at o.by_second) in
        parting rules one other (record { prover = o.p; root = rules.ruling.root_of o.first }) (record { prover = o.q; root = rules.ruling.root_of o.second }) o.stage o.number o.answers d playable (record {
          first = claimed rules one r p o.first io mine;
          second = claimed rules other r q o.second jo theirs;
          differ = o.differ;
          asked = o.asked;
          after = o.after_;
          by_first = tp.0.first first;
          by_second = tq.0.second second;
          closed = shut;
        }),
    all-end rules one other p q r ds playable io jo cp cq tp.1 tq.1 a.1,
  )

  pub disputes-end-where-runs-part : DisputesEndWhereRunsPart
  disputes-end-where-runs-part rules xs one other p q playable io jo tp tq =
      all-end rules one other p q (record_after rules xs) (record_after rules xs).disputes playable io jo tp.claim tq.claim tp.disputes tq.disputes ((all-one-by-one laws) rules xs)

  all-found : (rules : Rules) (truth lie : Truth) (s p q : ℕ) (ds : List Bisection) → LieIsRefutedAtItsStep → IsFair rules.ruling → IsRun rules truth → LeavesAt rules truth lie s →
      AllEndWhereTheyPart rules truth lie p q ds → AllEndWhereTheyPart rules lie truth q p ds → AllLiesFound rules.ruling truth lie s p q ds
  all-found rules truth lie s p q [] lies fair run leaves a b = tt
  all-found rules truth lie s p q (d ∷ ds) lies fair run leaves a b = (
    record {
      as_second = λ first second shut. lies.second rules truth lie s d fair run leaves (a.0 first second shut);
      as_first = λ first second shut. lies.first rules truth lie s d fair run leaves (b.0 first second shut);
    },
    all-found rules truth lie s p q ds lies fair run leaves a.1 b.1,
  )

  pub lies-are-found : LieIsRefutedAtItsStep → LiesAreFound
  lies-are-found lies rules xs truth lie s p q playable fair run claims leaves tp tq =
      let own : ClaimsItsRun rules truth = record { begins = run.begins; ends = run.ends; sound = run.sound } in
      all-found rules truth lie s p q (record_after rules xs).disputes lies fair run leaves
      (disputes-end-where-runs-part rules xs truth lie p q playable own claims tp tq) (disputes-end-where-runs-part rules xs lie truth q p playable claims own tq tp)

  pub lies-of-scripts-are-found : LieIsRefutedAtItsStep → LegalListsArePosts → ScriptsOfARun → LiesOfScriptsAreFound
  lies-of-scripts-are-found lies posts scripts rules says truth lie ps s p q playable fair run claims leaves some_p few_p some_q few_q tp tq legal =
      let x : (xs : List Post) × (after_posts rules xs (begun rules) ≡ turns rules says ps (begun rules)) = posts rules says ps legal in
      let same : record_after rules x.0 ≡ (turns rules says ps (begun rules)).record_ = ap (λ (st : MatchState). st.record_) x.1 in
      let mine : AreTrue rules truth p (turns rules says ps (begun rules)).record_ = scripts rules says truth ps p playable run.sound some_p few_p tp legal in
      let theirs : AreTrue rules lie q (turns rules says ps (begun rules)).record_ = scripts rules says lie ps q playable claims.sound some_q few_q tq legal in
      subst (λ (r : Record). AllLiesFound rules.ruling truth lie s p q r.disputes) same
      (lies-are-found lies rules x.0 truth lie s p q playable fair run claims leaves (subst (AreTrue rules truth p) (sym same) mine) (subst (AreTrue rules lie q) (sym same) theirs))
