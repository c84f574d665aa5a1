-- A match that isn't over asks somebody, and no post on an open question is stale.
use Rattle.std.proofs.Common.{◌≡◌, ℕ, zero, suc, ◌+◌, ◌<◌, ◌≤◌, nat_lt, true, false, not, ◌==◌, ◌⊎◌, inl, inr, List, [], ◌∷◌, ◌++◌, Option, Some, None, refl, arith}
use Rattle.std.proofs.lemmas.Bool.Decides.{nat_tests}
use Rattle.std.proofs.lemmas.Bool.{cases_Bool}
use Rattle.rd_base.specs.declared.answer.Qid.{Qid}
use Rattle.rd_base.specs.Questions.{same_qid}
use Rattle.bisect_game.specs.declared.settled.Question.{Question}
use Rattle.bisect_game.specs.declared.settled.Settled.{Settled}
use Rattle.bisect_game.specs.declared.settled.Settled.TheVariants.{Given, Faulty, Spent}
use Rattle.bisect_game.specs.Rules.{Rules}
use Rattle.tournament.specs.Bracket.{Record, open_question, is_complete}
use Rattle.tournament.specs.Moves.{MatchState, begun, passes_of, settled_by}
use Rattle.tournament.specs.OpenDisputes.{one_if}
use Rattle.tournament.specs.Posting.{Post, posted, reply_by, reply_to, after_posts, record_after, NobodyAskedIsOver, is_stale}
use Rattle.tournament.specs.FewPosts.{effective_posts, AsksSomebody, NeverStuck, OpenIsNotStale, FewPosts, FullIsOver}

same-number : (n : ℕ) → (n == n) ≡ true
same-number n = grind (arith, nat_tests)

pub same-qid : (a : Qid) → same_qid a a ≡ true
same-qid a = rw (same-number a.dispute, same-number a.round) refl

-- what settles something or nothing isn't stale
pub reply-not-stale : (o : Option Settled) → is_stale (reply_by o) ≡ false
reply-not-stale None = refl
reply-not-stale (Some (Given a)) = refl
reply-not-stale (Some (Faulty a)) = refl
reply-not-stale (Some Spent) = refl

pub open-is-not-stale : OpenIsNotStale
open-is-not-stale rules st p q a e =
    let same : same_qid q.qid q.qid ≡ true = same-qid q.qid in
    rw (e, same) (reply-not-stale (settled_by rules q (passes_of st p) a))

-- some prover up to a number is asked, or none is
asked-up-to : (rules : Rules) (r : Record) (n : ℕ) → n ≤ rules.setup.provers → AsksSomebody rules r ⊎ ((p : ℕ) → 0 < p → p ≤ n → open_question rules r p ≡ None)
asked-up-to rules r zero le = inr (λ p some small. absurd (omega arith))
asked-up-to rules r (suc n) le = by (open_question rules r (suc n)) refl (asked-up-to rules r n (omega arith))
  where
    by : (o : Option Question) → open_question rules r (suc n) ≡ o → AsksSomebody rules r ⊎ ((p : ℕ) → 0 < p → p ≤ n → open_question rules r p ≡ None) →
        AsksSomebody rules r ⊎ ((p : ℕ) → 0 < p → p ≤ suc n → open_question rules r p ≡ None)
    by (Some q) e rest = inl (record { prover = suc n; numbered = omega arith; known = le; question = q; asked = e })
    by None e (inl somebody) = inl somebody
    by None e (inr nobody) = inr (λ p some small. elim (cases_Bool (nat_lt p (suc n))) [
      | inl less ↦ nobody p some (grind (arith, nat_tests))
      | inr last ↦ (let is : p ≡ suc n = grind (arith, nat_tests) in rw is e)
    ])

pub never-stuck : NobodyAskedIsOver → NeverStuck
never-stuck over rules xs playable not_over = elim (asked-up-to rules (record_after rules xs) rules.setup.provers (omega arith)) [
  | inl somebody ↦ somebody
  | inr nobody ↦ (let done : is_complete (record_after rules xs) ≡ true = (over rules xs playable).0 nobody in absurd (cc))
]

-- SO A FULL MATCH IS OVER: else one more pass wouldn't be stale

effective-last : (rules : Rules) (xs : List Post) (x : Post) (st : MatchState) →
    effective_posts rules (xs ++ x ∷ []) st ≡ effective_posts rules xs st + one_if (not (is_stale (reply_to rules (after_posts rules xs st) x.prover x.qid x.answer)))
effective-last rules [] x st = omega arith
effective-last rules (y ∷ xs) x st = omega (arith, effective-last rules xs x (posted rules st y.prover y.qid y.answer))

pub full-is-over : FewPosts → NeverStuck → FullIsOver
full-is-over few never rules xs k playable m full = elim (cases_Bool (is_complete (record_after rules xs))) [
  | inl over ↦ over
  | inr still ↦
      let a : AsksSomebody rules (record_after rules xs) = never rules xs playable still in
      let x : Post = record { prover = a.prover; numbered = a.numbered; qid = a.question.qid; answer = None } in
      let fresh : is_stale (reply_to rules (after_posts rules xs (begun rules)) a.prover a.question.qid None) ≡ false =
      open-is-not-stale rules (after_posts rules xs (begun rules)) a.prover a.question None a.asked in
      let one : one_if (not (is_stale (reply_to rules (after_posts rules xs (begun rules)) a.prover a.question.qid None))) ≡ 1 = rw fresh refl in
      absurd (omega (arith, full, one, effective-last rules xs x (begun rules), few rules (xs ++ x ∷ []) k playable m))
]
