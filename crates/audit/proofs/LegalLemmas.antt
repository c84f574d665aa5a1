-- What is confirmed was played, by posts.
use Rattle.std.proofs.Common.{◌≡◌, ℕ, zero, suc, ◌+◌, ◌<◌, ◌≤◌, Bool, true, false, not, ◌==◌, if◌then◌else◌, List, [], ◌∷◌, ◌++◌, Option, Some, None, inl, inr, refl, ◌∙◌, ap, arith}
use Rattle.std.proofs.lemmas.Bool.{cases_Bool, and_parts}
use Rattle.rd_base.specs.declared.answer.Answer.{Answer}
use Rattle.bisect_game.specs.declared.settled.Question.{Question}
use Rattle.bisect_game.specs.declared.settled.Settled.{Settled}
use Rattle.bisect_game.specs.declared.settled.Settled.TheVariants.{Given, Faulty, Spent}
use Rattle.bisect_game.specs.Rules.{Rules, is_fit, judged}
use Rattle.tournament.specs.declared.reading.Verdict.{Verdict}
use Rattle.tournament.specs.Bracket.{Record, open_question, settle, is_complete, verdict_of}
use Rattle.tournament.specs.Moves.{MatchState}
use Rattle.rd_base.specs.Questions.{same_qid}
use Rattle.tournament.specs.Posting.{posted, Post, after_posts}
use Rattle.transcript_text.specs.declared.text.TextMove.{TextMove}
use Rattle.transcript_text.specs.declared.text.Stated.{Stated}
use Rattle.transcript_text.specs.StatedVerdict.{stated_of}
use Rattle.audit.specs.declared.finding.Cause.{Cause}
use Rattle.audit.specs.declared.finding.Cause.TheVariants.{NotAsked, OtherReply, OtherVerdict, MovesMissing, MovesAfterEnd}
use Rattle.audit.specs.declared.finding.Audit.TheVariants.{Confirmed, Refused}
use Rattle.audit.specs.NextEntry.{next}
use Rattle.audit.specs.LineByLine.{is_right, is_move_of, cause_by, cause_of, is_stated, audit_from}
use Rattle.audit.specs.BetweenLines.{fresh, passed_on}
use Rattle.audit.proofs.PassLemmas.{begin_passing, pass_more, pass_last, answered_at_once}
use Rattle.audit.proofs.StatedLemmas.{is-eqb, this-is}

-- the record to which moves come one after another
abbrev pub after_moves : Rules → List TextMove → Record → Record
after_moves rules [] t = t
after_moves rules (m ∷ ms) t = after_moves rules ms (settle rules m.prover m.settled t)

-- a legal entry: its prover's question is next, and its answer is called what it is
pub record IsLegalEntry (rules : Rules) (t : Record) (m : TextMove) : Type 0 where
  pub question : Question
  pub is_next : next t ≡ Some (m.prover, question)
  pub numbered : same_qid question.qid m.qid ≡ true
  pub right : is_right rules question.kind m.settled ≡ true
  pub goes_on : is_complete t ≡ false

abbrev pub AllLegal : Rules → List TextMove → Record → Type 0
AllLegal rules [] t = Unit {0}
AllLegal rules (m ∷ ms) t = IsLegalEntry rules t m × AllLegal rules ms (settle rules m.prover m.settled t)

legal-by : (rules : Rules) (t : Record) (m : TextMove) (asked : ℕ × Question) (x y : Bool) → is_complete t ≡ false → next t ≡ Some asked →
    is_move_of m asked ≡ x → is_right rules asked.1.kind m.settled ≡ y →
    (if x then (if y then None else Some OtherReply) else Some NotAsked) ≡ None → IsLegalEntry rules t m
legal-by rules t m asked true true still is ex ey e =
    let parts : ((asked.0 == m.prover) ≡ true) × (same_qid asked.1.qid m.qid ≡ true) = and_parts (asked.0 == m.prover) (same_qid asked.1.qid m.qid) ex in
    record {
      question = asked.1;
      is_next = is ∙ ap (λ (p : ℕ). Some (p, asked.1)) (is-eqb asked.0 m.prover parts.0);
      numbered = parts.1;
      right = ey;
      goes_on = still;
    }
legal-by rules t m asked true false still is ex ey e = absurd (cc)
legal-by rules t m asked false y still is ex ey e = absurd (cc)

legal-at : (rules : Rules) (t : Record) (m : TextMove) (o : Option (ℕ × Question)) → is_complete t ≡ false → next t ≡ o → cause_by rules m o ≡ None → IsLegalEntry rules t m
legal-at rules t m None still is e = absurd (cc)
legal-at rules t m (Some asked) still is e = legal-by rules t m asked (is_move_of m asked) (is_right rules asked.1.kind m.settled) still is refl refl e

no-some : (c : Cause) → Some c ≡ None → ⊥
no-some c e = cc

pub legal-entry : (rules : Rules) (t : Record) (m : TextMove) → cause_of rules t m ≡ None → IsLegalEntry rules t m
unfolding cause_of
legal-entry rules t m e =
    elim (cases_Bool (is_complete t)) [
      | inl over ↦ absurd (no-some MovesAfterEnd (rw over at e))
      | inr still ↦ legal-at rules t m (next t) still refl (rw still at e)
    ]

-- what is confirmed

pub record IsConfirmed (rules : Rules) (ms : List TextMove) (said : Stated) (t : Record) (v : Verdict) : Type 0 where
  pub legal : AllLegal rules ms t
  pub complete : is_complete (after_moves rules ms t) ≡ true
  pub verdict : verdict_of rules (after_moves rules ms t) ≡ v
  pub stated : stated_of (after_moves rules ms t).claims v ≡ Some said

end-by : (rules : Rules) (line : ℕ) (said : Stated) (t : Record) (v : Verdict) (x y : Bool) → is_complete t ≡ x → is_stated t.claims (verdict_of rules t) said ≡ y →
    (if x then (if y then Confirmed (verdict_of rules t) else Refused line OtherVerdict) else Refused line MovesMissing) ≡ Confirmed v → IsConfirmed rules [] said t v
end-by rules line said t v true true ex ey e =
    let same : verdict_of rules t ≡ v = cc in
    record { legal = tt; complete = ex; verdict = same; stated = rw same at (this-is (stated_of t.claims (verdict_of rules t)) said ey) }
end-by rules line said t v true false ex ey e = absurd (cc)
end-by rules line said t v false y ex ey e = absurd (cc)

confirmed-by : (rules : Rules) (line : ℕ) (m : TextMove) (ms : List TextMove) (said : Stated) (t : Record) (v : Verdict) (o : Option Cause) → cause_of rules t m ≡ o →
    elim o [ Some cause ↦ Refused line cause | None ↦ audit_from rules (line + 1) ms said (settle rules m.prover m.settled t) ] ≡ Confirmed v →
    (audit_from rules (line + 1) ms said (settle rules m.prover m.settled t) ≡ Confirmed v → IsConfirmed rules ms said (settle rules m.prover m.settled t) v) →
    IsConfirmed rules (m ∷ ms) said t v
confirmed-by rules line m ms said t v (Some cause) is e rest = absurd (cc)
confirmed-by rules line m ms said t v None is e rest =
    let r : IsConfirmed rules ms said (settle rules m.prover m.settled t) v = rest e in
    record { legal = (legal-entry rules t m is, r.legal); complete = r.complete; verdict = r.verdict; stated = r.stated }

pub confirmed-played : (rules : Rules) (line : ℕ) (ms : List TextMove) (said : Stated) (t : Record) (v : Verdict) → audit_from rules line ms said t ≡ Confirmed v → IsConfirmed rules ms said t v
confirmed-played rules line [] said t v e = end-by rules line said t v (is_complete t) (is_stated t.claims (verdict_of rules t) said) refl refl e
confirmed-played rules line (m ∷ ms) said t v e =
    confirmed-by rules line m ms said t v (cause_of rules t m) refl e (confirmed-played rules (line + 1) ms said (settle rules m.prover m.settled t) v)

-- a line by posts

abbrev pub Reaches : Rules → MatchState → MatchState → Type 0
Reaches rules st u = (xs : List Post) × (after_posts rules xs st ≡ u)

after-both : (rules : Rules) (xs ys : List Post) (st : MatchState) → after_posts rules (xs ++ ys) st ≡ after_posts rules ys (after_posts rules xs st)
after-both rules [] ys st = refl
after-both rules (x ∷ xs) ys st = after-both rules xs ys (posted rules st x.prover x.qid x.answer)

pub reach-on : (rules : Rules) (st u w : MatchState) → Reaches rules st u → Reaches rules u w → Reaches rules st w
reach-on rules st u w (xs, e) (ys, f) = (xs ++ ys, after-both rules xs ys st ∙ (ap (after_posts rules ys) e ∙ f))

one-post : (rules : Rules) (p : ℕ) (q : Question) (m : Option Answer) (st u : MatchState) → 0 < p → posted rules st p q.qid m ≡ u → Reaches rules st u
one-post rules p q m st u some e = (record { prover = p; numbered = some; qid = q.qid; answer = m } ∷ [], e)

spend-posts : (rules : Rules) (t : Record) (p : ℕ) (q : Question) (left n : ℕ) → n + left ≡ rules.setup.patience → 0 < p → p ≤ rules.setup.provers → open_question rules t p ≡ Some q →
    Reaches rules (passed_on rules t p n) (fresh rules (settle rules p Spent t))
spend-posts rules t p q zero n e some few asked = one-post rules p q None _ _ some (pass_last rules t p n q some few asked (omega arith))
spend-posts rules t p q (suc left) n e some few asked =
    reach-on rules _ (passed_on rules t p (n + 1)) _
    (one-post rules p q None _ _ some (pass_more rules t p n q some few asked (omega arith)))
    (spend-posts rules t p q left (n + 1) (omega arith) some few asked)

pub fit-given : (rules : Rules) (q : Question) (a : Answer) → is_fit rules.ruling q.kind a ≡ true → judged rules.ruling q.kind a ≡ Given a
fit-given rules q a e = rw e refl

pub unfit-faulty : (rules : Rules) (q : Question) (a : Answer) → is_fit rules.ruling q.kind a ≡ false → judged rules.ruling q.kind a ≡ Faulty a
unfit-faulty rules q a e = rw e refl

pub not-true : (b : Bool) → not b ≡ true → b ≡ false
not-true true e = absurd (cc)
not-true false e = refl

pub settled-posts : (rules : Rules) (t : Record) (p : ℕ) (q : Question) (s : Settled) → is_right rules q.kind s ≡ true → 0 < p → p ≤ rules.setup.provers → open_question rules t p ≡ Some q →
    Reaches rules (fresh rules t) (fresh rules (settle rules p s t))
settled-posts rules t p q (Given a) right some few asked =
    one-post rules p q (Some a) _ _ some (answered_at_once rules t p q a asked ∙ ap (λ (s : Settled). fresh rules (settle rules p s t)) (fit-given rules q a right))
settled-posts rules t p q (Faulty a) right some few asked =
    one-post rules p q (Some a) _ _ some (answered_at_once rules t p q a asked ∙ ap (λ (s : Settled). fresh rules (settle rules p s t)) (unfit-faulty rules q a (not-true _ right)))
settled-posts rules t p q Spent right some few asked =
    let r : Reaches rules (passed_on rules t p 0) (fresh rules (settle rules p Spent t)) = spend-posts rules t p q rules.setup.patience 0 (omega arith) some few asked in
    (r.0, ap (after_posts rules r.0) (begin_passing rules t p) ∙ r.1)
