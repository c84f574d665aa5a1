-- A text is confirmed if and only if it is that of its own match.
use Rattle.std.proofs.Common.{◌≡◌, ℕ, zero, suc, ◌+◌, ◌<◌, ◌≤◌, Bool, true, false, ◌==◌, if◌then◌else◌, List, [], ◌∷◌, ◌++◌, length, replicate, Option, Some, None, inl, inr, refl, sym, ◌∙◌, ap, arith, subst, append-nil, append_assoc, length-append}
use Rattle.std.proofs.lemmas.Bool.{cases_Bool, and_parts}
use Rattle.std.proofs.lemmas.List.Elements.{All-head, All-tail}
use Rattle.rd_base.specs.declared.answer.Answer.{Answer}
use Rattle.rd_base.specs.declared.answer.Qid.{Qid}
use Rattle.bisect_game.specs.declared.settled.Question.{Question}
use Rattle.bisect_game.specs.declared.settled.Settled.{Settled}
use Rattle.bisect_game.specs.declared.settled.Settled.TheVariants.{Given, Faulty, Spent}
use Rattle.bisect_game.specs.Says.{Says}
use Rattle.bisect_game.specs.Ruling.{Ruling}
use Rattle.bisect_game.specs.Rules.{Rules, ArePlayable, is_fit, judged}
use Rattle.tournament.specs.declared.reading.Verdict.{Verdict}
use Rattle.tournament.specs.Bracket.{Record, open_question, settle, nothing_settled, is_complete, verdict_of, bracket}
use Rattle.tournament.specs.Moves.{MatchState, begun, passes_of, settled_by, moved}
use Rattle.tournament.specs.Journals.{turn, turn_on, turns, Legal, said, settled_after, answers_of, RecordOfCase}
use Rattle.rd_base.specs.Questions.{same_qid}
use Rattle.tournament.specs.Posting.{record_after, NobodyAskedIsOver}
use Rattle.tournament.specs.Length.{IsMost, most_entries, SpareIsEnough, ThereIsAMost}
use Rattle.transcript_text.specs.declared.text.TextMove.{TextMove}
use Rattle.transcript_text.specs.declared.text.Stated.{Stated}
use Rattle.transcript_text.specs.declared.text.FullText.{FullText}
use Rattle.transcript_text.specs.MoveLists.{moves_of}
use Rattle.transcript_text.specs.StatedVerdict.{stated_of}
use Rattle.audit.specs.declared.finding.Cause.{Cause}
use Rattle.audit.specs.declared.finding.Audit.TheVariants.{Confirmed, Refused}
use Rattle.audit.specs.NextEntry.{next}
use Rattle.audit.specs.LineByLine.{IsOfProver, AreOfProvers, is_right, is_move_of, cause_of, rules_of_head, is_this, end_of, audit_from, audited}
use Rattle.audit.specs.BetweenLines.{fresh, passed_on}
use Rattle.audit.specs.OwnMatch.{settled_by_lines, says_in, own_record, IsTextOf, ConfirmedExactly, CaseTextsAreConfirmed}
use Rattle.audit.proofs.PassLemmas.{same-number, begin_passing, passes-there, pass-counts, pass-spends, moved-pass, moved-settled, moved_more, moved_last, moved_once}
use Rattle.audit.proofs.NextLemmas.{next_is_open, nobody_next}
use Rattle.audit.proofs.StatedLemmas.{eqb-same, is-eqb, is-this}
use Rattle.audit.proofs.LegalLemmas.{after_moves, IsLegalEntry, AllLegal, IsConfirmed, confirmed-played, Reaches, reach-on, settled-posts, fit-given, unfit-faulty, not-true}
use Rattle.audit.proofs.OrderLemmas.{move_on, all-none, none-moves}
use Rattle.audit.proofs.GrowLemmas.{IsInOrder, order-nothing, IsLonger, grows, next-prover, AreOther, other-found, unseen}
use Rattle.tournament.specs.OfCases.{answer_held}

-- MOVES OF THE TEXT'S OWN PROVERS

-- at least so many legal moves come from one state to another
pub record IsPlayedTo (rules : Rules) (says : Says) (st u : MatchState) (n : ℕ) : Type 0 where
  pub moves : List ℕ
  pub many : n ≤ length moves
  pub legal : Legal rules says moves st
  pub comes : turns rules says moves st ≡ u

turns-both : (rules : Rules) (says : Says) (ps qs : List ℕ) (st : MatchState) → turns rules says (ps ++ qs) st ≡ turns rules says qs (turns rules says ps st)
turns-both rules says [] qs st = refl
turns-both rules says (p ∷ ps) qs st = turns-both rules says ps qs _

legal-both : (rules : Rules) (says : Says) (ps qs : List ℕ) (st : MatchState) → Legal rules says ps st → Legal rules says qs (turns rules says ps st) → Legal rules says (ps ++ qs) st
legal-both rules says [] qs st a b = b
legal-both rules says (p ∷ ps) qs st a b = (a.0, legal-both rules says ps qs _ a.1 b)

pub play-on : (rules : Rules) (says : Says) (st u w : MatchState) (n m : ℕ) → IsPlayedTo rules says st u n → IsPlayedTo rules says u w m → IsPlayedTo rules says st w (n + m)
play-on rules says st u w n m a b = record {
  moves = a.moves ++ b.moves;
  many = omega (arith, a.many, b.many, length-append a.moves b.moves);
  legal = legal-both rules says a.moves b.moves st a.legal (subst (Legal rules says b.moves) (sym a.comes) b.legal);
  comes = turns-both rules says a.moves b.moves st ∙ (ap (turns rules says b.moves) a.comes ∙ b.comes);
}

pub play-none : (rules : Rules) (says : Says) (st : MatchState) → IsPlayedTo rules says st st 0
play-none rules says st = record { moves = []; many = omega arith; legal = tt; comes = refl }

pub fewer-moves : (rules : Rules) (says : Says) (st u : MatchState) (n m : ℕ) → m ≤ n → IsPlayedTo rules says st u n → IsPlayedTo rules says st u m
fewer-moves rules says st u n m le a = record { moves = a.moves; many = omega (arith, a.many); legal = a.legal; comes = a.comes }

one-turn : (rules : Rules) (says : Says) (st u : MatchState) (p : ℕ) (q : Question) → 0 < p → open_question rules st.record_ p ≡ Some q → turn rules says st p q ≡ u → IsPlayedTo rules says st u 1
one-turn rules says st u p q some asked e = record {
  moves = p ∷ [];
  many = omega arith;
  legal = (record { question = q; numbered = some; asked = asked }, tt);
  comes = ap (turn_on rules says st p) asked ∙ e;
}

abbrev pub settled_as : Rules → Question → Option Answer → Settled
settled_as rules q (Some a) = judged rules.ruling q.kind a
settled_as rules q None = Spent

turn-is : (rules : Rules) (says : Says) (st : MatchState) (p : ℕ) (q : Question) (o : Option Answer) → ((n : ℕ) → says p q n ≡ o) →
    turn rules says st p q ≡ moved rules st p (settled_by rules q (passes_of st p) o)
turn-is rules says st p q o is = ap (λ (m : Option Answer). moved rules st p (settled_by rules q (passes_of st p) m)) (is (passes_of st p))

spend-turns : (rules : Rules) (says : Says) (t : Record) (p : ℕ) (q : Question) (left n : ℕ) → n + left ≡ rules.setup.patience → 0 < p → p ≤ rules.setup.provers → open_question rules t p ≡ Some q →
    ((n : ℕ) → says p q n ≡ None) → IsPlayedTo rules says (passed_on rules t p n) (fresh rules (settle rules p Spent t)) 1
spend-turns rules says t p q zero n e some few asked is =
    one-turn rules says _ _ p q some asked (turn-is rules says (passed_on rules t p n) p q None is ∙ moved_last rules t p n q some few (omega arith))
spend-turns rules says t p q (suc left) n e some few asked is =
    fewer-moves rules says _ _ (1 + 1) 1 (omega arith)
    (play-on rules says _ (passed_on rules t p (n + 1)) _ 1 1
    (one-turn rules says _ _ p q some asked (turn-is rules says (passed_on rules t p n) p q None is ∙ moved_more rules t p n q some few (omega arith)))
    (spend-turns rules says t p q left (n + 1) (omega arith) some few asked is))

settle-turns : (rules : Rules) (says : Says) (t : Record) (p : ℕ) (q : Question) (o : Option Answer) → 0 < p → p ≤ rules.setup.provers → open_question rules t p ≡ Some q →
    ((n : ℕ) → says p q n ≡ o) → IsPlayedTo rules says (fresh rules t) (fresh rules (settle rules p (settled_as rules q o) t)) 1
settle-turns rules says t p q (Some a) some few asked is =
    one-turn rules says _ _ p q some asked (turn-is rules says (fresh rules t) p q (Some a) is ∙ moved_once rules t p q a)
settle-turns rules says t p q None some few asked is =
    let r : IsPlayedTo rules says (passed_on rules t p 0) (fresh rules (settle rules p Spent t)) 1 = spend-turns rules says t p q rules.setup.patience 0 (omega arith) some few asked is in
    subst (λ (st : MatchState). IsPlayedTo rules says st (fresh rules (settle rules p Spent t)) 1) (sym (begin_passing rules t p)) r

-- CONFIRMED, SO IT IS THE TEXT OF ITS OWN MATCH

as-said : (rules : Rules) (q : Question) (s : Settled) → is_right rules q.kind s ≡ true → settled_as rules q (answer_held (Some s)) ≡ s
as-said rules q (Given a) right = fit-given rules q a right
as-said rules q (Faulty a) right = unfit-faulty rules q a (not-true _ right)
as-said rules q Spent right = refl

pub qid-is : (a b : Qid) → same_qid a b ≡ true → a ≡ b
qid-is a b e =
    let parts : ((a.dispute == b.dispute) ≡ true) × ((a.round == b.round) ≡ true) = and_parts (a.dispute == b.dispute) (a.round == b.round) e in
    ap (λ (d : ℕ). let x : Qid = record { dispute = d; round = a.round } in x) (is-eqb a.dispute b.dispute parts.0)
    ∙ ap (λ (r : ℕ). let x : Qid = record { dispute = b.dispute; round = r } in x) (is-eqb a.round b.round parts.1)

-- the line of a prover's question is found
found-line : (p : ℕ) (qid : Qid) (ms : List TextMove) (m : TextMove) (rest : List TextMove) → AreOther p qid ms → m.prover ≡ p → m.qid ≡ qid → settled_by_lines p qid (ms ++ m ∷ rest) ≡ Some m.settled
found-line p qid ms m rest other ep eq =
    other-found p qid ms (m ∷ rest) other
    ∙ (let a : (m.prover == p) ≡ true = rw ep (eqb-same p) in let b : same_qid m.qid qid ≡ true = rw eq (same-number qid) in rw (a, b) refl)

-- a line is played: by its prover's own moves, and the record has one line more
pub record IsPlayedLine (rules : Rules) (all done : List TextMove) (t : Record) (m : TextMove) : Type 0 where
  pub turned : IsPlayedTo rules (says_in all) (fresh rules t) (fresh rules (settle rules m.prover m.settled t)) 1
  pub moves : moves_of (settle rules m.prover m.settled t) ≡ done ++ m ∷ []
  pub order : IsInOrder rules (settle rules m.prover m.settled t)

pub line-turns : (rules : Rules) (all done rest : List TextMove) (m : TextMove) (t : Record) → done ++ m ∷ rest ≡ all → moves_of t ≡ done → IsInOrder rules t → IsOfProver rules.setup.provers m → IsLegalEntry rules t m →
    IsPlayedLine rules all done t m
line-turns rules all done rest m t whole is order here legal =
    let q : Question = legal.question in
    let same : q.qid ≡ m.qid = qid-is q.qid m.qid legal.numbered in
    let other : AreOther m.prover q.qid done = subst (AreOther m.prover q.qid) is (unseen rules t m.prover q order legal.is_next) in
    let line : settled_by_lines m.prover q.qid all ≡ Some m.settled = ap (settled_by_lines m.prover q.qid) (sym whole) ∙ found-line m.prover q.qid done m rest other refl (sym same) in
    let says : (n : ℕ) → says_in all m.prover q n ≡ answer_held (Some m.settled) = λ n. ap answer_held line in
    let s : settled_as rules q (answer_held (Some m.settled)) ≡ m.settled = as-said rules q m.settled legal.right in
    let turn_ : IsPlayedTo rules (says_in all) (fresh rules t) (fresh rules (settle rules m.prover (settled_as rules q (answer_held (Some m.settled))) t)) 1 =
    settle-turns rules (says_in all) t m.prover q (answer_held (Some m.settled)) here.0 here.1 (next_is_open rules t m.prover q legal.is_next) says in
    let longer : IsLonger rules t (settle rules m.prover m.settled t) (move_on m.prover q m.settled) = grows rules m.prover q m.settled t order legal.is_next in
    let entry : move_on m.prover q m.settled ≡ m = ap (λ (x : Qid). let y : TextMove = record { qid = x; prover = m.prover; settled = m.settled } in y) same in
    record {
      turned = subst (λ (x : Settled). IsPlayedTo rules (says_in all) (fresh rules t) (fresh rules (settle rules m.prover x t)) 1) s turn_;
      moves = longer.moves ∙ (ap (λ (ms : List TextMove). ms ++ move_on m.prover q m.settled ∷ []) is ∙ ap (λ (x : TextMove). done ++ x ∷ []) entry);
      order = longer.order;
    }

-- what the lines so far came to
pub record IsFront (rules : Rules) (all : List TextMove) (t u : Record) : Type 0 where
  pub plays : IsPlayedTo rules (says_in all) (fresh rules t) (fresh rules u) 0
  pub moves : moves_of u ≡ all

pub text-turns : (rules : Rules) (all done rest : List TextMove) (t : Record) → done ++ rest ≡ all → moves_of t ≡ done → IsInOrder rules t → AreOfProvers rules.setup.provers rest → AllLegal rules rest t →
    IsFront rules all t (after_moves rules rest t)
text-turns rules all done [] t whole is order of legal = record { plays = play-none rules (says_in all) (fresh rules t); moves = is ∙ (sym (append-nil done) ∙ whole) }
text-turns rules all done (m ∷ rest) t whole is order of legal =
    let here : IsOfProver rules.setup.provers m = All-head (IsOfProver rules.setup.provers) m rest of in
    let l : IsPlayedLine rules all done t m = line-turns rules all done rest m t whole is order here legal.0 in
    let further : IsFront rules all (settle rules m.prover m.settled t) (after_moves rules rest (settle rules m.prover m.settled t)) =
    text-turns rules all (done ++ m ∷ []) rest (settle rules m.prover m.settled t) (append_assoc done (m ∷ []) rest ∙ whole) l.moves l.order (All-tail (IsOfProver rules.setup.provers) m rest of) legal.1 in
    record {
      plays = fewer-moves rules (says_in all) _ _ (1 + 0) 0 (omega arith) (play-on rules (says_in all) _ (fresh rules (settle rules m.prover m.settled t)) _ 1 0 l.turned further.plays);
      moves = further.moves;
    }

pub nothing-moves : (rules : Rules) → moves_of (nothing_settled rules) ≡ []
nothing-moves rules = append-nil _ ∙ none-moves 1 (replicate rules.setup.provers None) (all-none rules.setup.provers)

case-record : RecordOfCase → (rules : Rules) (ms : List TextMove) (t : Record) (n : ℕ) → ArePlayable rules → IsPlayedTo rules (says_in ms) (begun rules) (fresh rules t) n → is_complete t ≡ true → t ≡ own_record rules ms
case-record law rules ms t n playable plays complete =
    let same : (turns rules (says_in ms) plays.moves (begun rules)).record_ ≡ t = ap (λ (st : MatchState). st.record_) plays.comes in
    sym same ∙ law rules (says_in ms) plays.moves playable plays.legal (rw same complete)

-- what is confirmed comes to the record of the text's own match, of which it is the text
pub record IsOwn (rules : Rules) (text : FullText) (v : Verdict) : Type 0 where
  pub confirmed : IsConfirmed rules text.moves text.stated (nothing_settled rules) v
  pub moves : moves_of (after_moves rules text.moves (nothing_settled rules)) ≡ text.moves
  pub same : after_moves rules text.moves (nothing_settled rules) ≡ own_record rules text.moves

pub confirmed-own : RecordOfCase → (ruling : Ruling) (text : FullText) (v : Verdict) → let rules : Rules = rules_of_head ruling text.head in
    ArePlayable rules → AreOfProvers rules.setup.provers text.moves → audited ruling text ≡ Confirmed v → IsOwn rules text v
unfolding audited
confirmed-own law ruling text v playable of e =
    let rules : Rules = rules_of_head ruling text.head in
    let c : IsConfirmed rules text.moves text.stated (nothing_settled rules) v = confirmed-played rules 2 text.moves text.stated (nothing_settled rules) v e in
    let front : IsFront rules text.moves (nothing_settled rules) (after_moves rules text.moves (nothing_settled rules)) =
    text-turns rules text.moves [] text.moves (nothing_settled rules) refl (nothing-moves rules) (order-nothing rules) of c.legal in
    record { confirmed = c; moves = front.moves; same = case-record law rules text.moves _ 0 playable front.plays c.complete }

pub confirmed-text : RecordOfCase → (ruling : Ruling) (text : FullText) (v : Verdict) → let rules : Rules = rules_of_head ruling text.head in
    ArePlayable rules → AreOfProvers rules.setup.provers text.moves → audited ruling text ≡ Confirmed v → IsTextOf rules text v
confirmed-text law ruling text v playable of e =
    let o : IsOwn (rules_of_head ruling text.head) text v = confirmed-own law ruling text v playable of e in
    record {
      moves = rw (← o.same) o.moves;
      complete = rw (← o.same) o.confirmed.complete;
      verdict = rw (← o.same) o.confirmed.verdict;
      stated = rw (← o.same) o.confirmed.stated;
    }

-- A MATCH IN THE ORDER OF ITS TEXT, whatever its provers say

right-as : (rules : Rules) (q : Question) (a : Answer) (b : Bool) → is_fit rules.ruling q.kind a ≡ b → is_right rules q.kind (if b then Given a else Faulty a) ≡ true
right-as rules q a true e = e
right-as rules q a false e = rw e refl

judged-right : (rules : Rules) (q : Question) (a : Answer) → is_right rules q.kind (judged rules.ruling q.kind a) ≡ true
judged-right rules q a = right-as rules q a (is_fit rules.ruling q.kind a) refl

said-right : (rules : Rules) (q : Question) (o : Option Answer) (s : Settled) → is_right rules q.kind s ≡ true → is_right rules q.kind (said rules q o s) ≡ true
said-right rules q (Some a) s e = judged-right rules q a
said-right rules q None s e = e

after-right : (rules : Rules) (says : Says) (p : ℕ) (q : Question) (left n : ℕ) → is_right rules q.kind (settled_after rules says p q left n) ≡ true
unfolding settled_after
after-right rules says p q zero n = said-right rules q (says p q n) Spent refl
after-right rules says p q (suc left) n = said-right rules q (says p q n) (settled_after rules says p q left (n + 1)) (after-right rules says p q left (n + 1))

turn-there : (rules : Rules) (says : Says) (t : Record) (p n : ℕ) (q : Question) (o : Option Answer) → 0 < p → p ≤ rules.setup.provers → says p q n ≡ o →
    turn rules says (passed_on rules t p n) p q ≡ moved rules (passed_on rules t p n) p (settled_by rules q n o)
turn-there rules says t p n q o some few is =
    ap (λ (k : ℕ). moved rules (passed_on rules t p n) p (settled_by rules q k (says p q k))) (passes-there rules t p n some few)
    ∙ ap (λ (m : Option Answer). moved rules (passed_on rules t p n) p (settled_by rules q n m)) is

-- the moves of a prover on its question, until it is settled
abbrev SettlesTo : Rules → Says → Record → ℕ → ℕ → Settled → Type 0
SettlesTo rules says t p n s = IsPlayedTo rules says (passed_on rules t p n) (fresh rules (settle rules p s t)) 1

move-last : (rules : Rules) (says : Says) (t : Record) (p n : ℕ) (q : Question) (o : Option Answer) → 0 < p → p ≤ rules.setup.provers → open_question rules t p ≡ Some q → says p q n ≡ o → n ≡ rules.setup.patience →
    SettlesTo rules says t p n (said rules q o Spent)
move-last rules says t p n q (Some a) some few asked is all =
    one-turn rules says _ _ p q some asked (turn-there rules says t p n q (Some a) some few is ∙ moved-settled rules t p n (judged rules.ruling q.kind a))
move-last rules says t p n q None some few asked is all =
    one-turn rules says _ _ p q some asked (turn-there rules says t p n q None some few is ∙ (ap (moved rules (passed_on rules t p n) p) (pass-spends rules q n all) ∙ moved-settled rules t p n Spent))

move-more : (rules : Rules) (says : Says) (t : Record) (p n : ℕ) (q : Question) (o : Option Answer) (s : Settled) → 0 < p → p ≤ rules.setup.provers → open_question rules t p ≡ Some q → says p q n ≡ o → n < rules.setup.patience →
    SettlesTo rules says t p (n + 1) s → SettlesTo rules says t p n (said rules q o s)
move-more rules says t p n q (Some a) s some few asked is more further =
    one-turn rules says _ _ p q some asked (turn-there rules says t p n q (Some a) some few is ∙ moved-settled rules t p n (judged rules.ruling q.kind a))
move-more rules says t p n q None s some few asked is more further =
    fewer-moves rules says _ _ (1 + 1) 1 (omega arith)
    (play-on rules says _ (passed_on rules t p (n + 1)) _ 1 1
    (one-turn rules says _ _ p q some asked (turn-there rules says t p n q None some few is ∙ (ap (moved rules (passed_on rules t p n) p) (pass-counts rules q n more) ∙ moved-pass rules t p n some few)))
    further)

moves-until : (rules : Rules) (says : Says) (t : Record) (p : ℕ) (q : Question) (left n : ℕ) → n + left ≡ rules.setup.patience → 0 < p → p ≤ rules.setup.provers → open_question rules t p ≡ Some q →
    SettlesTo rules says t p n (settled_after rules says p q left n)
unfolding settled_after
moves-until rules says t p q zero n e some few asked = move-last rules says t p n q (says p q n) some few asked refl (omega arith)
moves-until rules says t p q (suc left) n e some few asked =
    move-more rules says t p n q (says p q n) (settled_after rules says p q left (n + 1)) some few asked refl (omega arith)
    (moves-until rules says t p q left (n + 1) (omega arith) some few asked)

-- the lines that are left, in their order, of the match whose provers say this
pub record IsDriven (rules : Rules) (says : Says) (t : Record) : Type 0 where
  pub rest : List TextMove
  pub legal : AllLegal rules rest t
  pub complete : is_complete (after_moves rules rest t) ≡ true
  pub moves : moves_of (after_moves rules rest t) ≡ moves_of t ++ rest
  pub plays : IsPlayedTo rules says (fresh rules t) (fresh rules (after_moves rules rest t)) 0
  pub posts : Reaches rules (fresh rules t) (fresh rules (after_moves rules rest t))

-- what holds on the way
pub record IsOnWay (rules : Rules) (says : Says) (t : Record) (n : ℕ) : Type 0 where
  pub plays : IsPlayedTo rules says (begun rules) (fresh rules t) n
  pub posts : Reaches rules (begun rules) (fresh rules t)
  pub order : IsInOrder rules t

somebody-next : NobodyAskedIsOver → (rules : Rules) (t : Record) → ArePlayable rules → Reaches rules (begun rules) (fresh rules t) → is_complete t ≡ false → next t ≡ None → ⊥
somebody-next over rules t playable posts still none =
    let same : record_after rules posts.0 ≡ t = ap (λ (st : MatchState). st.record_) posts.1 in
    let done : is_complete (record_after rules posts.0) ≡ true = (over rules posts.0 playable).0 (λ p some few. rw same (nobody_next rules t p none)) in
    let no : true ≡ false = sym (rw same at done) ∙ still in
    cc

drive-one : (rules : Rules) (says : Says) (n : ℕ) (t : Record) (p : ℕ) (q : Question) → IsOnWay rules says t n → is_complete t ≡ false → next t ≡ Some (p, q) →
    ((u : Record) → IsOnWay rules says u (n + 1) → IsDriven rules says u) → IsDriven rules says t
drive-one rules says n t p q way still is further =
    let s : Settled = settled_after rules says p q rules.setup.patience 0 in
    let prover : (0 < p) × (p ≤ rules.setup.provers) = next-prover rules t p q way.order is in
    let asked : open_question rules t p ≡ Some q = next_is_open rules t p q is in
    let until : IsPlayedTo rules says (passed_on rules t p 0) (fresh rules (settle rules p s t)) 1 = moves-until rules says t p q rules.setup.patience 0 (omega arith) prover.0 prover.1 asked in
    let turned : IsPlayedTo rules says (fresh rules t) (fresh rules (settle rules p s t)) 1 = subst (λ (st : MatchState). IsPlayedTo rules says st (fresh rules (settle rules p s t)) 1) (sym (begin_passing rules t p)) until in
    let right : is_right rules q.kind s ≡ true = after-right rules says p q rules.setup.patience 0 in
    let posted_ : Reaches rules (fresh rules t) (fresh rules (settle rules p s t)) = settled-posts rules t p q s right prover.0 prover.1 asked in
    let longer : IsLonger rules t (settle rules p s t) (move_on p q s) = grows rules p q s t way.order is in
    let d : IsDriven rules says (settle rules p s t) = further (settle rules p s t) (record {
      plays = play-on rules says (begun rules) (fresh rules t) _ n 1 way.plays turned;
      posts = reach-on rules (begun rules) (fresh rules t) _ way.posts posted_;
      order = longer.order;
    }) in
    record {
      rest = move_on p q s ∷ d.rest;
      legal = (record { question = q; is_next = is; numbered = same-number q.qid; right = right; goes_on = still }, d.legal);
      complete = d.complete;
      moves = d.moves ∙ (ap (λ (xs : List TextMove). xs ++ d.rest) longer.moves ∙ append_assoc (moves_of t) (move_on p q s ∷ []) d.rest);
      plays = fewer-moves rules says _ _ (1 + 0) 0 (omega arith) (play-on rules says _ (fresh rules (settle rules p s t)) _ 1 0 turned d.plays);
      posts = reach-on rules _ (fresh rules (settle rules p s t)) _ posted_ d.posts;
    }

drive-by : NobodyAskedIsOver → (rules : Rules) (says : Says) (n : ℕ) (t : Record) (o : Option (ℕ × Question)) → ArePlayable rules → IsOnWay rules says t n → is_complete t ≡ false → next t ≡ o →
    ((u : Record) → IsOnWay rules says u (n + 1) → IsDriven rules says u) → IsDriven rules says t
drive-by over rules says n t None playable way still is further = absurd (somebody-next over rules t playable way.posts still is)
drive-by over rules says n t (Some asked) playable way still is further = drive-one rules says n t asked.0 asked.1 way still is further

drive : SpareIsEnough → NobodyAskedIsOver → (rules : Rules) (says : Says) (k : ℕ) → ArePlayable rules → IsMost rules.setup.fan rules.setup.bound k →
    (fuel n : ℕ) (t : Record) → most_entries rules.setup k < n + fuel → IsOnWay rules says t n → IsDriven rules says t
drive enough over rules says k playable most zero n t spare way =
    absurd (omega (arith, enough rules says way.plays.moves k playable most way.plays.legal, way.plays.many, spare))
drive enough over rules says k playable most (suc fuel) n t spare way =
    elim (cases_Bool (is_complete t)) [
      | inl done ↦ record { rest = []; legal = tt; complete = done; moves = sym (append-nil (moves_of t)); plays = play-none rules says (fresh rules t); posts = ([], refl) }
      | inr still ↦
          drive-by over rules says n t (next t) playable way still refl
          (λ u further. drive enough over rules says k playable most fuel (n + 1) u (omega (arith, spare)) further)
    ]

-- legal lines are audited to the end

legal-cause : (rules : Rules) (t : Record) (m : TextMove) → IsLegalEntry rules t m → cause_of rules t m ≡ None
unfolding cause_of
legal-cause rules t m l =
    let mine : is_move_of m (m.prover, l.question) ≡ true = rw (eqb-same m.prover, l.numbered) refl in
    rw (l.goes_on, l.is_next, mine, l.right) refl

legal-audits : (rules : Rules) (line : ℕ) (ms : List TextMove) (said : Stated) (t : Record) → AllLegal rules ms t → (n : ℕ) × (audit_from rules line ms said t ≡ end_of rules n said (after_moves rules ms t))
legal-audits rules line [] said t l = (line, refl)
legal-audits rules line (m ∷ ms) said t l =
    let r : (n : ℕ) × (audit_from rules (line + 1) ms said (settle rules m.prover m.settled t) ≡ end_of rules n said (after_moves rules ms (settle rules m.prover m.settled t))) =
    legal-audits rules (line + 1) ms said (settle rules m.prover m.settled t) l.1 in
    (r.0, ap (λ (o : Option Cause). elim o [ Some cause ↦ Refused line cause | None ↦ audit_from rules (line + 1) ms said (settle rules m.prover m.settled t) ]) (legal-cause rules t m l.0) ∙ r.1)

ends-confirmed : (rules : Rules) (n : ℕ) (said : Stated) (t : Record) (v : Verdict) → is_complete t ≡ true → verdict_of rules t ≡ v → stated_of t.claims v ≡ Some said → end_of rules n said t ≡ Confirmed v
ends-confirmed rules n said t v complete is said_so =
    let s : is_this (stated_of t.claims (verdict_of rules t)) said ≡ true = is-this (stated_of t.claims (verdict_of rules t)) said (rw is said_so) in
    rw (complete, s) (ap Confirmed is)

-- THE FULL TEXT OF A CASE IS CONFIRMED

record-of-case : RecordOfCase → (rules : Rules) (says : Says) (t : Record) (n : ℕ) → ArePlayable rules → IsPlayedTo rules says (begun rules) (fresh rules t) n → is_complete t ≡ true → t ≡ bracket rules (answers_of rules says)
record-of-case law rules says t n playable plays complete =
    let same : (turns rules says plays.moves (begun rules)).record_ ≡ t = ap (λ (st : MatchState). st.record_) plays.comes in
    sym same ∙ law rules says plays.moves playable plays.legal (rw same complete)

-- the lines of a case in their order, and the record to which they come
pub record IsCaseDriven (rules : Rules) (says : Says) : Type 0 where
  pub driven : IsDriven rules says (nothing_settled rules)
  pub same : after_moves rules driven.rest (nothing_settled rules) ≡ bracket rules (answers_of rules says)

pub case-driven : RecordOfCase → SpareIsEnough → ThereIsAMost → NobodyAskedIsOver → (rules : Rules) (says : Says) → ArePlayable rules → IsCaseDriven rules says
case-driven of_case enough most over rules says playable =
    let k : (k : ℕ) × IsMost rules.setup.fan rules.setup.bound k = most rules.setup.fan rules.setup.bound playable.parted playable.steps in
    let d : IsDriven rules says (nothing_settled rules) = drive enough over rules says k.0 playable k.1 (suc (most_entries rules.setup k.0)) 0 (nothing_settled rules) (omega arith)
    (record { plays = play-none rules says (begun rules); posts = ([], refl); order = order-nothing rules }) in
    record { driven = d; same = record-of-case of_case rules says _ 0 playable d.plays d.complete }

pub case-confirmed : RecordOfCase → SpareIsEnough → ThereIsAMost → NobodyAskedIsOver → CaseTextsAreConfirmed
unfolding audited
case-confirmed of_case enough most over ruling says text playable moves stated =
    let rules : Rules = rules_of_head ruling text.head in
    let c : IsCaseDriven rules says = case-driven of_case enough most over rules says playable in
    let own : c.driven.rest ≡ text.moves = sym (ap (λ (xs : List TextMove). xs ++ c.driven.rest) (nothing-moves rules)) ∙ (sym c.driven.moves ∙ (ap moves_of c.same ∙ sym moves)) in
    let legal : AllLegal rules text.moves (nothing_settled rules) = subst (λ (xs : List TextMove). AllLegal rules xs (nothing_settled rules)) own c.driven.legal in
    let at : after_moves rules text.moves (nothing_settled rules) ≡ bracket rules (answers_of rules says) = ap (λ (xs : List TextMove). after_moves rules xs (nothing_settled rules)) (sym own) ∙ c.same in
    let complete : is_complete (bracket rules (answers_of rules says)) ≡ true = rw c.same at c.driven.complete in
    let n = legal-audits rules 2 text.moves text.stated (nothing_settled rules) legal in
    ◌∙◌ {b = end_of rules n.0 text.stated (after_moves rules text.moves (nothing_settled rules))} n.1 (ends-confirmed rules n.0 text.stated (after_moves rules text.moves (nothing_settled rules)) (verdict_of rules (bracket rules (answers_of rules says))) (rw at complete) (rw at refl) (rw at stated))

own-confirmed : RecordOfCase → SpareIsEnough → ThereIsAMost → NobodyAskedIsOver → (ruling : Ruling) (text : FullText) (v : Verdict) → let rules : Rules = rules_of_head ruling text.head in
    ArePlayable rules → IsTextOf rules text v → audited ruling text ≡ Confirmed v
own-confirmed of_case enough most over ruling text v playable own =
    case-confirmed of_case enough most over ruling (says_in text.moves) text playable (sym own.moves) (rw own.verdict own.stated) ∙ ap Confirmed own.verdict

pub confirmed_exactly : RecordOfCase → SpareIsEnough → ThereIsAMost → NobodyAskedIsOver → ConfirmedExactly
confirmed_exactly of_case enough most over ruling text v playable of =
    (confirmed-text of_case ruling text v playable of, own-confirmed of_case enough most over ruling text v playable)
