-- True lines are true moves, so the dispute theorem holds of a text that is confirmed.
use Rattle.std.proofs.Common.{◌≡◌, ℕ, zero, suc, ◌+◌, ◌-◌, ◌<◌, ◌≤◌, true, List, [], ◌∷◌, ◌++◌, Option, Some, None, refl, sym, ◌∙◌, ap, arith, subst, append_assoc}
use Rattle.std.specs.List.{All}
use Rattle.std.proofs.lemmas.List.Elements.{All-head, All-tail}
use Rattle.std.specs.Prelude.{slice_get}
use Rattle.rd_base.specs.declared.answer.Answer.{Answer}
use Rattle.rd_base.specs.declared.answer.Answer.TheVariants as answer
use Rattle.rd_base.specs.declared.claim.Claim.{Claim}
use Rattle.bisect_game.specs.declared.settled.Question.{Question}
use Rattle.bisect_game.specs.declared.settled.Settled.{Settled}
use Rattle.bisect_game.specs.declared.settled.Settled.TheVariants.{Given, Faulty, Spent}
use Rattle.bisect_game.specs.Rules.{Rules, ArePlayable}
use Rattle.bisect_game.specs.Truth.{Truth, IsTrueSettled}
use Rattle.tournament.specs.declared.reading.Verdict.{Verdict}
use Rattle.tournament.specs.declared.reading.Verdict.TheVariants as verdict
use Rattle.tournament.specs.Bracket.{Record, open_question, settle, nothing_settled, verdict_of}
use Rattle.tournament.specs.Moves.{MatchState, begun}
use Rattle.tournament.specs.Journals.{turns, RecordOfCase}
use Rattle.tournament.specs.Asked.{asked, AskedByTheCase}
use Rattle.tournament.specs.Posting.{posted, Post, after_posts, record_after}
use Rattle.tournament.specs.Theorem.{AreTrue, IsRightVerdict, VerdictIsRight}
use Rattle.tournament.specs.TrueMoves.{IsTruePost, MovesTruly, TrueMovesAreTrueAnswers}
use Rattle.transcript_text.specs.declared.text.TextMove.{TextMove}
use Rattle.transcript_text.specs.declared.text.Stated.{Stated}
use Rattle.transcript_text.specs.declared.text.Stated.TheVariants as stated
use Rattle.transcript_text.specs.MoveLists.{moves_of}
use Rattle.transcript_text.specs.StatedVerdict.{settled_at, given_claim, stated_claim, stated_of}
use Rattle.audit.specs.LineByLine.{IsOfProver, AreOfProvers, is_right, rules_of_head}
use Rattle.audit.specs.BetweenLines.{fresh, passed_on}
use Rattle.audit.specs.OwnMatch.{says_in, own_record}
use Rattle.audit.specs.TrueLines.{IsTrueLine, IsRightStated, ConfirmedTextIsRight}
use Rattle.audit.proofs.PassLemmas.{begin_passing, pass_more, pass_last, answered_at_once}
use Rattle.audit.proofs.NextLemmas.{next_is_open}
use Rattle.audit.proofs.LegalLemmas.{after_moves, IsLegalEntry, AllLegal, fit-given, unfit-faulty, not-true}
use Rattle.audit.proofs.GrowLemmas.{IsInOrder, order-nothing}
use Rattle.audit.proofs.ExactLemmas.{IsPlayedTo, play-on, play-none, fewer-moves, qid-is, IsPlayedLine, line-turns, nothing-moves, IsOwn, confirmed-own}

-- if a line is this prover's, it is given, and the true answer to its open question
abbrev IsTrueEntry : Rules → Truth → ℕ → Record → TextMove → Type 0
IsTrueEntry rules truth p t m = m.prover ≡ p → (q : Question) → open_question rules t p ≡ Some q → IsTrueSettled truth q.kind m.settled

abbrev AreTrueEntries : Rules → Truth → ℕ → List TextMove → Record → Type 0
AreTrueEntries rules truth p [] t = Unit {0}
AreTrueEntries rules truth p (m ∷ ms) t = IsTrueEntry rules truth p t m × AreTrueEntries rules truth p ms (settle rules m.prover m.settled t)

-- posts by which one state comes to another, and in which a prover moves truly
pub record ComesTruly (rules : Rules) (truth : Truth) (p : ℕ) (st u : MatchState) : Type 0 where
  pub posts : List Post
  pub comes : after_posts rules posts st ≡ u
  pub truly : MovesTruly rules truth p st posts

after-both : (rules : Rules) (xs ys : List Post) (st : MatchState) → after_posts rules (xs ++ ys) st ≡ after_posts rules ys (after_posts rules xs st)
after-both rules [] ys st = refl
after-both rules (x ∷ xs) ys st = after-both rules xs ys (posted rules st x.prover x.qid x.answer)

truly-both : (rules : Rules) (truth : Truth) (p : ℕ) (xs ys : List Post) (st : MatchState) → MovesTruly rules truth p st xs → MovesTruly rules truth p (after_posts rules xs st) ys → MovesTruly rules truth p st (xs ++ ys)
truly-both rules truth p [] ys st a b = b
truly-both rules truth p (x ∷ xs) ys st a b = (a.0, truly-both rules truth p xs ys (posted rules st x.prover x.qid x.answer) a.1 b)

come-on : (rules : Rules) (truth : Truth) (p : ℕ) (st u w : MatchState) → ComesTruly rules truth p st u → ComesTruly rules truth p u w → ComesTruly rules truth p st w
come-on rules truth p st u w a b = record {
  posts = a.posts ++ b.posts;
  comes = after-both rules a.posts b.posts st ∙ (ap (after_posts rules b.posts) a.comes ∙ b.comes);
  truly = truly-both rules truth p a.posts b.posts st a.truly (subst (λ (x : MatchState). MovesTruly rules truth p x b.posts) (sym a.comes) b.truly);
}

-- a post of a prover, true where it is this one
one-post : (rules : Rules) (truth : Truth) (p r : ℕ) (q : Question) (m : Option Answer) (st u : MatchState) (some : 0 < r) → posted rules st r q.qid m ≡ u →
    IsTruePost rules truth p st (record { prover = r; numbered = some; qid = q.qid; answer = m }) → ComesTruly rules truth p st u
one-post rules truth p r q m st u some e true_ = record { posts = record { prover = r; numbered = some; qid = q.qid; answer = m } ∷ []; comes = e; truly = (true_, tt) }

spend-posts : (rules : Rules) (truth : Truth) (t : Record) (p r : ℕ) (q : Question) (left n : ℕ) → (r ≡ p → ⊥) → n + left ≡ rules.setup.patience → 0 < r → r ≤ rules.setup.provers → open_question rules t r ≡ Some q →
    ComesTruly rules truth p (passed_on rules t r n) (fresh rules (settle rules r Spent t))
spend-posts rules truth t p r q zero n far e some few asked =
    one-post rules truth p r q None _ _ some (pass_last rules t r n q some few asked (omega arith)) (λ k same open_ numbered. absurd (far same))
spend-posts rules truth t p r q (suc left) n far e some few asked =
    come-on rules truth p _ (passed_on rules t r (n + 1)) _
    (one-post rules truth p r q None _ _ some (pass_more rules t r n q some few asked (omega arith)) (λ k same open_ numbered. absurd (far same)))
    (spend-posts rules truth t p r q left (n + 1) far (omega arith) some few asked)

settled-posts : (rules : Rules) (truth : Truth) (t : Record) (p : ℕ) (m : TextMove) (q : Question) (s : Settled) → m.settled ≡ s → IsTrueEntry rules truth p t m → is_right rules q.kind s ≡ true → 0 < m.prover → m.prover ≤ rules.setup.provers →
    open_question rules t m.prover ≡ Some q → ComesTruly rules truth p (fresh rules t) (fresh rules (settle rules m.prover s t))
settled-posts rules truth t p m q (Given a) is line right some few asked =
    one-post rules truth p m.prover q (Some a) _ _ some (answered_at_once rules t m.prover q a asked ∙ ap (λ (s : Settled). fresh rules (settle rules m.prover s t)) (fit-given rules q a right))
    (λ k same open_ numbered. rw is at (line same k open_))
settled-posts rules truth t p m q (Faulty a) is line right some few asked =
    one-post rules truth p m.prover q (Some a) _ _ some (answered_at_once rules t m.prover q a asked ∙ ap (λ (s : Settled). fresh rules (settle rules m.prover s t)) (unfit-faulty rules q a (not-true _ right)))
    (λ k same open_ numbered. absurd (rw is at (line same k open_)))
settled-posts rules truth t p m q Spent is line right some few asked =
    let far : m.prover ≡ p → ⊥ = λ same. rw is at (line same q (subst (λ (r : ℕ). open_question rules t r ≡ Some q) same asked)) in
    let c : ComesTruly rules truth p (passed_on rules t m.prover 0) (fresh rules (settle rules m.prover Spent t)) = spend-posts rules truth t p m.prover q rules.setup.patience 0 far (omega arith) some few asked in
    subst (λ (x : MatchState). ComesTruly rules truth p x (fresh rules (settle rules m.prover Spent t))) (sym (begin_passing rules t m.prover)) c

pub text-posts : (rules : Rules) (truth : Truth) (p : ℕ) (ms : List TextMove) (t : Record) → AreOfProvers rules.setup.provers ms → AllLegal rules ms t → AreTrueEntries rules truth p ms t →
    ComesTruly rules truth p (fresh rules t) (fresh rules (after_moves rules ms t))
text-posts rules truth p [] t of legal lines = record { posts = []; comes = refl; truly = tt }
text-posts rules truth p (m ∷ ms) t of legal lines =
    let here : IsOfProver rules.setup.provers m = All-head (IsOfProver rules.setup.provers) m ms of in
    come-on rules truth p _ (fresh rules (settle rules m.prover m.settled t)) _
    (settled-posts rules truth t p m legal.0.question m.settled refl lines.0 legal.0.right here.0 here.1 (next_is_open rules t m.prover legal.0.question legal.0.is_next))
    (text-posts rules truth p ms (settle rules m.prover m.settled t) (All-tail (IsOfProver rules.setup.provers) m ms of) legal.1 lines.1)

-- lines that are true of the text's own match are true one after another

asked-same : (rules : Rules) (t : Record) (p r : ℕ) (q k : Question) → open_question rules t r ≡ Some k → r ≡ p → open_question rules t p ≡ Some q → k ≡ q
asked-same rules t p r q k here same there = some-is k q (sym here ∙ (ap (open_question rules t) same ∙ there))
  where
    some-is : (k q : Question) → Some k ≡ Some q → k ≡ q
    some-is k q e = cc

asked-here : AskedByTheCase → (rules : Rules) (ms : List TextMove) (t : Record) (n p : ℕ) (q : Question) → ArePlayable rules → IsPlayedTo rules (says_in ms) (begun rules) (fresh rules t) n → 0 < p →
    open_question rules t p ≡ Some q → asked rules (own_record rules ms) p q.qid ≡ Some q.kind
asked-here law rules ms t n p q playable plays some open_ =
    let same : (turns rules (says_in ms) plays.moves (begun rules)).record_ ≡ t = ap (λ (st : MatchState). st.record_) plays.comes in
    law rules (says_in ms) plays.moves p q playable plays.legal some (rw same open_)

true-here : AskedByTheCase → (rules : Rules) (truth : Truth) (p : ℕ) (ms : List TextMove) (t : Record) (n : ℕ) (m : TextMove) → ArePlayable rules → 0 < p → IsPlayedTo rules (says_in ms) (begun rules) (fresh rules t) n →
    IsLegalEntry rules t m → IsTrueLine rules truth p ms m → IsTrueEntry rules truth p t m
true-here law rules truth p ms t n m playable some plays legal line same q open_ =
    let one : legal.question ≡ q = asked-same rules t p m.prover q legal.question (next_is_open rules t m.prover legal.question legal.is_next) same open_ in
    let number : q.qid ≡ m.qid = ap (λ (x : Question). x.qid) (sym one) ∙ qid-is legal.question.qid m.qid legal.numbered in
    line same q.kind (ap (asked rules (own_record rules ms) p) (sym number) ∙ asked-here law rules ms t n p q playable plays some open_)

true-entries : AskedByTheCase → (rules : Rules) (truth : Truth) (p : ℕ) (all done rest : List TextMove) (t : Record) → ArePlayable rules → 0 < p → done ++ rest ≡ all → moves_of t ≡ done → IsInOrder rules t →
    AreOfProvers rules.setup.provers rest → AllLegal rules rest t → IsPlayedTo rules (says_in all) (begun rules) (fresh rules t) 0 → All (IsTrueLine rules truth p all) rest → AreTrueEntries rules truth p rest t
true-entries law rules truth p all done [] t playable some whole is order of legal plays lines = tt
true-entries law rules truth p all done (m ∷ rest) t playable some whole is order of legal plays lines =
    let here : IsOfProver rules.setup.provers m = All-head (IsOfProver rules.setup.provers) m rest of in
    let l : IsPlayedLine rules all done t m = line-turns rules all done rest m t whole is order here legal.0 in
    let turned : IsPlayedTo rules (says_in all) (begun rules) (fresh rules (settle rules m.prover m.settled t)) 0 =
    fewer-moves rules (says_in all) _ _ (0 + 1) 0 (omega arith) (play-on rules (says_in all) _ (fresh rules t) _ 0 1 plays l.turned) in (
      true-here law rules truth p all t 0 m playable some plays legal.0 (All-head (IsTrueLine rules truth p all) m rest lines),
      true-entries law rules truth p all (done ++ m ∷ []) rest (settle rules m.prover m.settled t) playable some (append_assoc done (m ∷ []) rest ∙ whole) l.moves l.order
          (All-tail (IsOfProver rules.setup.provers) m rest of) legal.1 turned (All-tail (IsTrueLine rules truth p all) m rest lines),
    )

-- the stated line is right where the verdict is

claim-states : (claims : List (Option Settled)) (n : ℕ) (claim : Claim) (said : Stated) → slice_get claims (n - 1) ≡ Some (Some (Given (answer.Claim claim))) →
    stated_claim (given_claim (settled_at claims n)) ≡ Some said → said ≡ stated.Accept claim.ctl.status claim.output
claim-states claims zero claim said true_ e = absurd (cc)
claim-states claims (suc n) claim said true_ e =
    let z : suc n - 1 ≡ n = omega arith in
    let is : slice_get claims n ≡ Some (Some (Given (answer.Claim claim))) = rw z at true_ in
    let states : Some (stated.Accept claim.ctl.status claim.output) ≡ Some said = sym (ap (λ (o : Option (Option Settled)). stated_claim (given_claim o)) is) ∙ e in
    cc

right-stated : (rules : Rules) (truth : Truth) (ms : List TextMove) (v : Verdict) (said : Stated) → stated_of (own_record rules ms).claims v ≡ Some said → IsRightVerdict rules truth (own_record rules ms) v →
    IsRightStated rules truth ms said
right-stated rules truth ms (verdict.Accept n) said e right = rw (claim-states (own_record rules ms).claims n truth.claim said right e) (refl, refl)
right-stated rules truth ms verdict.NoneLeft said e right = absurd right
right-stated rules truth ms (verdict.Collision x y) said e right =
    let is : said ≡ stated.Collision x y = cc in
    rw is right

-- what the laws of a match say together
pub record AreLaws : Type 0 where
  pub of_case : RecordOfCase
  pub right : VerdictIsRight
  pub moves : TrueMovesAreTrueAnswers
  pub asked_ : AskedByTheCase

pub confirmed_text_is_right : AreLaws → ConfirmedTextIsRight
confirmed_text_is_right laws ruling truth text v p playable fair run some few of e lines =
    let rules : Rules = rules_of_head ruling text.head in
    let own : IsOwn rules text v = confirmed-own laws.of_case ruling text v playable of e in
    let entries : AreTrueEntries rules truth p text.moves (nothing_settled rules) =
    true-entries laws.asked_ rules truth p text.moves [] text.moves (nothing_settled rules) playable some refl (nothing-moves rules) (order-nothing rules) of own.confirmed.legal
    (play-none rules (says_in text.moves) (begun rules)) lines in
    let posts : ComesTruly rules truth p (begun rules) (fresh rules (after_moves rules text.moves (nothing_settled rules))) = text-posts rules truth p text.moves (nothing_settled rules) of own.confirmed.legal entries in
    let same : record_after rules posts.posts ≡ after_moves rules text.moves (nothing_settled rules) = ap (λ (st : MatchState). st.record_) posts.comes in
    let true_ : AreTrue rules truth p (record_after rules posts.posts) = laws.moves rules truth posts.posts p run some few posts.truly in
    let right : IsRightVerdict rules truth (record_after rules posts.posts) (verdict_of rules (record_after rules posts.posts)) =
    laws.right rules truth posts.posts p playable fair run some true_ (rw same own.confirmed.complete) in
    let now : IsRightVerdict rules truth (after_moves rules text.moves (nothing_settled rules)) v = rw (← own.confirmed.verdict) (rw same at right) in
    right-stated rules truth text.moves v text.stated (rw (← own.same) own.confirmed.stated) (rw own.same at now)
