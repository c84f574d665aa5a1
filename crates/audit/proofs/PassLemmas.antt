-- A line is played by posts: an answer by one, a spent question by one pass more than the patience.
use Rattle.std.proofs.Common.{◌≡◌, ℕ, zero, suc, ◌+◌, ◌-◌, ◌<◌, ◌≤◌, nat_lt, Bool, true, false, not, cond, if◌then◌else◌, List, [], ◌∷◌, replicate, slice_index, slice_set, Option, Some, None, refl, sym, ◌∙◌, ap, arith}
use Rattle.std.proofs.lemmas.Bool.Decides.{nat_tests}
use Rattle.rd_base.specs.declared.answer.Answer.{Answer}
use Rattle.rd_base.specs.declared.answer.Qid.{Qid}
use Rattle.bisect_game.specs.declared.settled.Question.{Question}
use Rattle.bisect_game.specs.declared.settled.Settled.{Settled}
use Rattle.bisect_game.specs.declared.settled.Settled.TheVariants.{Given, Faulty, Spent}
use Rattle.bisect_game.specs.Rules.{Rules, is_fit, judged}
use Rattle.tournament.specs.Bracket.{Record, open_question, settle}
use Rattle.tournament.specs.Moves.{MatchState, passes_of, settled_by, moved}
use Rattle.tournament.specs.declared.posting.Reply.{Reply}
use Rattle.tournament.specs.declared.posting.Reply.TheVariants.{Stale}
use Rattle.rd_base.specs.Questions.{same_qid}
use Rattle.tournament.specs.Posting.{posted, posted_on, reply_by, reply_on, reply_to}
use Rattle.audit.specs.BetweenLines.{fresh, passed_on, is_faulty}

-- counts of passes

pub set-none : (n k : ℕ) → slice_set {A = ℕ} (replicate n 0) k 0 ≡ replicate n 0
set-none zero k = refl
set-none (suc n) zero = refl
set-none (suc n) (suc k) = ap (λ (xs : List ℕ). 0 ∷ xs) (set-none n k)

set-again : (xs : List ℕ) (k a b : ℕ) → slice_set (slice_set xs k a) k b ≡ slice_set xs k b
set-again [] k a b = refl
set-again (x ∷ xs) zero a b = refl
set-again (x ∷ xs) (suc k) a b = ap (λ (ys : List ℕ). x ∷ ys) (set-again xs k a b)

at-set : (n k v : ℕ) → k < n → slice_index (slice_set (replicate n 0) k v) k ≡ v
at-set zero k v lt = absurd (omega arith)
at-set (suc n) zero v lt = refl
at-set (suc n) (suc k) v lt = at-set n k v (omega arith)

-- a post on the open question

pub same-number : (a : Qid) → same_qid a a ≡ true
same-number a = grind (arith, nat_tests)

pub posted-open : (rules : Rules) (st : MatchState) (p : ℕ) (q : Question) (m : Option Answer) → open_question rules st.record_ p ≡ Some q →
    posted rules st p q.qid m ≡ moved rules st p (settled_by rules q (passes_of st p) m)
posted-open rules st p q m asked =
    ap (posted_on rules st p q.qid m) asked
    ∙ ap (λ (b : Bool). cond b (moved rules st p (settled_by rules q (passes_of st p) m)) st) (same-number q.qid)

-- so many passes on it

pub begin_passing : (rules : Rules) (t : Record) (p : ℕ) → fresh rules t ≡ passed_on rules t p 0
begin_passing rules t p = ap (λ (xs : List ℕ). let st : MatchState = record { record_ = t; passed = xs } in st) (sym (set-none rules.setup.provers (p - 1)))

pub passes-there : (rules : Rules) (t : Record) (p n : ℕ) → 0 < p → p ≤ rules.setup.provers → passes_of (passed_on rules t p n) p ≡ n
passes-there rules t p n some few = at-set rules.setup.provers (p - 1) n (omega arith)

pub pass-counts : (rules : Rules) (q : Question) (n : ℕ) → n < rules.setup.patience → settled_by rules q n None ≡ None
pass-counts rules q n few = let e : nat_lt n rules.setup.patience ≡ true = grind (arith, nat_tests) in rw e refl

pub pass-spends : (rules : Rules) (q : Question) (n : ℕ) → n ≡ rules.setup.patience → settled_by rules q n None ≡ Some Spent
pass-spends rules q n all = let e : nat_lt n rules.setup.patience ≡ false = grind (arith, nat_tests) in rw e refl

pub moved-pass : (rules : Rules) (t : Record) (p n : ℕ) → 0 < p → p ≤ rules.setup.provers → moved rules (passed_on rules t p n) p None ≡ passed_on rules t p (n + 1)
moved-pass rules t p n some few =
    ap (λ (k : ℕ). let st : MatchState = record { record_ = t; passed = slice_set (slice_set (replicate rules.setup.provers 0) (p - 1) n) (p - 1) (k + 1) } in st) (passes-there rules t p n some few)
    ∙ ap (λ (xs : List ℕ). let st : MatchState = record { record_ = t; passed = xs } in st) (set-again (replicate rules.setup.provers 0) (p - 1) n (n + 1))

pub moved-settled : (rules : Rules) (t : Record) (p n : ℕ) (s : Settled) → moved rules (passed_on rules t p n) p (Some s) ≡ fresh rules (settle rules p s t)
moved-settled rules t p n s =
    ap (λ (xs : List ℕ). let st : MatchState = record { record_ = settle rules p s t; passed = xs } in st)
    (set-again (replicate rules.setup.provers 0) (p - 1) n 0 ∙ set-none rules.setup.provers (p - 1))

pub moved_more : (rules : Rules) (t : Record) (p n : ℕ) (q : Question) → 0 < p → p ≤ rules.setup.provers → n < rules.setup.patience →
    moved rules (passed_on rules t p n) p (settled_by rules q (passes_of (passed_on rules t p n) p) None) ≡ passed_on rules t p (n + 1)
moved_more rules t p n q some few more =
    ap (λ (k : ℕ). moved rules (passed_on rules t p n) p (settled_by rules q k None)) (passes-there rules t p n some few)
    ∙ (ap (moved rules (passed_on rules t p n) p) (pass-counts rules q n more) ∙ moved-pass rules t p n some few)

pub moved_last : (rules : Rules) (t : Record) (p n : ℕ) (q : Question) → 0 < p → p ≤ rules.setup.provers → n ≡ rules.setup.patience →
    moved rules (passed_on rules t p n) p (settled_by rules q (passes_of (passed_on rules t p n) p) None) ≡ fresh rules (settle rules p Spent t)
moved_last rules t p n q some few all =
    ap (λ (k : ℕ). moved rules (passed_on rules t p n) p (settled_by rules q k None)) (passes-there rules t p n some few)
    ∙ (ap (moved rules (passed_on rules t p n) p) (pass-spends rules q n all) ∙ moved-settled rules t p n Spent)

pub moved_once : (rules : Rules) (t : Record) (p : ℕ) (q : Question) (a : Answer) →
    moved rules (fresh rules t) p (settled_by rules q (passes_of (fresh rules t) p) (Some a)) ≡ fresh rules (settle rules p (judged rules.ruling q.kind a) t)
moved_once rules t p q a =
    ap (λ (xs : List ℕ). let st : MatchState = record { record_ = settle rules p (judged rules.ruling q.kind a) t; passed = xs } in st) (set-none rules.setup.provers (p - 1))

pub pass_more : (rules : Rules) (t : Record) (p n : ℕ) (q : Question) → 0 < p → p ≤ rules.setup.provers → open_question rules t p ≡ Some q → n < rules.setup.patience →
    posted rules (passed_on rules t p n) p q.qid None ≡ passed_on rules t p (n + 1)
pass_more rules t p n q some few asked more = posted-open rules (passed_on rules t p n) p q None asked ∙ moved_more rules t p n q some few more

pub pass_last : (rules : Rules) (t : Record) (p n : ℕ) (q : Question) → 0 < p → p ≤ rules.setup.provers → open_question rules t p ≡ Some q → n ≡ rules.setup.patience →
    posted rules (passed_on rules t p n) p q.qid None ≡ fresh rules (settle rules p Spent t)
pass_last rules t p n q some few asked all = posted-open rules (passed_on rules t p n) p q None asked ∙ moved_last rules t p n q some few all

pub answered_at_once : (rules : Rules) (t : Record) (p : ℕ) (q : Question) (a : Answer) → open_question rules t p ≡ Some q →
    posted rules (fresh rules t) p q.qid (Some a) ≡ fresh rules (settle rules p (judged rules.ruling q.kind a) t)
answered_at_once rules t p q a asked = posted-open rules (fresh rules t) p q (Some a) asked ∙ moved_once rules t p q a

-- the same, of rules that are equal and states that come to these

pub spend_more : (rules same : Rules) (st u : MatchState) (t : Record) (p n : ℕ) (q : Question) → same ≡ rules → st ≡ passed_on rules t p n → u ≡ posted same st p q.qid None →
    0 < p → p ≤ rules.setup.provers → open_question rules t p ≡ Some q → n < rules.setup.patience → u ≡ passed_on rules t p (n + 1)
spend_more rules same st u t p n q one is e some few asked more =
    e ∙ (ap (λ (r : Rules). posted r st p q.qid None) one ∙ (ap (λ (x : MatchState). posted rules x p q.qid None) is ∙ pass_more rules t p n q some few asked more))

pub spend_last : (rules same : Rules) (st u : MatchState) (t : Record) (p n : ℕ) (q : Question) → same ≡ rules → st ≡ passed_on rules t p n → u ≡ posted same st p q.qid None →
    0 < p → p ≤ rules.setup.provers → open_question rules t p ≡ Some q → n ≡ rules.setup.patience → u ≡ fresh rules (settle rules p Spent t)
spend_last rules same st u t p n q one is e some few asked all =
    e ∙ (ap (λ (r : Rules). posted r st p q.qid None) one ∙ (ap (λ (x : MatchState). posted rules x p q.qid None) is ∙ pass_last rules t p n q some few asked all))

pub answer_once : (rules : Rules) (st u : MatchState) (t : Record) (p : ℕ) (q : Question) (a : Answer) → st ≡ fresh rules t → u ≡ posted rules st p q.qid (Some a) →
    open_question rules t p ≡ Some q → u ≡ fresh rules (settle rules p (judged rules.ruling q.kind a) t)
answer_once rules st u t p q a is e asked = e ∙ (ap (λ (x : MatchState). posted rules x p q.qid (Some a)) is ∙ answered_at_once rules t p q a asked)

faulty-by : (a : Answer) (b : Bool) → is_faulty (reply_by (Some (if b then Given a else Faulty a))) ≡ not b
faulty-by a true = refl
faulty-by a false = refl

pub faulty_once : (rules : Rules) (st : MatchState) (t : Record) (p : ℕ) (q : Question) (a : Answer) (r : Reply) → st ≡ fresh rules t → r ≡ reply_to rules st p q.qid (Some a) →
    open_question rules t p ≡ Some q → is_faulty r ≡ not (is_fit rules.ruling q.kind a)
faulty_once rules st t p q a r is e asked =
    ap is_faulty (e ∙ (ap (λ (x : MatchState). reply_to rules x p q.qid (Some a)) is ∙ (ap (reply_on rules (fresh rules t) p q.qid (Some a)) asked
    ∙ ap (λ (b : Bool). cond b (reply_by (Some (judged rules.ruling q.kind a))) (Stale (Some q.qid))) (same-number q.qid))))
    ∙ faulty-by a (is_fit rules.ruling q.kind a)
