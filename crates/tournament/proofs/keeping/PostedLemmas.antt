-- A match as it is kept.
use Rattle.std.proofs.Common.{◌≡◌, ◌↔◌, ℕ, zero, suc, ◌+◌, ◌-◌, ◌*◌, ◌<◌, ◌≤◌, ◌==◌, Bool, true, false, if◌then◌else◌, List, [], ◌∷◌, ◌++◌, length, slice_index, slice_index_or, slice_set, Option, Some, None, refl, ◌∙◌, ap, arith}
use Rattle.std.proofs.lemmas.Bool.Decides.{nat_tests}
use Rattle.rd_base.specs.declared.answer.Qid.{Qid}
use Rattle.bisect_game.specs.declared.settled.Settled.{Settled}
use Rattle.bisect_game.specs.Rules.{Rules, ArePlayable}
use Rattle.bisect_game.specs.Ruling.{Ruling, IsFair}
use Rattle.bisect_game.specs.Truth.{Truth, IsRun}
use Rattle.tournament.proofs.length.CountLemmas.{few_disputes}
use Rattle.tournament.proofs.PostLemmas.{IsSettled, settled-begun, after-last}
use Rattle.tournament.specs.Bracket.{Record, open_question, stage_opened, put, settle, nothing_settled, is_complete, verdict_of}
use Rattle.tournament.specs.Keeping.{Sheet, IsReached, IsMove, IsMatch}
use Rattle.tournament.specs.Moves.{MatchState, begun, passes_of, settled_by, moved}
use Rattle.rd_base.specs.Questions.{same_qid}
use Rattle.tournament.specs.Posting.{posted, posted_on, Post, after_posts, record_after, NobodyAskedIsOver}
use Rattle.bisect_game.specs.Rules.{rules_of}
use Rattle.tournament.specs.Rulings.{rulings_of, RulingsAreFew}
use Rattle.tournament.specs.FewPosts.{AsksSomebody, NeverStuck}
use Rattle.tournament.specs.Survivors.{HaveOneClaim, SurvivorsAgree}
use Rattle.tournament.specs.declared.reading.Verdict.TheVariants.{Accept}
use Rattle.tournament.specs.Theorem.{AreTrue, Stays, TruthfulStay, IsRightVerdict, VerdictIsRight, FewDisputes, AllShort, FewRounds}

-- a move on the open question is a post

same-number : (n : ℕ) → (n == n) ≡ true
same-number n = grind (arith, nat_tests)

same-qid : (a : Qid) → same_qid a a ≡ true
same-qid a = rw (same-number a.dispute, same-number a.round) refl

posted-is : (rules : Rules) (st : MatchState) (p : ℕ) (o : Option Settled) (m : IsMove rules st p o) → posted rules st p m.question.qid m.answer ≡ moved rules st p o
posted-is rules st p o m =
    ap (posted_on rules st p m.question.qid m.answer) m.asked
    ∙ (ap (λ (b : Bool). if b then moved rules st p (settled_by rules m.question (passes_of st p) m.answer) else st) (same-qid m.question.qid)
    ∙ ap (moved rules st p) m.settles)

after-posts-last : (rules : Rules) (xs : List Post) (x : Post) (st : MatchState) → after_posts rules (xs ++ x ∷ []) st ≡ posted rules (after_posts rules xs st) x.prover x.qid x.answer
after-posts-last rules [] x st = refl
after-posts-last rules (y ∷ xs) x st = after-posts-last rules xs x (posted rules st y.prover y.qid y.answer)

pub reached-move : (rules : Rules) (st : MatchState) (p : ℕ) (o : Option Settled) → 0 < p → IsReached rules st → IsMove rules st p o → IsReached rules (moved rules st p o)
reached-move rules st p o some r m = (
  r.0 ++ record { prover = p; numbered = some; qid = m.question.qid; answer = m.answer } ∷ [],
  after-posts-last rules r.0 (record { prover = p; numbered = some; qid = m.question.qid; answer = m.answer }) (begun rules)
      ∙ (ap (λ (u : MatchState). posted rules u p m.question.qid m.answer) r.1 ∙ posted-is rules st p o m),
)

-- a match that was reached has few disputes after one answer more

settled-few : (rules : Rules) (p : ℕ) (s : Settled) (t : Record) → 0 < rules.setup.provers → IsSettled rules t → length (settle rules p s t).disputes < rules.setup.provers
settled-few rules p s t some i =
    rw (after-last rules i.list p s (nothing_settled rules), i.comes) at (few_disputes rules (i.list ++ (p, s) ∷ []) some)

reached-settled : (rules : Rules) (st : MatchState) → IsReached rules st → IsSettled rules st.record_
reached-settled rules st r = rw r.1 at (settled-begun rules r.0)

pub settle-is : (rules : Rules) (p : ℕ) (s : Settled) (t : Record) → stage_opened rules (put rules p s t) ≡ settle rules p s t
unfolding settle
settle-is rules p s t = refl

pub put-few : (r : Ruling) (v : Sheet) (passed : List ℕ) (room p : ℕ) (s : Settled) → IsMatch r v passed room →
    length (stage_opened (rules_of r v.setup) (put (rules_of r v.setup) p s v.record_)).disputes < v.setup.provers
put-few r v passed room p s m =
    rw (settle-is (rules_of r v.setup) p s v.record_) (settled-few (rules_of r v.setup) p s v.record_ m.ranges.some (reached-settled (rules_of r v.setup) _ m.reached))

count-length : (xs : List ℕ) (k v : ℕ) → length (slice_set xs k v) ≡ length xs
count-length [] k v = refl
count-length (x ∷ xs) zero v = refl
count-length (x ∷ xs) (suc k) v = ap suc (count-length xs k v)

pub match-settled : (r : Ruling) (v w : Sheet) (passed : List ℕ) (room wide p : ℕ) (s : Settled) → 0 < p → IsMove (rules_of r v.setup) (record { record_ = v.record_; passed = passed }) p (Some s) →
    IsMatch r v passed room → w.setup ≡ v.setup → w.record_ ≡ stage_opened (rules_of r v.setup) (put (rules_of r v.setup) p s v.record_) → wide ≡ room → IsMatch r w (slice_set passed (p - 1) 0) wide
match-settled r v w passed room wide p s some move m wt fr ew =
    let wr : w.record_ ≡ settle (rules_of r v.setup) p s v.record_ = fr ∙ settle-is (rules_of r v.setup) p s v.record_ in
    record {
      ranges = rw wt m.ranges;
      counts = rw wt (count-length passed (p - 1) 0 ∙ m.counts);
      reached = rw (wt, wr) (reached-move (rules_of r v.setup) (record { record_ = v.record_; passed = passed }) p (Some s) some m.reached move);
      room_ = rw (wt, ew) m.room_;
    }

index-same : (xs : List ℕ) (k d : ℕ) → k < length xs → slice_index_or xs k d ≡ slice_index xs k
index-same [] k d lt = absurd (omega arith)
index-same (x ∷ xs) zero d lt = refl
index-same (x ∷ xs) (suc k) d lt = index-same xs k d (omega arith)

pub match-passed : (r : Ruling) (v : Sheet) (passed : List ℕ) (room p n : ℕ) → 0 < p → p ≤ v.setup.provers → IsMove (rules_of r v.setup) (record { record_ = v.record_; passed = passed }) p None →
    n ≡ slice_index_or passed (p - 1) n → IsMatch r v passed room → IsMatch r v (slice_set passed (p - 1) (n + 1)) room
match-passed r v passed room p n some few move is m =
    let same : n ≡ slice_index passed (p - 1) = is ∙ index-same passed (p - 1) n (omega (arith, some, few, m.counts)) in
    record {
      ranges = m.ranges;
      counts = count-length passed (p - 1) (n + 1) ∙ m.counts;
      reached = rw same (reached-move (rules_of r v.setup) (record { record_ = v.record_; passed = passed }) p None some m.reached move);
      room_ = m.room_;
    }

-- what the laws over lists of posts say of a match

match-playable : (r : Ruling) (s : Sheet) (passed : List ℕ) (room : ℕ) → IsMatch r s passed room → ArePlayable (rules_of r s.setup)
match-playable r s passed room m = record { some = m.ranges.some; parted = m.ranges.parted; few_parts = m.ranges.few_parts; steps = m.ranges.steps }

match-record : (r : Ruling) (s : Sheet) (passed : List ℕ) (room : ℕ) (m : IsMatch r s passed room) → record_after (rules_of r s.setup) m.reached.0 ≡ s.record_
match-record r s passed room m = ap (λ (st : MatchState). st.record_) m.reached.1

pub match-stays : TruthfulStay → (r : Ruling) (s : Sheet) (passed : List ℕ) (room : ℕ) → IsMatch r s passed room → IsFair r →
    (t : Truth) (p : ℕ) → IsRun (rules_of r s.setup) t → 0 < p → AreTrue (rules_of r s.setup) t p s.record_ → Stays (rules_of r s.setup) t p s.record_
match-stays stay r s passed room m fair t p run some true_ =
    let same : record_after (rules_of r s.setup) m.reached.0 ≡ s.record_ = match-record r s passed room m in
    rw same at (stay (rules_of r s.setup) t m.reached.0 p (match-playable r s passed room m) fair run some (rw (← same) at true_))

pub match-verdict : VerdictIsRight → (r : Ruling) (s : Sheet) (passed : List ℕ) (room : ℕ) → IsMatch r s passed room → IsFair r →
    (t : Truth) (p : ℕ) → IsRun (rules_of r s.setup) t → 0 < p → AreTrue (rules_of r s.setup) t p s.record_ → is_complete s.record_ ≡ true →
    IsRightVerdict (rules_of r s.setup) t s.record_ (verdict_of (rules_of r s.setup) s.record_)
match-verdict right r s passed room m fair t p run some true_ complete =
    let same : record_after (rules_of r s.setup) m.reached.0 ≡ s.record_ = match-record r s passed room m in
    rw same at (right (rules_of r s.setup) t m.reached.0 p (match-playable r s passed room m) fair run some (rw (← same) at true_) (rw (← same) at complete))

pub match-disputes : FewDisputes → (r : Ruling) (s : Sheet) (passed : List ℕ) (room : ℕ) → IsMatch r s passed room → length s.record_.disputes < s.setup.provers
match-disputes few r s passed room m = rw (match-record r s passed room m) at (few (rules_of r s.setup) m.reached.0 m.ranges.some)

pub match-rounds : FewRounds → (r : Ruling) (s : Sheet) (passed : List ℕ) (room : ℕ) → IsMatch r s passed room → AllShort (rules_of r s.setup) s.record_.disputes
match-rounds few r s passed room m = rw (match-record r s passed room m) at (few (rules_of r s.setup) m.reached.0 (match-playable r s passed room m))

pub match-rulings : RulingsAreFew → (r : Ruling) (s : Sheet) (passed : List ℕ) (room : ℕ) → IsMatch r s passed room → rulings_of s.record_.disputes ≤ 2 * (s.setup.provers - 1)
match-rulings few r s passed room m = rw (match-record r s passed room m) at (few (rules_of r s.setup) m.reached.0 (match-playable r s passed room m))

pub match-over : NobodyAskedIsOver → (r : Ruling) (s : Sheet) (passed : List ℕ) (room : ℕ) → IsMatch r s passed room →
    ((p : ℕ) → 0 < p → p ≤ s.setup.provers → open_question (rules_of r s.setup) s.record_ p ≡ None) ↔ (is_complete s.record_ ≡ true)
match-over over r s passed room m = rw (match-record r s passed room m) at (over (rules_of r s.setup) m.reached.0 (match-playable r s passed room m))

pub match-asks : NeverStuck → (r : Ruling) (s : Sheet) (passed : List ℕ) (room : ℕ) → IsMatch r s passed room →
    is_complete s.record_ ≡ false → AsksSomebody (rules_of r s.setup) s.record_
match-asks never r s passed room m open_ =
    let same : record_after (rules_of r s.setup) m.reached.0 ≡ s.record_ = match-record r s passed room m in
    rw same at (never (rules_of r s.setup) m.reached.0 (match-playable r s passed room m) (rw (← same) at open_))

pub match-agrees : SurvivorsAgree → (r : Ruling) (s : Sheet) (passed : List ℕ) (room : ℕ) → IsMatch r s passed room → IsFair r →
    (n : ℕ) → is_complete s.record_ ≡ true → verdict_of (rules_of r s.setup) s.record_ ≡ Accept n → HaveOneClaim s.record_ n
match-agrees agree r s passed room m fair n over accepted =
    let same : record_after (rules_of r s.setup) m.reached.0 ≡ s.record_ = match-record r s passed room m in
    rw same at (agree (rules_of r s.setup) m.reached.0 n (match-playable r s passed room m) fair (rw (← same) at over) (rw (← same) at accepted))
