-- To believe: how long a match is, over lists of posts by anybody and with any contents. Few posts aren't stale, a match that isn't over asks
-- somebody, and so the passes of those who are asked end every match.
use Rattle.std.specs.Prelude.{◌≡◌, ℕ, ◌+◌, ◌-◌, ◌*◌, ◌<◌, ◌≤◌, true, false, not, ◌&&◌, ◌==◌, List, [], ◌∷◌, length, Option, Some, if◌then◌else◌}
use Rattle.rd_base.specs.declared.answer.Answer.{Answer}
use Rattle.bisect_game.specs.declared.settled.Question.{Question}
use Rattle.bisect_game.specs.Rules.{Rules, ArePlayable}
use Rattle.bisect_game.specs.Bisection.{Bisection}
use Rattle.tournament.specs.Bracket.{Record, last_stage, open_question, is_complete}
use Rattle.tournament.specs.Length.{IsMost, most_entries}
use Rattle.tournament.specs.Moves.{MatchState, begun}
use Rattle.tournament.specs.OpenDisputes.{one_if, is_side}
use Rattle.tournament.specs.Posting.{Post, posted, reply_to, is_stale, record_after}

-- POSTS: one that isn't stale has an effect

-- how many of these posts, from this state on, aren't stale
abbrev pub effective_posts : Rules → List Post → MatchState → ℕ
effective_posts rules [] st = 0
effective_posts rules (x ∷ xs) st =
    one_if (not (is_stale (reply_to rules st x.prover x.qid x.answer))) + effective_posts rules xs (posted rules st x.prover x.qid x.answer)

-- how many of those of one prover aren't
abbrev pub effective_posts_of : Rules → ℕ → List Post → MatchState → ℕ
effective_posts_of rules p [] st = 0
effective_posts_of rules p (x ∷ xs) st =
    one_if ((x.prover == p) && not (is_stale (reply_to rules st x.prover x.qid x.answer))) + effective_posts_of rules p xs (posted rules st x.prover x.qid x.answer)

-- of all m provers together, with the patience P, at most (P + 1) * (m + 2 * (m - 1) * (k + 1)) have an effect, for a most number k of
-- bisection rounds
abbrev pub FewPosts : Type 0
FewPosts =
    (rules : Rules) (xs : List Post) (k : ℕ) → ArePlayable rules → IsMost rules.setup.fan rules.setup.bound k →
    effective_posts rules xs (begun rules) ≤ most_entries rules.setup k

-- and of each prover at most (P + 1) * (1 + (m - 1) * (k + 1))
abbrev pub FewPostsOfEach : Type 0
FewPostsOfEach =
    (rules : Rules) (xs : List Post) (k p : ℕ) → ArePlayable rules → IsMost rules.setup.fan rules.setup.bound k → 0 < p →
    effective_posts_of rules p xs (begun rules) ≤ (rules.setup.patience + 1) * (1 + (rules.setup.provers - 1) * (k + 1))

-- QUESTIONS: a prover is asked for its claim, and once in each round of its disputes

abbrev pub questions_among : ℕ → List Bisection → ℕ
questions_among p [] = 0
questions_among p (d ∷ ds) = (if is_side p d then length d.past + 1 else 0) + questions_among p ds

abbrev pub questions_of : ℕ → Record → ℕ
questions_of p r = 1 + questions_among p r.disputes

-- in how many disputes a prover is a side
abbrev pub disputes_among : ℕ → List Bisection → ℕ
disputes_among p [] = 0
disputes_among p (d ∷ ds) = one_if (is_side p d) + disputes_among p ds

abbrev pub disputes_played : ℕ → Record → ℕ
disputes_played p r = disputes_among p r.disputes

-- they are at most 1 + (m - 1) * (k + 1) in all
abbrev pub FewQuestions : Type 0
FewQuestions =
    (rules : Rules) (xs : List Post) (k p : ℕ) → ArePlayable rules → IsMost rules.setup.fan rules.setup.bound k →
    questions_of p (record_after rules xs) ≤ 1 + (rules.setup.provers - 1) * (k + 1)

-- and of a prover that is a side of d disputes at most 1 + d * (k + 1) in all
abbrev pub QuestionsCost : Type 0
QuestionsCost =
    (rules : Rules) (xs : List Post) (k p : ℕ) → ArePlayable rules → IsMost rules.setup.fan rules.setup.bound k →
    questions_of p (record_after rules xs) ≤ 1 + disputes_played p (record_after rules xs) * (k + 1)

-- a prover's posts with an effect are in all at most P + 1 times as many as its questions, for the patience P. How many of them are on which
-- question isn't said
abbrev pub PostsByQuestions : Type 0
PostsByQuestions =
    (rules : Rules) (xs : List Post) (p : ℕ) → ArePlayable rules → 0 < p →
    effective_posts_of rules p xs (begun rules) ≤ (rules.setup.patience + 1) * questions_of p (record_after rules xs)

-- STAGES: m provers play at most m - 1
abbrev pub FewStages : Type 0
FewStages = (rules : Rules) (xs : List Post) → 0 < rules.setup.provers → last_stage (record_after rules xs).disputes < rules.setup.provers

-- THE END: a match that isn't over has a prover with an open question

pub record AsksSomebody (rules : Rules) (r : Record) : Type 0 where
  pub prover : ℕ
  pub numbered : 0 < prover
  pub known : prover ≤ rules.setup.provers
  pub question : Question
  pub asked : open_question rules r prover ≡ Some question

abbrev pub NeverStuck : Type 0
NeverStuck =
    (rules : Rules) (xs : List Post) → ArePlayable rules → is_complete (record_after rules xs) ≡ false → AsksSomebody rules (record_after rules xs)

-- no post on an open question is stale, be it a pass or any answer
abbrev pub OpenIsNotStale : Type 0
OpenIsNotStale =
    (rules : Rules) (st : MatchState) (p : ℕ) (q : Question) (a : Option Answer) → open_question rules st.record_ p ≡ Some q →
    is_stale (reply_to rules st p q.qid a) ≡ false

-- so after as many posts with an effect as there can be, a match is over, whoever made them
abbrev pub FullIsOver : Type 0
FullIsOver =
    (rules : Rules) (xs : List Post) (k : ℕ) → ArePlayable rules → IsMost rules.setup.fan rules.setup.bound k →
    most_entries rules.setup k ≤ effective_posts rules xs (begun rules) → is_complete (record_after rules xs) ≡ true
