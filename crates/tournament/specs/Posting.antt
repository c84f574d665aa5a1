-- To believe: a post. The tests in their order, the state after it, and the reply to it; and lists of posts.
use Rattle.std.specs.Prelude.{◌≡◌, ◌↔◌, ℕ, ◌<◌, ◌≤◌, Bool, true, false, List, [], ◌∷◌, Option, Some, None, is_some, if◌then◌else◌}
use Rattle.rd_base.specs.declared.answer.Answer.{Answer}
use Rattle.rd_base.specs.declared.answer.Qid.{Qid}
use Rattle.rd_base.specs.Questions.{same_qid}
use Rattle.bisect_game.specs.declared.settled.Question.{Question}
use Rattle.bisect_game.specs.declared.settled.Settled.{Settled}
use Rattle.bisect_game.specs.declared.settled.Settled.TheVariants as settled
use Rattle.bisect_game.specs.Rules.{Rules, ArePlayable}
use Rattle.tournament.specs.declared.posting.Move.{Move}
use Rattle.tournament.specs.declared.posting.Move.TheVariants.{Pass, Give}
use Rattle.tournament.specs.declared.posting.Reply.{Reply}
use Rattle.tournament.specs.declared.posting.Reply.TheVariants as reply
use Rattle.tournament.specs.Bracket.{Record, open_question, is_complete}
use Rattle.tournament.specs.Moves.{MatchState, begun, passes_of, settled_by, moved}

abbrev pub answer_of : Move → Option Answer
answer_of Pass = None
answer_of (Give a) = Some a

abbrev pub posted_on : Rules → MatchState → ℕ → Qid → Option Answer → Option Question → MatchState
posted_on rules st p qid m None = st
posted_on rules st p qid m (Some q) = if same_qid q.qid qid then moved rules st p (settled_by rules q (passes_of st p) m) else st

-- the state after a post: a stale one changes nothing
abbrev pub posted : Rules → MatchState → ℕ → Qid → Option Answer → MatchState
posted rules st p qid m = posted_on rules st p qid m (open_question rules st.record_ p)

abbrev pub reply_by : Option Settled → Reply
reply_by None = reply.Taken
reply_by (Some (settled.Given a)) = reply.Taken
reply_by (Some (settled.Faulty a)) = reply.Faulty
reply_by (Some settled.Spent) = reply.Spent

abbrev pub reply_on : Rules → MatchState → ℕ → Qid → Option Answer → Option Question → Reply
reply_on rules st p qid m None = reply.Stale None
reply_on rules st p qid m (Some q) = if same_qid q.qid qid then reply_by (settled_by rules q (passes_of st p) m) else reply.Stale (Some q.qid)

-- stale if the question isn't the prover's open one, which the reply carries; spent at the pass after the patience;
-- faulty at an answer that does not fit; else taken
abbrev pub reply_to : Rules → MatchState → ℕ → Qid → Option Answer → Reply
reply_to rules st p qid m = reply_on rules st p qid m (open_question rules st.record_ p)

-- nothing changed
abbrev pub is_stale : Reply → Bool
is_stale (reply.Stale o) = true
is_stale _ = false

-- the passes on the open question; none without one
abbrev pub passes_on : Rules → MatchState → ℕ → ℕ
passes_on rules st p = if is_some (open_question rules st.record_ p) then passes_of st p else 0

-- LISTS OF POSTS, by anybody and with any contents

-- a post of a prover, whose number counts from 1, on the question of a number: an answer, or None for a pass
pub record Post : Type 0 where
  pub prover : ℕ
  pub numbered : 0 < prover
  pub qid : Qid
  pub answer : Option Answer

-- the state after these posts, one after another
abbrev pub after_posts : Rules → List Post → MatchState → MatchState
after_posts rules [] st = st
after_posts rules (x ∷ xs) st = after_posts rules xs (posted rules st x.prover x.qid x.answer)

-- the record of a match after these posts
abbrev pub record_after : Rules → List Post → Record
record_after rules xs = (after_posts rules xs (begun rules)).record_

-- nobody has an open question if and only if the match is over
abbrev pub NobodyAskedIsOver : Type 0
NobodyAskedIsOver =
    (rules : Rules) (xs : List Post) → ArePlayable rules →
    ((p : ℕ) → 0 < p → p ≤ rules.setup.provers → open_question rules (record_after rules xs) p ≡ None) ↔ (is_complete (record_after rules xs) ≡ true)
