-- To believe: a journal, and what a prover is asked. Each entry is a move of its prover on its open question, as that prover says, with
-- the reply to it.
use Rattle.std.specs.Prelude.{◌≡◌, ℕ, ◌<◌, Bool, false, List, [], ◌∷◌, ◌++◌, Some, is_none, if◌then◌else◌, Option, None}
use Rattle.bisect_game.specs.declared.settled.Question.{Question}
use Rattle.bisect_game.specs.Says.{Says}
use Rattle.bisect_game.specs.Rules.{Rules}
use Rattle.tournament.specs.Bracket.{open_question, is_complete}
use Rattle.tournament.specs.Moves.{MatchState, begun, passes_of, settled_by}
use Rattle.tournament.specs.Journals.{turn_on, turns}
use Rattle.tournament.specs.Posting.{reply_by, is_stale}
use Rattle.board_book.specs.declared.entry.Entry.{Entry}
use Rattle.board_book.specs.declared.entry.Ask.{Ask}
use Rattle.board_book.specs.declared.entry.Ask.TheVariants as ask

-- an entry replays: its question is its prover's open one, and its reply is the game's. It is scripted: its move is what the
-- prover says to that question after this many passes.
pub record IsEntry (rules : Rules) (says : Says) (st : MatchState) (e : Entry) : Type 0 where
  pub question : Question
  pub numbered : 0 < e.p
  pub asked : open_question rules st.record_ e.p ≡ Some question
  pub qid : e.qid ≡ question.qid
  pub pass : e.pass ≡ is_none (says e.p question (passes_of st e.p))
  pub reply : e.reply ≡ reply_by (settled_by rules question (passes_of st e.p) (says e.p question (passes_of st e.p)))

-- a legal journal from a state on
abbrev pub IsJournal : Rules → Says → List Entry → MatchState → Type 0
IsJournal rules says [] st = Unit {0}
IsJournal rules says (e ∷ es) st = IsEntry rules says st e × IsJournal rules says es (turn_on rules says st e.p (open_question rules st.record_ e.p))

-- who moved, entry by entry
abbrev pub who : List Entry → List ℕ
who [] = []
who (e ∷ es) = e.p ∷ who es

-- the state after a journal: the moves of its provers, one after another
abbrev pub state_after : Rules → Says → List Entry → MatchState
state_after rules says es = turns rules says (who es) (begun rules)

-- the journal with this entry, unless it is stale
abbrev pub noted : List Entry → Entry → List Entry
noted es e = if is_stale e.reply then es else es ++ e ∷ []

-- what a prover is asked: the open question with its passes; without one, nothing while the match isn't over, and else over
abbrev pub ask_on : MatchState → ℕ → Option Question → Ask
ask_on st p (Some q) = ask.Question q (passes_of st p)
ask_on st p None = if is_complete st.record_ then ask.Over else ask.Nothing

-- a prover has an open question, on which it passes now
abbrev pub waits_on : Says → MatchState → ℕ → Option Question → Bool
waits_on says st p (Some q) = is_none (says p q (passes_of st p))
waits_on says st p None = false
