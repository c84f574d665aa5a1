-- To believe. What is promised of every open match, over logs of posts by anybody and with any contents. The laws of these names show it.
use Rattle.std.specs.Prelude.{◌≡◌, ℕ, ◌+◌, ◌<◌, ◌≤◌, ◌^◌, true, false, List, [], ◌∷◌, ◌++◌, length, map, Some, None}
use Rattle.std.specs.List.{AllByRecursion}
use Rattle.rd_base.specs.declared.answer.Answer.{Answer}
use Rattle.proof_wire.specs.Wire.{wire_form}
use Rattle.rv_step.specs.State.{State}
use Rattle.rv_step.specs.Step.{state_at}
use Rattle.rv_step.specs.Valid.{IsValid}
use Rattle.bisect_game.specs.declared.settled.Kind.{Kind}
use Rattle.bisect_game.specs.Truth.{IsTrueAnswer}
use Rattle.bisect_game.specs.Rules.{Rules, ArePlayable}
use Rattle.bisect_game.specs.Ruling.{Ruling}
use Rattle.step_referee.specs.MachineRuling.{machine_ruling}
use Rattle.step_referee.specs.MachineTruth.{machine_truth}
use Rattle.tournament.specs.declared.reading.Verdict.{Verdict}
use Rattle.tournament.specs.declared.reading.Verdict.TheVariants as verdict
use Rattle.tournament.specs.Asked.{IsWithinBound}
use Rattle.tournament.specs.Bracket.{Record, is_complete, verdict_of}
use Rattle.tournament.specs.Moves.{MatchState, begun}
use Rattle.tournament.specs.Posting.{Post, reply_to, is_stale, after_posts, record_after}
use Rattle.tournament.specs.Length.{IsMost, most_entries}
use Rattle.tournament.specs.FewPosts.{effective_posts}
use Rattle.tournament.specs.Theorem.{IsCollisionIn}
use Rattle.tournament.specs.TrueMoves.{MovesTruly}
use Rattle.tournament.specs.Truthful.{IsSafe}
use Rattle.transcript_text.specs.declared.text.Head.{Head}
use Rattle.transcript_text.specs.declared.text.Stated.TheVariants.{Accept}
use Rattle.transcript_text.specs.MoveLists.{moves_of}
use Rattle.transcript_text.specs.StatedVerdict.{stated_of}
use Rattle.transcript_text.specs.FullLines.{AreWritten}
use Rattle.transcript_text.specs.reader.InLimits.{IsHeadInLimits}
use Rattle.audit.specs.LineByLine.{rules_of_head}
use Rattle.audit.specs.OwnMatch.{IsReadAndConfirmed}
use Rattle.machine_audit.specs.MachineAudit.{IsStatedStart, machine_rules}
use Rattle.open_match.specs.Log.{entry_of, BeginWith, IsLogOf, IsNoLogAt}
use Rattle.open_match.specs.declared.entry.EntryFault.{EntryFault}
use Rattle.transcript_text.specs.Limits.{numbers_are_in_limits}

-- ONE READING: the posts of a log are fixed by its bytes
abbrev pub LogsHaveOneReading : Type 0
LogsHaveOneReading =
    (provers : ℕ) (log : List ℕ) (xs ys : List Post) → IsLogOf provers xs log → IsLogOf provers ys log → map entry_of xs ≡ map entry_of ys

-- bytes are a log, or there is one first place at which they are none, for one reason
pub record LogsOrNone : Type 0 where
  pub apart : (provers : ℕ) (log : List ℕ) (xs : List Post) (at : ℕ) (cause : EntryFault) → IsLogOf provers xs log → ¬ IsNoLogAt provers log at cause
  pub one_place : (provers : ℕ) (log : List ℕ) (at other : ℕ) (cause why : EntryFault) → IsNoLogAt provers log at cause → IsNoLogAt provers log other why → (at ≡ other) × (cause ≡ why)

-- a log behind a log is the log of all their posts
abbrev pub LogsGoOn : Type 0
LogsGoOn =
    (provers : ℕ) (log more : List ℕ) (xs ys : List Post) → IsLogOf provers xs log → IsLogOf provers ys more → IsLogOf provers (xs ++ ys) (log ++ more)

-- whole entries at the front of some bytes are a log
pub record IsFront (provers : ℕ) (xs : List Post) (bytes rest : List ℕ) : Type 0 where
  pub front : List ℕ
  pub parts : bytes ≡ front ++ rest
  pub log : IsLogOf provers xs front

abbrev pub WholeEntriesAreALog : Type 0
WholeEntriesAreALog = (provers : ℕ) (xs : List Post) (bytes rest : List ℕ) → BeginWith provers xs bytes rest → IsFront provers xs bytes rest

-- STALE POSTS: a post that is stale changes nothing, so a host may keep it or cut it out
abbrev pub StalePostsChangeNothing : Type 0
StalePostsChangeNothing =
    (rules : Rules) (xs ys : List Post) (x : Post) (st : MatchState) → is_stale (reply_to rules (after_posts rules xs st) x.prover x.qid x.answer) ≡ true →
    after_posts rules (xs ++ x ∷ ys) st ≡ after_posts rules (xs ++ ys) st

-- HEADS ARE PLAYABLE: a match by numbers that are within the limits can be played, before any judge
abbrev pub HeadsArePlayable : Type 0
HeadsArePlayable = (ruling : Ruling) (head : Head) → numbers_are_in_limits head ≡ true → ArePlayable (rules_of_head ruling head)

-- and its run has fewer than 2^32 steps
abbrev pub HeadsHaveShortRuns : Type 0
HeadsHaveShortRuns = (head : Head) → numbers_are_in_limits head ≡ true → head.bound < 2 ^ 32

-- OPEN MATCHES ARE RIGHT

-- the verdict states the status and the output in the state at the bound, or two different strings of one digest that answers of the record open
abbrev pub AcceptsRunOrCollides : (List ℕ → List ℕ) → Head → State → Record → Verdict → Type 0
AcceptsRunOrCollides digest head s r (verdict.Accept n) =
    stated_of r.claims (verdict.Accept n) ≡ Some (Accept (state_at s head.bound).status (state_at s head.bound).output)
AcceptsRunOrCollides digest head s r verdict.NoneLeft = ⊥
AcceptsRunOrCollides digest head s r (verdict.Collision x y) = IsCollisionIn (machine_rules digest head) r (x, y)

-- a prover is safe whose entries are true moves, and with it the verdict of a match that is over
pub record IsSafeAndRight (digest : List ℕ → List ℕ) (head : Head) (s : State) (p : ℕ) (r : Record) : Type 0 where
  pub safe : IsSafe (machine_rules digest head) (machine_truth digest s head.bound) p r
  pub verdict_ : is_complete r ≡ true → AcceptsRunOrCollides digest head s r (verdict_of (machine_rules digest head) r)

-- for each log, each start state with the head's root, and each prover whose entries are true moves within the patience, whatever the others post
abbrev pub OpenMatchesAreRight : (List ℕ → List ℕ) → Type 0
OpenMatchesAreRight digest =
    (head : Head) (log : List ℕ) (xs : List Post) (s : State) (p : ℕ) →
    let rules : Rules = machine_rules digest head in
    numbers_are_in_limits head ≡ true → IsLogOf head.provers xs log → IsStatedStart digest head s → 0 < p → p ≤ head.provers →
    MovesTruly rules (machine_truth digest s head.bound) p (begun rules) xs → IsSafeAndRight digest head s p (record_after rules xs)

-- TRUE ANSWERS CAN BE SENT: each true answer to what a match may ask has a wire form, if the run starts in a valid state and its output at the bound
-- is short enough for a claim
abbrev pub TrueAnswersHaveWireForms : (List ℕ → List ℕ) → Type 0
TrueAnswersHaveWireForms digest =
    (s : State) (bound : ℕ) (k : Kind) (a : Answer) → IsValid s → length (state_at s bound).output < 2 ^ 32 → IsWithinBound bound k →
    IsTrueAnswer (machine_truth digest s bound) k a → (wire_form a).fits

-- OPEN TEXTS ARE CONFIRMED: what `full` writes of a match that is over is read, and the text that is read is confirmed, with its verdict,
-- after whatever posts, so after those of each log
abbrev pub OpenTextsAreConfirmed : (List ℕ → List ℕ) → Type 0
OpenTextsAreConfirmed digest =
    (head : Head) (xs : List Post) →
    let r : Record = record_after (machine_rules digest head) xs in
    IsHeadInLimits head → is_complete r ≡ true → AreWritten (moves_of r) → IsReadAndConfirmed (machine_ruling digest head.version) head r

-- OPEN MATCHES END

-- a pass of somebody who is asked has an effect
pub record CanGoOn (rules : Rules) (xs : List Post) : Type 0 where
  pub next : Post
  pub known : next.prover ≤ rules.setup.provers
  pub passes : next.answer ≡ None
  pub effect : effective_posts rules (xs ++ next ∷ []) (begun rules) ≡ effective_posts rules xs (begun rules) + 1

-- some passes, no more than all posts with an effect that a match can have, end it
pub record HasEnd (rules : Rules) (k : ℕ) (xs : List Post) : Type 0 where
  pub passes : List Post
  pub all : AllByRecursion (λ (x : Post). x.answer ≡ None) passes
  pub few : length passes ≤ most_entries rules.setup k
  pub over : is_complete (record_after rules (xs ++ passes)) ≡ true

-- posts with an effect are few, and while the match isn't over one pass more is one
pub record IsEnding (rules : Rules) (k : ℕ) (xs : List Post) : Type 0 where
  pub few : effective_posts rules xs (begun rules) ≤ most_entries rules.setup k
  pub goes_on : is_complete (record_after rules xs) ≡ false → CanGoOn rules xs
  pub end_ : HasEnd rules k xs

abbrev pub OpenMatchesEnd : Type 0
OpenMatchesEnd =
    (ruling : Ruling) (head : Head) (log : List ℕ) (xs : List Post) (k : ℕ) →
    let rules : Rules = rules_of_head ruling head in
    numbers_are_in_limits head ≡ true → IsLogOf head.provers xs log → IsMost head.fan head.bound k → IsEnding rules k xs
