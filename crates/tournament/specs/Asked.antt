-- To believe: what a match asks under a number. It is one question at most, and none is beyond the bound.
use Rattle.std.specs.Prelude.{◌≡◌, ◌≢◌, ℕ, zero, suc, ◌-◌, ◌<◌, ◌≤◌, ◌||◌, ◌==◌, List, [], ◌∷◌, Option, Some, None, if◌then◌else◌}
use Rattle.rd_base.specs.declared.answer.Qid.{Qid}
use Rattle.bisect_game.specs.declared.settled.Interval.{Interval}
use Rattle.bisect_game.specs.declared.settled.Round.{Round}
use Rattle.bisect_game.specs.declared.settled.Kind.{Kind}
use Rattle.bisect_game.specs.declared.settled.Kind.TheVariants as kind
use Rattle.bisect_game.specs.declared.settled.Question.{Question}
use Rattle.bisect_game.specs.Says.{Says}
use Rattle.bisect_game.specs.Rules.{Rules, ArePlayable}
use Rattle.bisect_game.specs.Bisection.{Bisection, kind_over}
use Rattle.bisect_game.specs.Disputes.{Answers}
use Rattle.tournament.specs.Bracket.{Record, open_question, bracket}
use Rattle.tournament.specs.Moves.{MatchState, begun, passes_of}
use Rattle.tournament.specs.Posting.{Post, record_after}
use Rattle.tournament.specs.Journals.{turn_on, turns, Legal, answers_of}

-- what the round after this many is asked over: a past one, or the last
abbrev pub kind_in : ℕ → Interval → List Round → ℕ → Option Kind
kind_in fan place [] zero = Some (kind_over fan place.lo place.hi)
kind_in fan place [] (suc k) = None
kind_in fan place (x ∷ past) zero = Some (kind_over fan x.lo x.hi)
kind_in fan place (x ∷ past) (suc k) = kind_in fan place past k

abbrev pub kind_of : Bisection → ℕ → Option Kind
kind_of d round = if round == 0 then None else kind_in d.fan d.place d.past (round - 1)

abbrev pub asked_in : ℕ → Qid → List Bisection → Option Kind
asked_in p qid [] = None
asked_in p qid (d ∷ ds) =
    if d.number == qid.dispute then (if (d.first == p) || (d.second == p) then kind_of d qid.round else None)
    else asked_in p qid ds

-- what the match of a record asks a prover under a number
abbrev pub asked : Rules → Record → ℕ → Qid → Option Kind
asked rules t p qid =
    if qid.dispute == 0 then (if qid.round == 0 then Some kind.Claim else None)
    else asked_in p qid t.disputes

-- an open question is the one that the case's own match asks under its number
abbrev pub AskedByTheCase : Type 0
AskedByTheCase =
    (rules : Rules) (says : Says) (ps : List ℕ) (p : ℕ) (q : Question) → ArePlayable rules →
    Legal rules says ps (begun rules) → 0 < p → open_question rules (turns rules says ps (begun rules)).record_ p ≡ Some q →
    asked rules (bracket rules (answers_of rules says)) p q.qid ≡ Some q.kind

-- an interval of the run that is cut in this many parts: 2 to 16, and no more than it has steps
pub record IsCut (bound lo hi parts : ℕ) : Type 0 where
  pub parted : 1 < parts
  pub few_parts : parts ≤ 16
  pub long : parts ≤ hi - lo
  pub high : hi ≤ bound

-- within the bound: the claim, a root between the ends of the run, the roots at the cuts of an interval of it, or the proof of one
-- of its steps
abbrev pub IsWithinBound : ℕ → Kind → Type 0
IsWithinBound bound kind.Claim = Unit {0}
IsWithinBound bound (kind.Root i) = (0 < i) × (i < bound)
IsWithinBound bound (kind.Roots lo hi parts) = IsCut bound lo hi parts
IsWithinBound bound (kind.Proof i) = i < bound

-- an open question is within the bound, whatever was posted
abbrev pub OpenIsWithinBound : Type 0
OpenIsWithinBound =
    (rules : Rules) (xs : List Post) (p : ℕ) (q : Question) → ArePlayable rules →
    open_question rules (record_after rules xs) p ≡ Some q → IsWithinBound rules.setup.bound q.kind

-- and so is what a match asks under any number, over any answers
abbrev pub AskedIsWithinBound : Type 0
AskedIsWithinBound =
    (rules : Rules) (f : Answers) (p : ℕ) (qid : Qid) (k : Kind) → ArePlayable rules →
    asked rules (bracket rules f) p qid ≡ Some k → IsWithinBound rules.setup.bound k

-- an open question and its passes stay while another prover moves
abbrev pub QuestionsStay : Type 0
QuestionsStay =
    (rules : Rules) (says : Says) (ps : List ℕ) (p other : ℕ) (q : Question) →
    Legal rules says ps (begun rules) → 0 < p → 0 < other → other ≢ p →
    let st : MatchState = turns rules says ps (begun rules) in
    let next : MatchState = turn_on rules says st other (open_question rules st.record_ other) in
    open_question rules st.record_ p ≡ Some q → (open_question rules next.record_ p ≡ Some q) × (passes_of next p ≡ passes_of st p)
