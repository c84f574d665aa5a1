-- Derived: what one dispute keeps over answers, step by step. The law `bisection_laws` shows it, and matches rest on it.
use Rattle.std.specs.Prelude.{◌≡◌, ℕ, ◌-◌, ◌<◌, ◌≤◌, true, List, length, Option, Some, None}
use Rattle.std.specs.Fn.{iterate}
use Rattle.bisect_game.specs.declared.settled.Round.{Round}
use Rattle.bisect_game.specs.declared.settled.Settled.{Settled}
use Rattle.bisect_game.specs.declared.settled.Close.{Close}
use Rattle.bisect_game.specs.declared.settled.Side.{Side}
use Rattle.bisect_game.specs.Ruling.{Ruling}
use Rattle.bisect_game.specs.Rules.{Rules}
use Rattle.bisect_game.specs.Bisection.{Bisection, prover_of, question_of, is_closed, asks, settle_side}
use Rattle.bisect_game.specs.Truth.{own_open}
use Rattle.bisect_game.specs.Disputes.{Answers, round_over, played}
use Rattle.bisect_game.specs.Held.{settled_after_rounds}

-- a dispute holds what another holds, and has its sides
pub record HoldsOn (d e : Bisection) : Type 0 where
  pub number : e.number ≡ d.number
  pub first : e.first ≡ d.first
  pub second : e.second ≡ d.second
  pub keeps : (side : Side) (k : ℕ) (s : Settled) → settled_after_rounds side d.past (own_open side d) k ≡ Some s → settled_after_rounds side e.past (own_open side e) k ≡ Some s

-- what a dispute holds stays, and what is settled is held
pub record SettledIsHeld : Type 0 where
  pub same : (d : Bisection) → HoldsOn d d
  pub further : (c d e : Bisection) → HoldsOn c d → HoldsOn d e → HoldsOn c e
  pub last : (side : Side) (past : List Round) (last : Option Settled) → settled_after_rounds side past last (length past) ≡ last
  pub stays : (ruling : Ruling) (by : Side) (s : Settled) (d : Bisection) → own_open by d ≡ None → HoldsOn d (settle_side ruling by s d)
  pub holds : (ruling : Ruling) (by : Side) (s : Settled) (d : Bisection) →
      settled_after_rounds by (settle_side ruling by s d).past (own_open by (settle_side ruling by s d)) (length d.past) ≡ Some s

-- an open dispute waits for one of its sides
abbrev pub Waits : Option Settled → Option Settled → Option Close → Type 0
Waits (Some a) (Some b) None = ⊥
Waits (Some a) (Some b) (Some c) = Unit {0}
Waits (Some a) None c = Unit {0}
Waits None b c = Unit {0}

abbrev pub IsWaiting : Bisection → Type 0
IsWaiting d = Waits d.by_first d.by_second d.close

-- a dispute over answers. A closed one stays, and so does one that waits if the answers have nothing more. As many rounds as
-- there are steps are enough, and an answer that is settled before its turn changes nothing of the end.
pub record PlayedOverAnswers : Type 0 where
  pub waits : (ruling : Ruling) (by : Side) (s : Settled) (d : Bisection) → IsWaiting (settle_side ruling by s d)
  pub closed : (rules : Rules) (f : Answers) (d : Bisection) → is_closed d ≡ true → played rules f d ≡ d
  pub own : (rules : Rules) (f : Answers) (d : Bisection) → IsWaiting d → f d.first (question_of d) ≡ d.by_first → f d.second (question_of d) ≡ d.by_second → played rules f d ≡ d
  pub enough : (ruling : Ruling) (f : Answers) (n : ℕ) (d : Bisection) → 1 < d.fan → d.place.lo < d.place.hi → d.place.hi - d.place.lo ≤ n →
      round_over ruling f (iterate (round_over ruling f) n d) ≡ iterate (round_over ruling f) n d
  pub settled : (rules : Rules) (f : Answers) (by : Side) (s : Settled) (d : Bisection) → 1 < d.fan → 0 < rules.setup.bound → d.place.lo < d.place.hi → d.place.hi ≤ rules.setup.bound →
      asks by d ≡ true → f (prover_of by d) (question_of d) ≡ Some s → played rules f (settle_side rules.ruling by s d) ≡ played rules f d
