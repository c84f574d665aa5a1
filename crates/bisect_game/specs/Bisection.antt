-- To believe: a dispute by bisection. Rounds over an interval that narrows to one step.
use Rattle.std.specs.Prelude.{ℕ, zero, suc, ◌+◌, ◌-◌, ◌*◌, ◌/◌, min, nat_le, Bool, not, ◌&&◌, ◌==◌, List, [], ◌∷◌, ◌++◌, length, slice_index_or, Option, Some, None, is_some, is_none, if◌then◌else◌}
use Rattle.rd_base.specs.declared.digest.Digest32.{Digest32}
use Rattle.rd_base.specs.declared.answer.Answer.{Answer}
use Rattle.rd_base.specs.declared.answer.Answer.TheVariants as answer
use Rattle.bisect_game.specs.declared.settled.Kind.{Kind}
use Rattle.bisect_game.specs.declared.settled.Kind.TheVariants as kind
use Rattle.bisect_game.specs.declared.settled.Question.{Question}
use Rattle.bisect_game.specs.declared.settled.Settled.{Settled}
use Rattle.bisect_game.specs.declared.settled.Settled.TheVariants.{Given, Faulty, Spent}
use Rattle.bisect_game.specs.declared.settled.Close.{Close}
use Rattle.bisect_game.specs.declared.settled.Interval.{Interval}
use Rattle.bisect_game.specs.declared.settled.Round.{Round}
use Rattle.bisect_game.specs.declared.settled.Side.{Side}
use Rattle.bisect_game.specs.declared.settled.Side.TheVariants.{First, Second}
use Rattle.bisect_game.specs.Ruling.{Ruling, same_digest}
use Rattle.bisect_game.specs.Closing.{is_step, close_of}

-- a dispute: its stage and number, its fan (in how many parts a round cuts the interval; bisection is the fan 2), its sides, its interval,
-- the past rounds, what is settled of the last round, and how it closed
pub record Bisection : Type 0 where
  pub stage : ℕ
  pub number : ℕ
  pub fan : ℕ
  pub first : ℕ
  pub second : ℕ
  pub place : Interval
  pub past : List Round
  pub by_first : Option Settled
  pub by_second : Option Settled
  pub close : Option Close

abbrev pub prover_of : Side → Bisection → ℕ
prover_of First d = d.first
prover_of Second d = d.second

-- the j-th cut of an interval in this many parts: cut 0 is its beginning, the last its end. Of two parts cut 1 is the middle,
-- rounded down.
unfoldable pub cut : ℕ → ℕ → ℕ → ℕ → ℕ
cut lo hi parts j = lo + (j * (hi - lo)) / parts

-- this many cuts, from the one with this number on
abbrev pub cuts_from : ℕ → ℕ → ℕ → ℕ → ℕ → List ℕ
cuts_from lo hi parts j zero = []
cuts_from lo hi parts j (suc n) = cut lo hi parts j ∷ cuts_from lo hi parts (j + 1) n

-- the cuts between the ends of an interval: the steps at which a round asks for roots
abbrev pub cuts : ℕ → ℕ → ℕ → List ℕ
cuts lo hi parts = cuts_from lo hi parts 1 (parts - 1)

-- an interval is cut in 2 to 16 parts, and no more than it has steps
abbrev pub can_cut : ℕ → ℕ → ℕ → Bool
can_cut lo hi parts = nat_le 2 parts && (nat_le parts 16 && nat_le parts (hi - lo))

-- the steps whose roots a question for this many parts asks: the cuts, or, if the interval can't be cut in so many, which no match asks,
-- the beginning
abbrev pub steps_asked : ℕ → ℕ → ℕ → List ℕ
steps_asked lo hi parts = if can_cut lo hi parts then cuts lo hi parts else lo ∷ []

-- the middle of an interval, rounded down
abbrev pub middle : ℕ → ℕ → ℕ
middle lo hi = lo + (hi - lo) / 2

-- a round has never more parts than steps
abbrev pub parts_of : ℕ → Interval → ℕ
parts_of fan i = min fan (i.hi - i.lo)

-- what is asked over an interval: of one step a proof, of more the roots at the cuts. With the fan 2 there is one cut, and one root
-- is asked.
abbrev pub kind_over : ℕ → ℕ → ℕ → Kind
kind_over fan lo hi =
    if nat_le (hi - lo) 1 then kind.Proof lo
    else if fan == 2 then kind.Root (cut lo hi 2 1)
    else kind.Roots lo hi (min fan (hi - lo))

-- rounds count from 1, and the proof round is the last
abbrev pub question_of : Bisection → Question
question_of d = record { qid = record { dispute = d.number; round = length d.past + 1 }; kind = kind_over d.fan d.place.lo d.place.hi }

-- the roots that an answer gives
abbrev pub roots_in : Answer → List Digest32
roots_in (answer.Root x) = x ∷ []
roots_in (answer.Roots xs) = xs
roots_in _ = []

abbrev pub roots_of : Settled → List Digest32
roots_of (Given a) = roots_in a
roots_of (Faulty a) = []
roots_of Spent = []

-- how many roots are the same before the first that differ
abbrev pub agreeing : List Digest32 → List Digest32 → ℕ
agreeing (x ∷ xs) (y ∷ ys) = if same_digest x y then suc (agreeing xs ys) else 0
agreeing (x ∷ xs) [] = 0
agreeing [] ys = 0

-- the part that is kept, counted from 0: the first at whose end the roots differ, or the last if they agree at all cuts
abbrev pub kept_part : ℕ → List Digest32 → List Digest32 → ℕ
kept_part parts xs ys = min (agreeing xs ys) (parts - 1)

-- the interval of that part: equal roots at its beginning, each side's root at its end
abbrev pub kept : ℕ → Interval → List Digest32 → List Digest32 → Interval
kept parts i xs ys =
    let j = kept_part parts xs ys in
    record {
      lo = cut i.lo i.hi parts j;
      hi = cut i.lo i.hi parts (j + 1);
      agreed = slice_index_or (i.agreed ∷ xs) j i.agreed;
      first = slice_index_or (xs ++ i.first ∷ []) j i.first;
      second = slice_index_or (ys ++ i.second ∷ []) j i.second;
    }

abbrev pub closed_with : Bisection → Close → Bisection
closed_with d c = record d { close = Some c }

abbrev pub went_on : Bisection → Settled → Settled → Bisection
went_on d a b =
    record d {
      place = kept (parts_of d.fan d.place) d.place (roots_of a) (roots_of b);
      past = d.past ++ record { lo = d.place.lo; hi = d.place.hi; first = a; second = b } ∷ [];
      by_first = None;
      by_second = None;
    }

abbrev pub closed_or : Bisection → Bisection → Option Close → Bisection
closed_or d further (Some c) = closed_with d c
closed_or d further None = further

-- a round of which both sides are settled closes the dispute, or the dispute continues with the kept part
unfoldable pub decided : Ruling → Bisection → Settled → Settled → Bisection
decided ruling d a b = closed_or d (went_on d a b) (close_of ruling d.place a b)

abbrev pub advanced : Ruling → Bisection → Option Settled → Option Settled → Bisection
advanced ruling d (Some a) (Some b) = decided ruling d a b
advanced ruling d (Some a) None = d
advanced ruling d None b = d

-- a round is decided once both sides are settled, and never before
abbrev pub advance : Ruling → Bisection → Bisection
advance ruling d = advanced ruling d d.by_first d.by_second

abbrev pub is_closed : Bisection → Bool
is_closed d = is_some d.close

-- a side has an open question until it has settled this round or the dispute is closed
abbrev pub asks : Side → Bisection → Bool
asks First d = is_none d.by_first && not (is_closed d)
asks Second d = is_none d.by_second && not (is_closed d)

-- the bisection rounds of a dispute: the past ones, and the last one unless it is the proof round
abbrev pub rounds_of : Bisection → ℕ
rounds_of d = length d.past + (if is_step d.place then 0 else 1)

-- the proof rounds among past rounds, and those of a dispute
abbrev pub proof_rounds_in : List Round → ℕ
proof_rounds_in [] = 0
proof_rounds_in (r ∷ rs) = (if nat_le (r.hi - r.lo) 1 then 1 else 0) + proof_rounds_in rs

abbrev pub proof_rounds_of : Bisection → ℕ
proof_rounds_of d = proof_rounds_in d.past + (if is_step d.place then 1 else 0)

-- one side's answer is settled
unfoldable pub settle_first : Ruling → Settled → Bisection → Bisection
settle_first ruling s d = advance ruling (record d { by_first = Some s })

unfoldable pub settle_second : Ruling → Settled → Bisection → Bisection
settle_second ruling s d = advance ruling (record d { by_second = Some s })

abbrev pub settle_side : Ruling → Side → Settled → Bisection → Bisection
settle_side ruling First s d = settle_first ruling s d
settle_side ruling Second s d = settle_second ruling s d
