-- Derived: a match as it is kept in memory, with room for all of it.
use Rattle.std.specs.Prelude.{◌≡◌, ℕ, zero, suc, ◌+◌, ◌≤◌, Bool, List, [], ◌∷◌, ◌++◌, length, Option, Some, None, if◌then◌else◌}
use Rattle.rd_base.specs.declared.digest.Digest32.{Digest32}
use Rattle.rd_base.specs.declared.claim.Claim.{Claim}
use Rattle.rd_base.specs.declared.answer.Answer.{Answer}
use Rattle.bisect_game.specs.declared.settled.Claimed.{Claimed}
use Rattle.bisect_game.specs.declared.settled.Question.{Question}
use Rattle.bisect_game.specs.declared.settled.Settled.{Settled}
use Rattle.bisect_game.specs.declared.settled.Side.{Side}
use Rattle.bisect_game.specs.declared.settled.Side.TheVariants.{First, Second}
use Rattle.bisect_game.specs.Ruling.{Ruling, same_digest}
use Rattle.bisect_game.specs.Disputes.{RoomOf, room_of, dispute_of}
use Rattle.bisect_game.specs.Rules.{Rules, rules_of}
use Rattle.bisect_game.specs.Bisection.{Bisection}
use Rattle.bisect_game.specs.Setup.{Setup, AreInRange}
use Rattle.tournament.specs.Bracket.{Record, side_of, asks_first, asks_second, last_stage, open_question}
use Rattle.tournament.specs.Moves.{MatchState, begun, passes_of, settled_by}
use Rattle.tournament.specs.Posting.{Post, after_posts}

-- the side of a prover that has an open question
abbrev pub asks_of : Side → ℕ → Bisection → Bool
asks_of First p d = asks_first p d
asks_of Second p d = asks_second p d

-- where a prover is asked, and on which side
abbrev pub asked_from : ℕ → ℕ → List Bisection → Option (ℕ × Side)
asked_from i p [] = None
asked_from i p (d ∷ ds) = if asks_first p d then Some (i, First) else if asks_second p d then Some (i, Second) else asked_from (i + 1) p ds

-- the live provers as they are paired, each with its root
abbrev pub sides : Ruling → List (ℕ × Claim) → List Claimed
sides r [] = []
sides r (x ∷ xs) = side_of r x ∷ sides r xs

-- the first side of another root, and the others
abbrev pub Taking : Type 0
Taking = Option (Claimed × List Claimed)

abbrev pub going_by : Claimed → Taking → Taking
going_by x None = None
going_by x (Some t) = Some (t.0, x ∷ t.1)

abbrev pub take_side : Digest32 → List Claimed → Taking
take_side root [] = None
take_side root (x ∷ xs) = if same_digest x.root root then going_by x (take_side root xs) else Some (x, xs)

abbrev pub side_pairs : ℕ → List Claimed → List (Claimed × Claimed)
side_pairs zero xs = []
side_pairs (suc n) [] = []
side_pairs (suc n) (x ∷ xs) = elim (take_side x.root xs) [ None ↦ side_pairs n xs | Some t ↦ (x, t.0) ∷ side_pairs n t.1 ]

-- the place of the first side of another root
abbrev pub other_from : ℕ → Digest32 → List Claimed → Option ℕ
other_from i root [] = None
other_from i root (x ∷ xs) = if same_digest x.root root then other_from (i + 1) root xs else Some i

abbrev pub disputes_over : Setup → ℕ → ℕ → List (Claimed × Claimed) → List Bisection
disputes_over t g k [] = []
disputes_over t g k (p ∷ ps) = dispute_of t g k p.0 p.1 ∷ disputes_over t g (k + 1) ps

abbrev pub and_also : Record → List Bisection → Record
and_also r ds = record r { disputes = r.disputes ++ ds }

-- a record and the numbers that it is played by
pub record Sheet : Type 0 where
  pub setup : Setup
  pub record_ : Record

-- each room is one for a dispute of the match
abbrev pub AllRooms : Setup → List RoomOf → Type 0
AllRooms t [] = Unit {0}
AllRooms t (r ∷ rs) = (r ≡ room_of t) × AllRooms t rs

-- a sheet has room for each dispute that can come
pub record IsSheet (t : Setup) (r : Record) (rooms : List RoomOf) (free : ℕ) : Type 0 where
  pub claims_ : length r.claims ≡ t.provers
  pub stages : last_stage r.disputes ≤ length r.disputes
  pub rooms_ : AllRooms t rooms
  pub room : length r.disputes + free + 1 ≡ t.provers

-- some posts, in some order, end in the state
abbrev pub IsReached : Rules → MatchState → Type 0
IsReached rules st = (xs : List Post) × (after_posts rules xs (begun rules) ≡ st)

-- a move of a prover on its open question settles this, or nothing
pub record IsMove (rules : Rules) (st : MatchState) (p : ℕ) (o : Option Settled) : Type 0 where
  pub question : Question
  pub answer : Option Answer
  pub asked : open_question rules st.record_ p ≡ Some question
  pub settles : settled_by rules question (passes_of st p) answer ≡ o

pub record IsMatch (r : Ruling) (s : Sheet) (passed : List ℕ) (room : ℕ) : Type 0 where
  pub ranges : AreInRange s.setup
  pub counts : length passed ≡ s.setup.provers
  pub reached : IsReached (rules_of r s.setup) (record { record_ = s.record_; passed = passed })
  pub room_ : s.setup.provers ≤ room
