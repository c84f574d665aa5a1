-- To believe: what is promised of every dispute, whatever is settled. The law `bisection_laws` shows what `BisectionLaws` names, and
-- `cuts_divide`, `one_cut_fewer_than_parts`, `the_fan_stays`, `halves_are_bisection` and `sides_settle_in_any_order` show the rest.
use Rattle.std.specs.Prelude.{◌≡◌, ◌≢◌, ℕ, ◌+◌, ◌-◌, ◌*◌, ◌^◌, ◌<◌, ◌≤◌, true, false, ◌⊎◌, length, None}
use Rattle.rd_base.specs.declared.digest.Digest32.{Digest32}
use Rattle.rd_base.specs.declared.answer.Answer.{Answer}
use Rattle.rd_base.specs.declared.answer.Answer.TheVariants as answer
use Rattle.bisect_game.specs.declared.settled.Kind.{Kind}
use Rattle.bisect_game.specs.declared.settled.Kind.TheVariants as kind
use Rattle.bisect_game.specs.declared.settled.Interval.{Interval}
use Rattle.bisect_game.specs.declared.settled.Settled.{Settled}
use Rattle.bisect_game.specs.declared.settled.Settled.TheVariants.{Given}
use Rattle.bisect_game.specs.declared.settled.Side.{Side}
use Rattle.bisect_game.specs.Ruling.{Ruling, IsFair, same_digest}
use Rattle.bisect_game.specs.Rules.{Rules, is_fit}
use Rattle.bisect_game.specs.Closing.{is_step}
use Rattle.bisect_game.specs.Bisection.{Bisection, cut, cuts, middle, kind_over, rounds_of, proof_rounds_in, decided, is_closed, asks, settle_side, settle_first, settle_second}
use Rattle.bisect_game.specs.OverAnswers.{SettledIsHeld, PlayedOverAnswers}
use Rattle.bisect_game.specs.Truth.{Truth, IsRun, IsTrueAnswer, IsFit, IsFitSoFar, IsTruthful, IsRight, IsProved}

-- an interval that is not empty, lies within another, and is shorter
pub record IsNarrower (i j : Interval) : Type 0 where
  pub some : j.lo < j.hi
  pub low : i.lo ≤ j.lo
  pub high : j.hi ≤ i.hi
  pub less : j.hi - j.lo < i.hi - i.lo

-- it closed, with the same interval
pub record HasClosed (d e : Bisection) : Type 0 where
  pub closed : is_closed e ≡ true
  pub stays : e.place ≡ d.place

-- the cuts of an interval divide it: they begin and end with it, and if it has no fewer steps than parts, no part is empty
pub record CutsDivide : Type 0 where
  pub begin : (lo hi parts : ℕ) → 0 < parts → cut lo hi parts 0 ≡ lo
  pub end_ : (lo hi parts : ℕ) → 0 < parts → lo ≤ hi → cut lo hi parts parts ≡ hi
  pub rise : (lo hi parts j : ℕ) → 0 < parts → parts ≤ hi - lo → j < parts → cut lo hi parts j < cut lo hi parts (j + 1)
  pub between : (lo hi parts j : ℕ) → 1 < parts → parts ≤ hi - lo → 0 < j → j < parts → (lo < cut lo hi parts j) × (cut lo hi parts j < hi)

-- between this many parts there is one cut fewer
abbrev pub OneCutFewer : Type 0
OneCutFewer = (lo hi parts : ℕ) → length (cuts lo hi parts) ≡ parts - 1

-- a dispute keeps its fan, whatever is settled
abbrev pub FanStays : Type 0
FanStays = (ruling : Ruling) (by : Side) (s : Settled) (d : Bisection) → (settle_side ruling by s d).fan ≡ d.fan

-- the two halves of an interval, with the roots that both sides gave at its middle
abbrev pub above : Interval → Digest32 → Interval
above i x = record i { lo = middle i.lo i.hi; agreed = x }

abbrev pub below : Interval → Digest32 → Digest32 → Interval
below i x y = record i { hi = middle i.lo i.hi; first = x; second = y }

-- rounds of two parts are bisection: the root at the middle is asked; the interval above it is kept if the roots are equal, and the one
-- below if they differ
pub record HalvesAreBisection : Type 0 where
  pub middle_ : (lo hi : ℕ) → cut lo hi 2 1 ≡ middle lo hi
  pub asked : (lo hi : ℕ) → 1 < hi - lo → kind_over 2 lo hi ≡ kind.Root (middle lo hi)
  pub equal : (ruling : Ruling) (d : Bisection) (x y : Digest32) → d.fan ≡ 2 → is_step d.place ≡ false → same_digest x y ≡ true →
      (decided ruling d (Given (answer.Root x)) (Given (answer.Root y))).place ≡ above d.place x
  pub different : (ruling : Ruling) (d : Bisection) (x y : Digest32) → d.fan ≡ 2 → is_step d.place ≡ false → same_digest x y ≡ false →
      (decided ruling d (Given (answer.Root x)) (Given (answer.Root y))).place ≡ below d.place x y

-- a round closes its dispute, or narrows its interval
abbrev pub RoundsNarrow : Type 0
RoundsNarrow = (ruling : Ruling) (d : Bisection) (a b : Settled) → 1 < d.fan → HasClosed d (decided ruling d a b) ⊎ IsNarrower d.place (decided ruling d a b).place

-- the proof round closes its dispute, whatever the answers are
abbrev pub ProofRoundCloses : Type 0
ProofRoundCloses = (ruling : Ruling) (d : Bisection) (a b : Settled) → is_step d.place ≡ true → HasClosed d (decided ruling d a b)

-- an interval of a match: not empty, within the bound, and with different roots at its end
pub record IsDisputed (bound : ℕ) (i : Interval) : Type 0 where
  pub some : i.lo < i.hi
  pub short : i.hi ≤ bound
  pub differ : i.first ≢ i.second

-- a dispute in play: a round cuts its interval, which is disputed, and what is settled of the last round fits what was asked
pub record IsPlay (rules : Rules) (d : Bisection) : Type 0 where
  pub parted : 1 < d.fan
  pub sound : IsDisputed rules.setup.bound d.place
  pub fit_first : IsFitSoFar rules.ruling (kind_over d.fan d.place.lo d.place.hi) d.by_first
  pub fit_second : IsFitSoFar rules.ruling (kind_over d.fan d.place.lo d.place.hi) d.by_second

-- bisection's invariant: a side whose answers so far are given and true has the run's roots, and is not out
abbrev pub KeepsRight : Truth → Side → Bisection → Type 0
KeepsRight truth side d = IsTruthful truth side d → IsRight truth side d

-- an answer of either side that fits what is asked keeps both, be it true or not
pub record InvariantIsKept : Type 0 where
  pub play : (rules : Rules) (by : Side) (s : Settled) (d : Bisection) →
      IsFit rules.ruling (kind_over d.fan d.place.lo d.place.hi) s → IsPlay rules d → IsPlay rules (settle_side rules.ruling by s d)
  pub right : (rules : Rules) (truth : Truth) (by : Side) (s : Settled) (d : Bisection) (side : Side) →
      IsFair rules.ruling → IsRun rules truth → asks by d ≡ true →
      IsFit rules.ruling (kind_over d.fan d.place.lo d.place.hi) s → IsPlay rules d →
      KeepsRight truth side d → KeepsRight truth side (settle_side rules.ruling by s d)

-- and a proof that it gave leads from the agreed root to its own
abbrev pub TrueProofsProve : Type 0
TrueProofsProve = (rules : Rules) (truth : Truth) (side : Side) (d : Bisection) → IsRun rules truth → IsPlay rules d →
    IsTruthful truth side d → IsRight truth side d → IsProved rules.ruling side d

-- a dispute that has had few rounds for the length of its interval
pub record IsFew (fan bound : ℕ) (i : Interval) (rounds : ℕ) : Type 0 where
  pub few : (i.hi - i.lo - 1) * fan ^ rounds < bound
  pub asked : fan ^ rounds < fan * bound

-- an answer of either side keeps the rounds few: F^k < F * N for k rounds of F parts over the bound N, so that there are never
-- more than N has binary digits; and no proof round is followed by another round
pub record RoundsAreFew : Type 0 where
  pub kept : (ruling : Ruling) (bound : ℕ) (by : Side) (s : Settled) (d : Bisection) → 1 < d.fan → IsFew d.fan bound d.place (length d.past) →
      IsFew d.fan bound (settle_side ruling by s d).place (length (settle_side ruling by s d).past)
  pub few : (bound : ℕ) (d : Bisection) → 1 < d.fan → IsFew d.fan bound d.place (length d.past) → d.fan ^ rounds_of d < d.fan * bound
  pub digits : (fan bound rounds count : ℕ) → 1 < fan → fan ^ rounds < fan * bound → bound < 2 ^ count → rounds ≤ count
  pub last : (ruling : Ruling) (by : Side) (s : Settled) (d : Bisection) → proof_rounds_in d.past ≡ 0 → proof_rounds_in (settle_side ruling by s d).past ≡ 0

-- the true answer to what is asked is taken as given, if the true claim is sound
abbrev pub TrueAnswersFit : Type 0
TrueAnswersFit = (ruling : Ruling) (truth : Truth) (k : Kind) (a : Answer) → ruling.is_sound truth.claim ≡ true → IsTrueAnswer truth k a → is_fit ruling k a ≡ true

pub record BisectionLaws : Type 0 where
  pub narrow : RoundsNarrow
  pub proof : ProofRoundCloses
  pub invariant : InvariantIsKept
  pub fits : TrueAnswersFit
  pub proofs : TrueProofsProve
  pub few : RoundsAreFew
  pub held : SettledIsHeld
  pub played : PlayedOverAnswers

-- the order in which the two sides settle changes nothing
abbrev pub OrderOfSidesIsFree : Type 0
OrderOfSidesIsFree =
    (ruling : Ruling) (d : Bisection) (a b : Settled) → d.by_first ≡ None → d.by_second ≡ None →
    settle_second ruling b (settle_first ruling a d) ≡ settle_first ruling a (settle_second ruling b d)
