-- Every dispute of a match stands at an interval of the match, after rounds over such intervals.
use Rattle.std.proofs.Common.{◌≡◌, ℕ, ◌<◌, ◌≤◌, List, [], ◌∷◌, ◌++◌, ◌⊎◌, inl, inr, Option, Some, None, arith}
use Rattle.bisect_game.specs.declared.settled.Round.{Round}
use Rattle.bisect_game.specs.declared.settled.Close.{Close}
use Rattle.bisect_game.specs.declared.settled.Settled.{Settled}
use Rattle.bisect_game.specs.Closing.{close_of}
use Rattle.bisect_game.specs.Bisection.{Bisection, closed_or, went_on, decided, advanced, settle_first, settle_second}
use Rattle.bisect_game.specs.Laws.{IsNarrower, HasClosed}
use Rattle.bisect_game.specs.Rules.{Rules}
use Rattle.bisect_game.specs.Laws.{BisectionLaws}

-- how a dispute moves: it closes where it stands, or it narrows
abbrev pub Moved : Bisection → Bisection → Type 0
Moved d e = HasClosed d e ⊎ IsNarrower d.place e.place

-- rounds that went on, each over an interval that is not empty and ends at the bound or before it
abbrev pub RoundsWithin : ℕ → List Round → Type 0
RoundsWithin bound [] = Unit {0}
RoundsWithin bound (r ∷ rs) = ((r.lo < r.hi) × (r.hi ≤ bound)) × RoundsWithin bound rs

-- a dispute of a match: its fan is the match's, and it stands at such an interval, after such rounds
pub record IsWithin (rules : Rules) (d : Bisection) : Type 0 where
  pub fanned : d.fan ≡ rules.setup.fan
  pub some : d.place.lo < d.place.hi
  pub high : d.place.hi ≤ rules.setup.bound
  pub past : RoundsWithin rules.setup.bound d.past

module _ (laws : BisectionLaws) where
  rounds-last : (bound : ℕ) (rs : List Round) (r : Round) → RoundsWithin bound rs → r.lo < r.hi → r.hi ≤ bound → RoundsWithin bound (rs ++ r ∷ [])
  rounds-last bound [] r w some high = ((some, high), tt)
  rounds-last bound (x ∷ rs) r w some high = (w.0, rounds-last bound rs r w.1 some high)

  place-moved : (bound : ℕ) (d e : Bisection) → Moved d e → d.place.lo < d.place.hi → d.place.hi ≤ bound → (e.place.lo < e.place.hi) × (e.place.hi ≤ bound)
  place-moved bound d e (inl c) some high = rw c.stays (some, high)
  place-moved bound d e (inr n) some high = (n.some, omega (arith, n.high, high))

  within-decided : (rules : Rules) (d : Bisection) (a b : Settled) (o : Option Close) → IsWithin rules d → Moved d (closed_or d (went_on d a b) o) → IsWithin rules (closed_or d (went_on d a b) o)
  within-decided rules d a b (Some c) w m = record { fanned = w.fanned; some = w.some; high = w.high; past = w.past }
  within-decided rules d a b None w m =
      record {
        fanned = w.fanned;
        some = (place-moved rules.setup.bound d (went_on d a b) m w.some w.high).0;
        high = (place-moved rules.setup.bound d (went_on d a b) m w.some w.high).1;
        past = rounds-last rules.setup.bound d.past (record { lo = d.place.lo; hi = d.place.hi; first = a; second = b }) w.past w.some w.high;
      }

  pub within-advanced : (rules : Rules) (d : Bisection) (a b : Option Settled) → 1 < rules.setup.fan → IsWithin rules d → IsWithin rules (advanced rules.ruling d a b)
  unfolding decided
  within-advanced rules d (Some a) (Some b) more w = within-decided rules d a b (close_of rules.ruling d.place a b) w (laws.narrow rules.ruling d a b (omega (arith, more, w.fanned)))
  within-advanced rules d (Some a) None more w = w
  within-advanced rules d None b more w = w

  pub within-first : (rules : Rules) (s : Settled) (d : Bisection) → 1 < rules.setup.fan → IsWithin rules d → IsWithin rules (settle_first rules.ruling s d)
  unfolding settle_first
  within-first rules s d more w = within-advanced rules (record d { by_first = Some s }) (Some s) d.by_second more (record { fanned = w.fanned; some = w.some; high = w.high; past = w.past })

  pub within-second : (rules : Rules) (s : Settled) (d : Bisection) → 1 < rules.setup.fan → IsWithin rules d → IsWithin rules (settle_second rules.ruling s d)
  unfolding settle_second
  within-second rules s d more w = within-advanced rules (record d { by_second = Some s }) d.by_first (Some s) more (record { fanned = w.fanned; some = w.some; high = w.high; past = w.past })
