-- To believe: which part of its interval a round keeps, for every fan. The two sides gave the same root at each cut up to the beginning of
-- that part, and different roots at its end.
use Rattle.std.specs.Prelude.{◌≡◌, ◌≢◌, ℕ, ◌+◌, ◌<◌, ◌≤◌, false, List, [], ◌∷◌, ◌++◌, slice_index_or}
use Rattle.rd_base.specs.declared.digest.Digest32.{Digest32}
use Rattle.bisect_game.specs.declared.settled.Interval.{Interval}
use Rattle.bisect_game.specs.declared.settled.Settled.{Settled}
use Rattle.bisect_game.specs.Ruling.{Ruling}
use Rattle.bisect_game.specs.Truth.{IsFit}
use Rattle.bisect_game.specs.Bisection.{Bisection, cut, parts_of, kind_over, roots_of, decided, is_closed}

-- the root of a side at the cut with this number: at cut 0 the agreed root, at the cuts between the roots that the side gave, and at the
-- last cut the side's own root at the end of the interval
abbrev pub root_at_cut : Digest32 → List Digest32 → Digest32 → ℕ → Digest32
root_at_cut agreed given own j = slice_index_or (agreed ∷ given ++ own ∷ []) j own

abbrev pub first_at : Interval → Settled → ℕ → Digest32
first_at i a j = root_at_cut i.agreed (roots_of a) i.first j

abbrev pub second_at : Interval → Settled → ℕ → Digest32
second_at i b j = root_at_cut i.agreed (roots_of b) i.second j

-- of an interval in this many parts, over which the sides gave these answers, the part with this number is kept, counted from 0
pub record IsKeptPart (parts : ℕ) (i : Interval) (a b : Settled) (part : ℕ) (kept : Interval) : Type 0 where
  pub is_part : part < parts
  pub begins : kept.lo ≡ cut i.lo i.hi parts part
  pub ends : kept.hi ≡ cut i.lo i.hi parts (part + 1)
  pub agree : (j : ℕ) → j ≤ part → first_at i a j ≡ second_at i b j
  pub agreed : kept.agreed ≡ first_at i a part
  pub first : kept.first ≡ first_at i a (part + 1)
  pub second : kept.second ≡ second_at i b (part + 1)
  pub differ : kept.first ≢ kept.second

-- a round that leaves its dispute open keeps such a part
abbrev pub KeptPartIsFirstThatDiffers : Type 0
KeptPartIsFirstThatDiffers =
    (ruling : Ruling) (d : Bisection) (a b : Settled) → 1 < d.fan → d.place.first ≢ d.place.second →
    IsFit ruling (kind_over d.fan d.place.lo d.place.hi) a → IsFit ruling (kind_over d.fan d.place.lo d.place.hi) b →
    is_closed (decided ruling d a b) ≡ false →
    (part : ℕ) × IsKeptPart (parts_of d.fan d.place) d.place a b part (decided ruling d a b).place
