-- A round closes its dispute or narrows its interval.
use Rattle.std.proofs.Common.{◌≡◌, ℕ, ◌+◌, ◌-◌, ◌*◌, ◌/◌, ◌<◌, ◌≤◌, min, Bool, true, false, if◌then◌else◌, List, ◌⊎◌, inl, inr, Option, Some, None, refl, arith}
use Rattle.std.proofs.lemmas.Bool.Decides.{nat_tests}
use Rattle.bisect_game.specs.declared.settled.Interval.{Interval}
use Rattle.bisect_game.specs.declared.settled.Settled.{Settled}
use Rattle.bisect_game.specs.declared.settled.Close.{Close}
use Rattle.rd_base.specs.declared.digest.Digest32.{Digest32}
use Rattle.bisect_game.proofs.CutLemmas.{IsPart, part, below}
use Rattle.bisect_game.specs.Bisection.{Bisection, cut, kept, parts_of, went_on, closed_or, decided, roots_of, agreeing}
use Rattle.bisect_game.specs.Closing.{is_step, both_proved, close_of}
use Rattle.bisect_game.specs.Laws.{IsNarrower, HasClosed, RoundsNarrow, ProofRoundCloses}
use Rattle.bisect_game.specs.Ruling.{Ruling}

pub kept-narrows : (fan : ℕ) (i : Interval) (xs ys : List Digest32) → 1 < fan → is_step i ≡ false → IsNarrower i (kept (parts_of fan i) i xs ys)
unfolding cut
kept-narrows fan i xs ys more long =
    let l : ℕ = i.hi - i.lo in
    let wide : 1 < i.hi - i.lo = grind (arith, nat_tests) in
    let p : IsPart (i.hi - i.lo) _ _ = part (min fan (i.hi - i.lo)) (i.hi - i.lo) (min (agreeing xs ys) (min fan (i.hi - i.lo) - 1)) (omega arith) (omega arith) in
    let b : ((min (agreeing xs ys) (min fan (i.hi - i.lo) - 1) + 1) * (i.hi - i.lo)) / min fan (i.hi - i.lo) ≤ i.hi - i.lo =
    below (min fan (i.hi - i.lo)) (i.hi - i.lo) (min (agreeing xs ys) (min fan (i.hi - i.lo) - 1) + 1) (omega arith) (omega arith) in
    record { some = omega (arith, p.some); low = omega arith; high = omega (arith, wide); less = omega (arith, p.less) }

closes : (x y : Bool) (c1 c2 : Close) → (if x then Some c1 else if y then Some c2 else None) ≡ None → y ≡ false
closes true y c1 c2 e = absurd (cc)
closes false true c1 c2 e = absurd (cc)
closes false false c1 c2 e = refl

-- a dispute that a round doesn't close is longer than a step
pub close_of-none : (r : Ruling) (i : Interval) (a b : Settled) → close_of r i a b ≡ None → is_step i ≡ false
unfolding close_of
close_of-none r i a b e = closes _ (is_step i) _ (both_proved r i.agreed a b) e

decided-by : (ruling : Ruling) (d : Bisection) (a b : Settled) (o : Option Close) → 1 < d.fan → (o ≡ None → is_step d.place ≡ false) →
    HasClosed d (closed_or d (went_on d a b) o) ⊎ IsNarrower d.place (closed_or d (went_on d a b) o).place
decided-by ruling d a b (Some c) more h = inl (record { closed = refl; stays = refl })
decided-by ruling d a b None more h = inr (kept-narrows d.fan d.place (roots_of a) (roots_of b) more (h refl))

pub rounds_narrow : RoundsNarrow
unfolding decided
rounds_narrow ruling d a b more = decided-by ruling d a b (close_of ruling d.place a b) more (close_of-none ruling d.place a b)

-- the proof round closes its dispute

proof-by : (ruling : Ruling) (d : Bisection) (a b : Settled) (x step : Bool) (c m : Close) → step ≡ true →
    HasClosed d (closed_or d (went_on d a b) (if x then Some c else if step then Some m else None))
proof-by ruling d a b true step c m e = record { closed = refl; stays = refl }
proof-by ruling d a b false true c m e = record { closed = refl; stays = refl }
proof-by ruling d a b false false c m e = absurd (cc)

pub proof_round_closes : ProofRoundCloses
unfolding decided close_of
proof_round_closes ruling d a b step = proof-by ruling d a b _ (is_step d.place) _ (both_proved ruling d.place.agreed a b) step
