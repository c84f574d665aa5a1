-- What a match may ask is within its bound, so that the plain answer to it is the true one.
use Rattle.std.proofs.Common.{◌≡◌, ℕ, ◌-◌, ◌<◌, ◌≤◌, Bool, true, false, ◌&&◌, nat_lt, nat_le, refl, arith}
use Rattle.std.proofs.lemmas.Bool.Decides.{nat_tests}
use Rattle.bisect_game.specs.Bisection.{can_cut}
use Rattle.bisect_game.specs.declared.settled.Kind.{Kind}
use Rattle.bisect_game.specs.declared.settled.Kind.TheVariants as kind
use Rattle.tournament.specs.Asked.{IsWithinBound}
use Rattle.delegate.specs.OfCase.{may_ask}

both : (a b : Bool) → (a && b) ≡ true → (a ≡ true) × (b ≡ true)
both true true is = (refl, refl)
both true false is = absurd (cc is)
both false b is = absurd (cc is)

below : (a b : ℕ) → nat_lt a b ≡ true → a < b
below a b is = grind (arith, nat_tests)

at-most : (a b : ℕ) → nat_le a b ≡ true → a ≤ b
at-most a b is = grind (arith, nat_tests)

pub is-within : (bound : ℕ) (k : Kind) → may_ask bound k ≡ true → IsWithinBound bound k
is-within bound kind.Claim may = tt
is-within bound (kind.Root i) may = let is = both (nat_lt 0 i) (nat_lt i bound) may in (below 0 i is.0, below i bound is.1)
is-within bound (kind.Roots lo hi parts) may =
    let is = both (can_cut lo hi parts) (nat_le hi bound) may in
    let cut = both (nat_le 2 parts) (nat_le parts 16 && nat_le parts (hi - lo)) is.0 in
    let few = both (nat_le parts 16) (nat_le parts (hi - lo)) cut.1 in
    let parted = at-most 2 parts cut.0 in
    record { parted = omega (arith, parted); few_parts = at-most parts 16 few.0; long = at-most parts (hi - lo) few.1; high = at-most hi bound is.1 }
is-within bound (kind.Proof i) may = below i bound may
