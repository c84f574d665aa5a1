-- To believe: how disputes close. Whatever was posted, a dispute that has closed has eliminated a side or has a collision, a collision
-- eliminates nobody, and a prover is in one dispute at most that has eliminated nobody, be it open or closed by a collision.
use Rattle.std.specs.Prelude.{◌≡◌, ℕ, ◌+◌, ◌≤◌, Bool, true, false, not, ◌&&◌, ◌||◌, List, [], ◌∷◌, Option, Some, None}
use Rattle.bisect_game.specs.declared.settled.Close.{Close}
use Rattle.bisect_game.specs.declared.settled.Close.TheVariants as close
use Rattle.bisect_game.specs.Bisection.{Bisection}
use Rattle.bisect_game.specs.Rules.{Rules}
use Rattle.tournament.specs.Bracket.{put_out, is_out_by}
use Rattle.tournament.specs.OpenDisputes.{one_if, is_side}
use Rattle.tournament.specs.Posting.{Post, record_after}

-- it has eliminated a side, or has a collision, or is open
abbrev pub PutsOutOrCollides : Option Close → Type 0
PutsOutOrCollides (Some (close.Out a b)) = (a || b) ≡ true
PutsOutOrCollides (Some (close.Collision s u)) = Unit {0}
PutsOutOrCollides None = Unit {0}

abbrev pub AllPutOutOrCollide : List Bisection → Type 0
AllPutOutOrCollide [] = Unit {0}
AllPutOutOrCollide (d ∷ ds) = PutsOutOrCollides d.close × AllPutOutOrCollide ds

abbrev pub DisputesPutOutOrCollide : Type 0
DisputesPutOutOrCollide = (rules : Rules) (xs : List Post) → AllPutOutOrCollide (record_after rules xs).disputes

-- a collision eliminates nobody
abbrev pub is_collision : Option Close → Bool
is_collision (Some (close.Collision s u)) = true
is_collision (Some (close.Out a b)) = false
is_collision None = false

abbrev pub CollisionsPutOutNobody : Type 0
CollisionsPutOutNobody = (d : Bisection) (p : ℕ) → is_collision d.close ≡ true → is_out_by d d.close p ≡ false

-- in how many disputes a prover is that have eliminated nobody
abbrev pub undecided_among : ℕ → List Bisection → ℕ
undecided_among p [] = 0
undecided_among p (d ∷ ds) = one_if (is_side p d && not (put_out d.close)) + undecided_among p ds

abbrev pub OneIsUndecided : Type 0
OneIsUndecided = (rules : Rules) (xs : List Post) (p : ℕ) → undecided_among p (record_after rules xs).disputes ≤ 1
