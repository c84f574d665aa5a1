-- A prover whose claim is settled and whom no dispute has put out is in the list of the live ones.
use Rattle.std.proofs.Common.{◌≡◌, ℕ, zero, suc, ◌+◌, ◌-◌, ◌<◌, Bool, true, false, List, [], ◌∷◌, slice_get, ◌⊎◌, inl, inr, Option, Some, None, refl, arith, Contains}
use Rattle.std.specs.Prelude.{if◌then◌else◌}
use Rattle.rd_base.specs.declared.claim.Claim.{Claim}
use Rattle.rd_base.specs.declared.answer.Answer.TheVariants as answer
use Rattle.bisect_game.specs.declared.settled.Settled.{Settled}
use Rattle.bisect_game.specs.declared.settled.Settled.TheVariants.{Given}
use Rattle.bisect_game.specs.Bisection.{Bisection}
use Rattle.bisect_game.specs.Truth.{Truth}
use Rattle.tournament.specs.Bracket.{Record, is_out_in, claim_in, also, live_from, live}
use Rattle.tournament.specs.Theorem.{HasTrueClaim}

abbrev pub IsIn : ℕ → Claim → List (ℕ × Claim) → Type 0
IsIn p c [] = ⊥
IsIn p c (x ∷ xs) = (x ≡ (p, c)) ⊎ IsIn p c xs

in-also : (q p : ℕ) (c : Claim) (o : Option Claim) (xs : List (ℕ × Claim)) → IsIn p c xs → IsIn p c (also q o xs)
in-also q p c (Some d) xs i = inr i
in-also q p c None xs i = i

in-choice : (q p : ℕ) (c : Claim) (s : Option Settled) (xs : List (ℕ × Claim)) (b : Bool) → IsIn p c xs → IsIn p c (if b then xs else also q (claim_in s) xs)
in-choice q p c s xs true i = i
in-choice q p c s xs false i = in-also q p c (claim_in s) xs i

pub live-in : (ds : List Bisection) (q k : ℕ) (c : Claim) (ss : List (Option Settled)) → slice_get ss k ≡ Some (Some (Given (answer.Claim c))) → is_out_in ds (q + k) ≡ false → IsIn (q + k) c (live_from ds q ss)
live-in ds q k c [] e stays = absurd (cc)
live-in ds q zero c (s ∷ ss) e stays =
    let same : s ≡ Some (Given (answer.Claim c)) = cc in
    let at : q + 0 ≡ q = omega arith in
    let here : is_out_in ds q ≡ false = rw at at stays in
    rw (at, here, same) (inl refl)
live-in ds q (suc k) c (s ∷ ss) e stays =
    let at : q + suc k ≡ q + 1 + k = omega arith in
    let there : is_out_in ds (q + 1 + k) ≡ false = rw at at stays in
    rw at (in-choice q (q + 1 + k) c s (live_from ds (q + 1) ss) (is_out_in ds q) (live-in ds (q + 1) k c ss e there))

contains-next : (x y : ℕ × Claim) (xs : List (ℕ × Claim)) → Contains xs y → Contains (x ∷ xs) y
contains-next x y xs (k, below, is) = (suc k, omega arith, is)

pub in-contains : (p : ℕ) (c : Claim) (xs : List (ℕ × Claim)) → IsIn p c xs → Contains xs (p, c)
in-contains p c [] i = absurd i
in-contains p c (x ∷ xs) (inl same) = (0, omega arith, same)
in-contains p c (x ∷ xs) (inr i) = contains-next x (p, c) xs (in-contains p c xs i)

pub live-contains : (t : Truth) (p : ℕ) (r : Record) → 0 < p → HasTrueClaim t r.claims p → is_out_in r.disputes p ≡ false → Contains (live r) (p, t.claim)
live-contains t p r some claim stays =
    let at : 1 + (p - 1) ≡ p = omega arith in
    in-contains p t.claim (live r) (rw at at (live-in r.disputes 1 (p - 1) t.claim r.claims claim (rw at stays)))
