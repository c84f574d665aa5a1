-- No line of a full text speaks against a prover whose answers are given and true.
use Rattle.std.proofs.Common.{◌≡◌, ℕ, suc, ◌+◌, ◌-◌, Bool, true, false, ◌&&◌, ◌||◌, ◌==◌, inl, inr, List, [], ◌∷◌, ◌++◌, length, slice_get, Option, Some, None, refl, arith}
use Rattle.std.proofs.lemmas.Bool.Decides.{nat_tests}
use Rattle.rd_base.specs.declared.answer.Qid.{Qid}
use Rattle.bisect_game.specs.declared.settled.Round.{Round}
use Rattle.bisect_game.specs.declared.settled.Kind.{Kind}
use Rattle.bisect_game.specs.declared.settled.Settled.{Settled}
use Rattle.bisect_game.specs.declared.settled.Settled.TheVariants.{Given, Faulty, Spent}
use Rattle.bisect_game.specs.declared.settled.Side.TheVariants.{First, Second}
use Rattle.bisect_game.specs.Rules.{Rules}
use Rattle.bisect_game.specs.Bisection.{Bisection}
use Rattle.bisect_game.specs.Truth.{Truth, IsTrueSettled, IsTrueSoFar, AllTrue}
use Rattle.tournament.specs.Bracket.{Record}
use Rattle.tournament.specs.Theorem.{HasTrueClaimSoFar, AllTrueIn, TrueIn}
use Rattle.tournament.specs.Truthful.{IsSafe}
use Rattle.transcript_text.specs.declared.text.TextMove.{TextMove}
use Rattle.transcript_text.specs.MoveLists.{qid_of, move_if, moves_of_claims, moves_of_round, moves_of_past, moves_of_dispute, moves_of_disputes, moves_of}
use Rattle.delegate.specs.Headline.{is_settled_against, are_moves_against}

is-equal : (m n : ℕ) → (m == n) ≡ true → m ≡ n
is-equal m n e = grind (arith, nat_tests)

against-append : (p : ℕ) (xs ys : List TextMove) → are_moves_against p xs ≡ false → are_moves_against p ys ≡ false → are_moves_against p (xs ++ ys) ≡ false
against-append p [] ys e f = f
against-append p (x ∷ xs) ys e f = both ((x.prover == p) && is_settled_against x.settled) (are_moves_against p xs) e (λ tail. against-append p xs ys tail f)
  where
    both : (a b : Bool) → (a || b) ≡ false → (b ≡ false → are_moves_against p (xs ++ ys) ≡ false) → (a || are_moves_against p (xs ++ ys)) ≡ false
    both true b e g = e
    both false b e g = g e

-- not settled, or given
abbrev IsQuiet : Option Settled → Type 0
IsQuiet None = Unit {0}
IsQuiet (Some (Given a)) = Unit {0}
IsQuiet (Some (Faulty a)) = ⊥
IsQuiet (Some Spent) = ⊥

quiet-move : (p q : ℕ) (qid : Qid) (s : Option Settled) → (q ≡ p → IsQuiet s) → are_moves_against p (move_if qid q s) ≡ false
quiet-move p q qid None quiet = refl
quiet-move p q qid (Some s) quiet = by (q == p) refl s quiet
  where
    by : (own : Bool) → (q == p) ≡ own → (s : Settled) → (q ≡ p → IsQuiet (Some s)) → ((own && is_settled_against s) || false) ≡ false
    by false is s quiet = refl
    by true is (Given a) quiet = refl
    by true is (Faulty a) quiet = absurd (quiet (is-equal q p is))
    by true is Spent quiet = absurd (quiet (is-equal q p is))

true-quiet : (t : Truth) (k : Kind) (s : Settled) → IsTrueSettled t k s → IsQuiet (Some s)
true-quiet t k (Given a) is = tt
true-quiet t k (Faulty a) is = absurd is
true-quiet t k Spent is = absurd is

so-far-quiet : (t : Truth) (k : Kind) (s : Option Settled) → IsTrueSoFar t k s → IsQuiet s
so-far-quiet t k None is = tt
so-far-quiet t k (Some s) is = true-quiet t k s is

quiet-round : (p : ℕ) (number first second round : ℕ) (a b : Option Settled) → (first ≡ p → IsQuiet a) → (second ≡ p → IsQuiet b) → are_moves_against p (moves_of_round number first second round a b) ≡ false
quiet-round p number first second round a b f g = against-append p (move_if (qid_of number round) first a) _ (quiet-move p first (qid_of number round) a f) (quiet-move p second (qid_of number round) b g)

quiet-past : (t : Truth) (fan p : ℕ) (number first second round : ℕ) (rs : List Round) → (first ≡ p → AllTrue t fan First rs) → (second ≡ p → AllTrue t fan Second rs)
    → are_moves_against p (moves_of_past number first second round rs) ≡ false
quiet-past t fan p number first second round [] f g = refl
quiet-past t fan p number first second round (r ∷ rs) f g =
    against-append p (moves_of_round number first second round (Some r.first) (Some r.second)) _
    (quiet-round p number first second round (Some r.first) (Some r.second) (λ mine. true-quiet t _ r.first (f mine).0) (λ mine. true-quiet t _ r.second (g mine).0))
    (quiet-past t fan p number first second (round + 1) rs (λ mine. (f mine).1) (λ mine. (g mine).1))

quiet-dispute : (rules : Rules) (t : Truth) (p : ℕ) (d : Bisection) → TrueIn rules t p d → are_moves_against p (moves_of_dispute d) ≡ false
quiet-dispute rules t p d is =
    against-append p (moves_of_past d.number d.first d.second 1 d.past) _
    (quiet-past t d.fan p d.number d.first d.second 1 d.past (λ mine. (is.first mine).past) (λ mine. (is.second mine).past))
    (quiet-round p d.number d.first d.second (length d.past + 1) d.by_first d.by_second (λ mine. so-far-quiet t _ d.by_first (is.first mine).open_) (λ mine. so-far-quiet t _ d.by_second (is.second mine).open_))

quiet-disputes : (rules : Rules) (t : Truth) (p : ℕ) (ds : List Bisection) → AllTrueIn rules t p ds → are_moves_against p (moves_of_disputes ds) ≡ false
quiet-disputes rules t p [] is = refl
quiet-disputes rules t p (d ∷ ds) is = against-append p (moves_of_dispute d) (moves_of_disputes ds) (quiet-dispute rules t p d is.0) (quiet-disputes rules t p ds is.1)

-- the claims

abbrev claimed : Option (Option Settled) → Option Settled
claimed (Some s) = s
claimed None = None

quiet-claims : (p q : ℕ) (ss : List (Option Settled)) → ((k : ℕ) → q + k ≡ p → IsQuiet (claimed (slice_get ss k))) → are_moves_against p (moves_of_claims q ss) ≡ false
quiet-claims p q [] f = refl
quiet-claims p q (s ∷ ss) f =
    against-append p (move_if (qid_of 0 0) q s) (moves_of_claims (q + 1) ss) (quiet-move p q (qid_of 0 0) s (λ mine. f 0 (omega (arith, mine)))) (quiet-claims p (q + 1) ss (λ k is. f (suc k) (omega (arith, is))))

quiet-true : (t : Truth) (claims : List (Option Settled)) (p : ℕ) → HasTrueClaimSoFar t claims p → IsQuiet (claimed (slice_get claims (p - 1)))
quiet-true t claims p (inl e) = rw e tt
quiet-true t claims p (inr e) = rw e tt

quiet-there : (claims : List (Option Settled)) (p k : ℕ) → 1 + k ≡ p → IsQuiet (claimed (slice_get claims (p - 1))) → IsQuiet (claimed (slice_get claims k))
quiet-there claims p k is quiet = let e : k ≡ p - 1 = omega (arith, is) in rw e quiet

pub no-moves-against : (rules : Rules) (t : Truth) (p : ℕ) (r : Record) → IsSafe rules t p r → are_moves_against p (moves_of r) ≡ false
no-moves-against rules t p r safe =
    against-append p (moves_of_claims 1 r.claims) (moves_of_disputes r.disputes)
    (quiet-claims p 1 r.claims (λ k is. quiet-there r.claims p k is (quiet-true t r.claims p safe.answers.claim)))
    (quiet-disputes rules t p r.disputes safe.answers.disputes)
