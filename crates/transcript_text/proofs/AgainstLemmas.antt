-- No line speaks against a prover whose answers are given and true and that isn't put out.
use Rattle.std.proofs.Common.{◌≡◌, ℕ, suc, ◌+◌, ◌-◌, Bool, true, false, ◌&&◌, ◌||◌, ◌==◌, inl, inr, List, [], ◌∷◌, ◌++◌, length, slice_get, Option, Some, None, if◌then◌else◌, refl, arith}
use Rattle.std.specs.Prelude.{min}
use Rattle.std.proofs.lemmas.Bool.Decides.{nat_tests}
use Rattle.std.proofs.lemmas.Bool.{or_from}
use Rattle.rd_base.specs.declared.answer.Answer.TheVariants as answer
use Rattle.bisect_game.specs.declared.settled.Round.{Round}
use Rattle.bisect_game.specs.declared.settled.Kind.{Kind}
use Rattle.bisect_game.specs.declared.settled.Settled.{Settled}
use Rattle.bisect_game.specs.declared.settled.Settled.TheVariants.{Given, Faulty, Spent}
use Rattle.bisect_game.specs.declared.settled.Close.{Close}
use Rattle.bisect_game.specs.declared.settled.Side.TheVariants.{First, Second}
use Rattle.bisect_game.specs.Rules.{Rules}
use Rattle.bisect_game.specs.Closing.{is_step}
use Rattle.bisect_game.specs.Bisection.{Bisection, middle}
use Rattle.bisect_game.specs.Truth.{Truth, IsTrueSettled, IsTrueSoFar, AllTrue, is_put_out}
use Rattle.tournament.specs.Bracket.{Record}
use Rattle.tournament.specs.Theorem.{HasTrueClaimSoFar, AllTrueIn, AllRightIn, TrueIn, RightIn}
use Rattle.tournament.specs.Truthful.{IsSafe}
use Rattle.transcript_text.specs.declared.disputes.Word.{Word}
use Rattle.transcript_text.specs.declared.disputes.Word.TheVariants as word
use Rattle.transcript_text.specs.Words.{said_word, said_word_of_proof, speaks_against}
use Rattle.transcript_text.specs.Lines.{Parted, Line, stage_line, said_in, is_said_against, is_against, is_against_if_there, are_against, line_of_claim, lines_of_claims, line_of_halves, line_of_parts, line_of_round, lines_of_rounds, line_of_step, line_of_last, lines_of_dispute, lines_of_disputes, lines_of_record}

is-equal : (m n : ℕ) → (m == n) ≡ true → m ≡ n
is-equal m n e = grind (arith, nat_tests)

are_against-append : (p : ℕ) (xs ys : List (Option Line)) → are_against p xs ≡ false → are_against p ys ≡ false → are_against p (xs ++ ys) ≡ false
are_against-append p [] ys e f = f
are_against-append p (x ∷ xs) ys e f = both (is_against_if_there p x) (are_against p xs) e (λ tail. are_against-append p xs ys tail f)
  where
    both : (a b : Bool) → (a || b) ≡ false → (b ≡ false → are_against p (xs ++ ys) ≡ false) → (a || are_against p (xs ++ ys)) ≡ false
    both true b e g = e
    both false b e g = g e

-- what is said of one side, where nothing is said against it if it is the prover's
quiet-side : (q p : ℕ) (w : Word) → (q ≡ p → speaks_against w ≡ false) → ((q == p) && speaks_against w) ≡ false
quiet-side q p w quiet = decided (q == p) refl
  where
    decided : (b : Bool) → (q == p) ≡ b → (b && speaks_against w) ≡ false
    decided true e = quiet (is-equal q p e)
    decided false e = refl

quiet-said : (p : ℕ) (d : Bisection) (x y : Word) → (d.first ≡ p → speaks_against x ≡ false) → (d.second ≡ p → speaks_against y ≡ false) → is_said_against p (said_in d x y) ≡ false
quiet-said p d x y f g = or_from _ _ (quiet-side d.first p x f) (quiet-side d.second p y g)

true-word : (t : Truth) (k : Kind) (s : Settled) → IsTrueSettled t k s → speaks_against (said_word s) ≡ false
true-word t k (Given a) is = refl
true-word t k (Faulty a) is = absurd is
true-word t k Spent is = absurd is

true-proof : (t : Truth) (k : Kind) (out : Bool) (s : Settled) → out ≡ false → IsTrueSettled t k s → speaks_against (said_word_of_proof out s) ≡ false
true-proof t k out (Given a) stays is = rw stays refl
true-proof t k out (Faulty a) stays is = absurd is
true-proof t k out Spent stays is = absurd is

-- a round
quiet-halves : (p : ℕ) (d : Bisection) (n m : ℕ) (a b : Settled) → (d.first ≡ p → speaks_against (said_word a) ≡ false) → (d.second ≡ p → speaks_against (said_word b) ≡ false)
    → is_against p (line_of_halves d n m a b) ≡ false
quiet-halves p d n m (Given (answer.Root x)) (Given (answer.Root y)) f g = refl
quiet-halves p d n m (Given (answer.Root x)) (Given (answer.Claim y)) f g = quiet-said p d word.Given word.Given f g
quiet-halves p d n m (Given (answer.Root x)) (Given (answer.Roots ys)) f g = quiet-said p d word.Given word.Given f g
quiet-halves p d n m (Given (answer.Root x)) (Given (answer.Step y)) f g = quiet-said p d word.Given word.Given f g
quiet-halves p d n m (Given (answer.Root x)) (Faulty y) f g = quiet-said p d word.Given word.Faulty f g
quiet-halves p d n m (Given (answer.Root x)) Spent f g = quiet-said p d word.Given word.Spent f g
quiet-halves p d n m (Given (answer.Claim x)) b f g = quiet-said p d word.Given (said_word b) f g
quiet-halves p d n m (Given (answer.Roots xs)) b f g = quiet-said p d word.Given (said_word b) f g
quiet-halves p d n m (Given (answer.Step x)) b f g = quiet-said p d word.Given (said_word b) f g
quiet-halves p d n m (Faulty x) b f g = quiet-said p d word.Faulty (said_word b) f g
quiet-halves p d n m Spent b f g = quiet-said p d word.Spent (said_word b) f g

quiet-parts : (p : ℕ) (d : Bisection) (r : Parted) (a b : Settled) → (d.first ≡ p → speaks_against (said_word a) ≡ false) → (d.second ≡ p → speaks_against (said_word b) ≡ false)
    → is_against p (line_of_parts d r a b) ≡ false
quiet-parts p d r (Given x) (Given y) f g = refl
quiet-parts p d r (Given x) (Faulty y) f g = quiet-said p d word.Given word.Faulty f g
quiet-parts p d r (Given x) Spent f g = quiet-said p d word.Given word.Spent f g
quiet-parts p d r (Faulty x) b f g = quiet-said p d word.Faulty (said_word b) f g
quiet-parts p d r Spent b f g = quiet-said p d word.Spent (said_word b) f g

quiet-round : (p : ℕ) (d : Bisection) (n lo hi : ℕ) (a b : Settled) → (d.first ≡ p → speaks_against (said_word a) ≡ false) → (d.second ≡ p → speaks_against (said_word b) ≡ false)
    → is_against p (line_of_round d n lo hi a b) ≡ false
quiet-round p d n lo hi a b f g = by (d.fan == 2)
  where
    r : Parted
    r = record { number = n; lo = lo; hi = hi; parts = min d.fan (hi - lo) }

    by : (halves : Bool) → is_against p (if halves then line_of_halves d n (middle lo hi) a b else line_of_parts d r a b) ≡ false
    by true = quiet-halves p d n (middle lo hi) a b f g
    by false = quiet-parts p d r a b f g

quiet-rounds : (t : Truth) (fan p : ℕ) (d : Bisection) (n : ℕ) (rs : List Round) → (d.first ≡ p → AllTrue t fan First rs) → (d.second ≡ p → AllTrue t fan Second rs)
    → are_against p (lines_of_rounds d n rs) ≡ false
quiet-rounds t fan p d n [] f g = refl
quiet-rounds t fan p d n (r ∷ rs) f g =
    or_from _ _
    (quiet-round p d n r.lo r.hi r.first r.second (λ mine. true-word t _ r.first (f mine).0) (λ mine. true-word t _ r.second (g mine).0))
    (quiet-rounds t fan p d (n + 1) rs (λ mine. (f mine).1) (λ mine. (g mine).1))

-- the last round
quiet-choice : (p : ℕ) (b : Bool) (x y : Option Line) → is_against_if_there p x ≡ false → is_against_if_there p y ≡ false → is_against_if_there p (if b then x else y) ≡ false
quiet-choice p true x y f g = f
quiet-choice p false x y f g = g

quiet-step : (t : Truth) (k : Kind) (p : ℕ) (d : Bisection) (c : Option Close) (a b : Settled)
    → (d.first ≡ p → (is_put_out First c ≡ false) × IsTrueSettled t k a) → (d.second ≡ p → (is_put_out Second c ≡ false) × IsTrueSettled t k b)
    → is_against_if_there p (line_of_step d c a b) ≡ false
quiet-step t k p d None a b f g = refl
quiet-step t k p d (Some c) a b f g =
    quiet-said p d (said_word_of_proof (is_put_out First (Some c)) a) (said_word_of_proof (is_put_out Second (Some c)) b)
    (λ mine. true-proof t k (is_put_out First (Some c)) a (f mine).0 (f mine).1) (λ mine. true-proof t k (is_put_out Second (Some c)) b (g mine).0 (g mine).1)

quiet-last : (t : Truth) (k : Kind) (p : ℕ) (d : Bisection) (a b : Option Settled)
    → (d.first ≡ p → (is_put_out First d.close ≡ false) × IsTrueSoFar t k a) → (d.second ≡ p → (is_put_out Second d.close ≡ false) × IsTrueSoFar t k b)
    → is_against_if_there p (line_of_last d a b) ≡ false
quiet-last t k p d (Some a) (Some b) f g =
    quiet-choice p (is_step d.place) (line_of_step d d.close a b) (Some (line_of_round d (length d.past + 1) d.place.lo d.place.hi a b))
    (quiet-step t k p d d.close a b f g)
    (quiet-round p d _ _ _ a b (λ mine. true-word t k a (f mine).1) (λ mine. true-word t k b (g mine).1))
quiet-last t k p d (Some a) None f g = refl
quiet-last t k p d None b f g = refl

quiet-dispute : (rules : Rules) (t : Truth) (p before : ℕ) (d : Bisection) → TrueIn rules t p d → RightIn t p d → are_against p (lines_of_dispute before d) ≡ false
quiet-dispute rules t p before d is right =
    or_from _ _ (quiet-choice p (d.stage == before) None (Some (stage_line d.stage)) refl refl)
    (are_against-append p (lines_of_rounds d 1 d.past) _
    (quiet-rounds t d.fan p d 1 d.past (λ mine. (is.first mine).past) (λ mine. (is.second mine).past))
    (or_from _ _
    (quiet-last t _ p d d.by_first d.by_second (λ mine. ((right.first mine).stays, (is.first mine).open_)) (λ mine. ((right.second mine).stays, (is.second mine).open_)))
    refl))

quiet-disputes : (rules : Rules) (t : Truth) (p before : ℕ) (ds : List Bisection) → AllTrueIn rules t p ds → AllRightIn t p ds → are_against p (lines_of_disputes before ds) ≡ false
quiet-disputes rules t p before [] is right = refl
quiet-disputes rules t p before (d ∷ ds) is right =
    are_against-append p (lines_of_dispute before d) (lines_of_disputes d.stage ds) (quiet-dispute rules t p before d is.0 right.0) (quiet-disputes rules t p d.stage ds is.1 right.1)

-- the claims

-- a claim that isn't settled, or is given
abbrev IsQuietClaim : Option Settled → Type 0
IsQuietClaim None = Unit {0}
IsQuietClaim (Some (Given a)) = Unit {0}
IsQuietClaim (Some (Faulty a)) = ⊥
IsQuietClaim (Some Spent) = ⊥

abbrev claimed : Option (Option Settled) → Option Settled
claimed (Some s) = s
claimed None = None

quiet-claim : (p q : ℕ) (s : Option Settled) → (q ≡ p → IsQuietClaim s) → is_against_if_there p (line_of_claim q s) ≡ false
quiet-claim p q None f = refl
quiet-claim p q (Some (Given (answer.Claim c))) f = refl
quiet-claim p q (Some (Given (answer.Root x))) f = refl
quiet-claim p q (Some (Given (answer.Roots xs))) f = refl
quiet-claim p q (Some (Given (answer.Step x))) f = refl
quiet-claim p q (Some (Faulty a)) f = quiet-side q p word.Faulty (λ mine. absurd (f mine))
quiet-claim p q (Some Spent) f = quiet-side q p word.Spent (λ mine. absurd (f mine))

quiet-claims : (p q : ℕ) (ss : List (Option Settled)) → ((k : ℕ) → q + k ≡ p → IsQuietClaim (claimed (slice_get ss k))) → are_against p (lines_of_claims q ss) ≡ false
quiet-claims p q [] f = refl
quiet-claims p q (s ∷ ss) f =
    or_from _ _ (quiet-claim p q s (λ mine. f 0 (omega (arith, mine)))) (quiet-claims p (q + 1) ss (λ k is. f (suc k) (omega (arith, is))))

quiet-true : (t : Truth) (claims : List (Option Settled)) (p : ℕ) → HasTrueClaimSoFar t claims p → IsQuietClaim (claimed (slice_get claims (p - 1)))
quiet-true t claims p (inl e) = rw e tt
quiet-true t claims p (inr e) = rw e tt

quiet-there : (claims : List (Option Settled)) (p k : ℕ) → 1 + k ≡ p → IsQuietClaim (claimed (slice_get claims (p - 1))) → IsQuietClaim (claimed (slice_get claims k))
quiet-there claims p k is quiet = let e : k ≡ p - 1 = omega (arith, is) in rw e quiet

pub nothing_against : (rules : Rules) (t : Truth) (p : ℕ) (r : Record) → IsSafe rules t p r → are_against p (lines_of_record r) ≡ false
nothing_against rules t p r safe =
    are_against-append p (lines_of_claims 1 r.claims) (lines_of_disputes 0 r.disputes)
    (quiet-claims p 1 r.claims (λ k is. quiet-there r.claims p k is (quiet-true t r.claims p safe.answers.claim)))
    (quiet-disputes rules t p 0 r.disputes safe.answers.disputes safe.stays.right)
