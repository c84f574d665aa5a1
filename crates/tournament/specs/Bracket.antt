-- To believe: a match. First the claims, then stages of disputes, then the verdict.
use Rattle.std.specs.Prelude.{ℕ, zero, suc, ◌+◌, ◌-◌, max, Bool, true, false, ◌&&◌, ◌||◌, ◌==◌, List, [], ◌∷◌, ◌++◌, length, map, replicate, slice_get, slice_set, Option, Some, None, is_some, is_none, if◌then◌else◌}
use Rattle.std.specs.Fn.{iterate}
use Rattle.std.specs.List.{list_all, list_any}
use Rattle.std.specs.Option.{option_or}
use Rattle.rd_base.specs.declared.digest.Digest32.{Digest32}
use Rattle.rd_base.specs.declared.claim.Claim.{Claim}
use Rattle.rd_base.specs.declared.answer.Answer.TheVariants as answer
use Rattle.bisect_game.specs.declared.settled.Claimed.{Claimed}
use Rattle.bisect_game.specs.declared.settled.Question.{Question}
use Rattle.bisect_game.specs.declared.settled.Settled.{Settled}
use Rattle.bisect_game.specs.declared.settled.Settled.TheVariants.{Given}
use Rattle.bisect_game.specs.declared.settled.Close.{Close}
use Rattle.bisect_game.specs.declared.settled.Close.TheVariants as close
use Rattle.bisect_game.specs.declared.settled.Side.TheVariants.{First, Second}
use Rattle.bisect_game.specs.Ruling.{Ruling, same_digest}
use Rattle.bisect_game.specs.Rules.{Rules, claim_question}
use Rattle.bisect_game.specs.Bisection.{Bisection, question_of, is_closed, asks, settle_first, settle_second}
use Rattle.bisect_game.specs.Disputes.{Answers, played, dispute_of}
use Rattle.tournament.specs.declared.reading.Verdict.{Verdict}
use Rattle.tournament.specs.declared.reading.Verdict.TheVariants.{Accept, NoneLeft, Collision}

-- what is settled in a match: what each prover's claim is settled as, by number, and the disputes by number
pub record Record : Type 0 where
  pub claims : List (Option Settled)
  pub disputes : List Bisection

-- nothing is settled yet
abbrev pub nothing_settled : Rules → Record
nothing_settled rules = record { claims = replicate rules.setup.provers None; disputes = [] }

-- THE LIVE: a prover is out whose claim was faulty or spent, or whom a dispute has eliminated

abbrev pub is_out_by : Bisection → Option Close → ℕ → Bool
is_out_by d (Some (close.Out a b)) p = (a && (d.first == p)) || (b && (d.second == p))
is_out_by d (Some (close.Collision s t)) p = false
is_out_by d None p = false

abbrev pub is_out_in : List Bisection → ℕ → Bool
is_out_in ds p = list_any (λ d. is_out_by d d.close p) ds

abbrev pub claim_in : Option Settled → Option Claim
claim_in (Some (Given (answer.Claim c))) = Some c
claim_in _ = None

abbrev pub also : ℕ → Option Claim → List (ℕ × Claim) → List (ℕ × Claim)
also p (Some c) xs = (p, c) ∷ xs
also p None xs = xs

-- the live provers with their claims, in order of number, of provers the first of which has this number
abbrev pub live_from : List Bisection → ℕ → List (Option Settled) → List (ℕ × Claim)
live_from ds p [] = []
live_from ds p (s ∷ ss) = if is_out_in ds p then live_from ds (p + 1) ss else also p (claim_in s) (live_from ds (p + 1) ss)

abbrev pub live : Record → List (ℕ × Claim)
live t = live_from t.disputes 1 t.claims

-- COLLISIONS OF CLAIMS: the least pair, the lower prover first

abbrev pub collision_with : Ruling → Claim → List (ℕ × Claim) → Option (List ℕ × List ℕ)
collision_with r c [] = None
collision_with r c (x ∷ xs) = option_or (r.claim_collision c x.1) (collision_with r c xs)

abbrev pub claims_collision : Ruling → List (ℕ × Claim) → Option (List ℕ × List ℕ)
claims_collision r [] = None
claims_collision r (x ∷ xs) = option_or (collision_with r x.1 xs) (claims_collision r xs)

-- PAIRS: each unpaired one with the lowest later unpaired one of another root

abbrev pub Taken : Type 0
Taken = Option ((ℕ × Claim) × List (ℕ × Claim))

abbrev pub passed_over : ℕ × Claim → Taken → Taken
passed_over x None = None
passed_over x (Some t) = Some (t.0, x ∷ t.1)

-- the first of another root, and the others
abbrev pub take_other : Ruling → Digest32 → List (ℕ × Claim) → Taken
take_other r root [] = None
take_other r root (x ∷ xs) = if same_digest (r.root_of x.1) root then passed_over x (take_other r root xs) else Some (x, xs)

-- there are never more pairs than provers
abbrev pub pairs_of : Ruling → ℕ → List (ℕ × Claim) → List ((ℕ × Claim) × (ℕ × Claim))
pairs_of r zero xs = []
pairs_of r (suc n) [] = []
pairs_of r (suc n) (x ∷ xs) = elim (take_other r (r.root_of x.1) xs) [ None ↦ pairs_of r n xs | Some t ↦ (x, t.0) ∷ pairs_of r n t.1 ]

abbrev pub pairs : Rules → Record → List ((ℕ × Claim) × (ℕ × Claim))
pairs rules t = pairs_of rules.ruling rules.setup.provers (live t)

-- STAGES: a dispute for each pair, numbered on through the match

abbrev pub side_of : Ruling → ℕ × Claim → Claimed
side_of r x = record { prover = x.0; root = r.root_of x.1 }

abbrev pub disputes_of : Rules → ℕ → ℕ → List ((ℕ × Claim) × (ℕ × Claim)) → List Bisection
disputes_of rules stage number [] = []
disputes_of rules stage number (p ∷ ps) =
    dispute_of rules.setup stage number (side_of rules.ruling p.0) (side_of rules.ruling p.1) ∷ disputes_of rules stage (number + 1) ps

abbrev pub last_stage : List Bisection → ℕ
last_stage [] = 0
last_stage (d ∷ ds) = max d.stage (last_stage ds)

abbrev pub all_there : List (Option Settled) → Bool
all_there ss = list_all is_some ss

abbrev pub put_out : Option Close → Bool
put_out (Some (close.Out a b)) = true
put_out (Some (close.Collision s t)) = false
put_out None = false

-- each dispute has closed, none by a collision
abbrev pub all_out : List Bisection → Bool
all_out ds = list_all (λ d. put_out d.close) ds

-- the next stage may begin: each claim is settled and none collide, and each dispute has closed, none by a collision
abbrev pub is_stage_due : Rules → Record → Bool
is_stage_due rules t = all_there t.claims && (all_out t.disputes && is_none (claims_collision rules.ruling (live_from [] 1 t.claims)))

unfoldable pub stage_opened : Rules → Record → Record
stage_opened rules t =
    if is_stage_due rules t then record t { disputes = t.disputes ++ disputes_of rules (last_stage t.disputes + 1) (length t.disputes + 1) (pairs rules t) }
    else t

-- THE BRACKET over answers that are settled: claims, then one stage after another, of which there are fewer than provers

abbrev pub claims_over : Answers → ℕ → List (Option Settled) → List (Option Settled)
claims_over f p [] = []
claims_over f p (s ∷ ss) = option_or s (f p claim_question) ∷ claims_over f (p + 1) ss

-- claims and disputes over the answers, as far as they go
unfoldable pub carried : Rules → Answers → Record → Record
carried rules f t = record { claims = claims_over f 1 t.claims; disputes = map (played rules f) t.disputes }

abbrev pub stage_over : Rules → Answers → Record → Record
stage_over rules f t = stage_opened rules (carried rules f t)

unfoldable pub bracket : Rules → Answers → Record
bracket rules f = iterate (stage_over rules f) rules.setup.provers (nothing_settled rules)

-- OPEN QUESTIONS: a prover has at most one

abbrev pub asks_first : ℕ → Bisection → Bool
asks_first p d = (d.first == p) && asks First d

abbrev pub asks_second : ℕ → Bisection → Bool
asks_second p d = (d.second == p) && asks Second d

abbrev pub question_in : ℕ → List Bisection → Option Question
question_in p [] = None
question_in p (d ∷ ds) = if asks_first p d || asks_second p d then Some (question_of d) else question_in p ds

abbrev pub claim_missing : Option (Option Settled) → Bool
claim_missing (Some None) = true
claim_missing (Some (Some s)) = false
claim_missing None = false

abbrev pub open_question : Rules → Record → ℕ → Option Question
open_question rules t p =
    if claim_missing (slice_get t.claims (p - 1)) then Some claim_question else question_in p t.disputes

abbrev pub all_closed : List Bisection → Bool
all_closed ds = list_all is_closed ds

-- nothing is open
abbrev pub is_complete : Record → Bool
is_complete t = all_there t.claims && all_closed t.disputes

-- SETTLING: the open question of a prover is settled, and the next stage begins if it is due

abbrev pub settled_in : Rules → ℕ → Settled → List Bisection → List Bisection
settled_in rules p s [] = []
settled_in rules p s (d ∷ ds) =
    if asks_first p d then settle_first rules.ruling s d ∷ ds
    else if asks_second p d then settle_second rules.ruling s d ∷ ds
    else d ∷ settled_in rules p s ds

abbrev pub put : Rules → ℕ → Settled → Record → Record
put rules p s t =
    if claim_missing (slice_get t.claims (p - 1)) then record t { claims = slice_set t.claims (p - 1) (Some s) }
    else record t { disputes = settled_in rules p s t.disputes }

unfoldable pub settle : Rules → ℕ → Settled → Record → Record
settle rules p s t = stage_opened rules (put rules p s t)

-- THE VERDICT: the collision of the claims, else that of the lowest dispute that has one, else the claim of the lowest live
-- prover, else nobody is left

abbrev pub collided : Option Close → Option (List ℕ × List ℕ)
collided (Some (close.Collision s u)) = Some (s, u)
collided (Some (close.Out a b)) = None
collided None = None

abbrev pub disputes_collision : List Bisection → Option (List ℕ × List ℕ)
disputes_collision [] = None
disputes_collision (d ∷ ds) = option_or (collided d.close) (disputes_collision ds)

abbrev pub lowest : List (ℕ × Claim) → Verdict
lowest [] = NoneLeft
lowest (x ∷ xs) = Accept x.0

abbrev pub or_lowest : Option (List ℕ × List ℕ) → List (ℕ × Claim) → Verdict
or_lowest (Some pair) xs = Collision (pair.0) (pair.1)
or_lowest None xs = lowest xs

abbrev pub verdict_of : Rules → Record → Verdict
verdict_of rules t = or_lowest (option_or (claims_collision rules.ruling (live_from [] 1 t.claims)) (disputes_collision t.disputes)) (live t)
