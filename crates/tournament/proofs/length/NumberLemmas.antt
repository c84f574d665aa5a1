-- A match numbers its disputes from 1, and plays them between its provers.
use Rattle.std.proofs.Common.{◌≡◌, ℕ, zero, suc, ◌+◌, ◌-◌, ◌≤◌, Bool, true, false, List, [], ◌∷◌, ◌++◌, length, replicate, slice_get, slice_set, Option, Some, None, if◌then◌else◌, refl, sym, ◌∙◌, ap, arith, subst}
use Rattle.rd_base.specs.declared.digest.Digest32.{Digest32}
use Rattle.rd_base.specs.declared.claim.Claim.{Claim}
use Rattle.bisect_game.specs.declared.settled.Settled.{Settled}
use Rattle.bisect_game.specs.declared.settled.Close.{Close}
use Rattle.bisect_game.specs.Ruling.{Ruling, same_digest}
use Rattle.bisect_game.specs.Rules.{Rules}
use Rattle.bisect_game.specs.Closing.{close_of}
use Rattle.bisect_game.specs.Bisection.{Bisection, went_on, closed_or, decided, advanced, settle_first, settle_second}
use Rattle.tournament.specs.Bracket.{Record, nothing_settled, claim_in, is_out_in, also, live_from, live, Taken, passed_over, take_other, pairs_of, pairs, disputes_of, last_stage, is_stage_due, stage_opened, asks_first, asks_second, claim_missing, settled_in, put, settle}
use Rattle.tournament.specs.Fitting.{PostsSettle}
use Rattle.tournament.specs.Settling.{after}
use Rattle.tournament.specs.Numbers.{IsProver, AreNumbered, IsOfProvers, RecordsAreOfProvers}

-- a round keeps the number and the sides

record IsSameDispute (d e : Bisection) : Type 0 where
  number : e.number ≡ d.number
  first : e.first ≡ d.first
  second : e.second ≡ d.second

same-closed : (d : Bisection) (a b : Settled) (o : Option Close) → IsSameDispute d (closed_or d (went_on d a b) o)
same-closed d a b (Some c) = record { number = refl; first = refl; second = refl }
same-closed d a b None = record { number = refl; first = refl; second = refl }

same-advanced : (ruling : Ruling) (d : Bisection) (a b : Option Settled) → IsSameDispute d (advanced ruling d a b)
unfolding decided
same-advanced ruling d (Some a) (Some b) = same-closed d a b (close_of ruling d.place a b)
same-advanced ruling d (Some a) None = record { number = refl; first = refl; second = refl }
same-advanced ruling d None b = record { number = refl; first = refl; second = refl }

same-first : (ruling : Ruling) (s : Settled) (d : Bisection) → IsSameDispute d (settle_first ruling s d)
unfolding settle_first
same-first ruling s d =
    let k : IsSameDispute (record d { by_first = Some s }) (advanced ruling (record d { by_first = Some s }) (Some s) d.by_second) = same-advanced ruling (record d { by_first = Some s }) (Some s) d.by_second in
    record { number = k.number; first = k.first; second = k.second }

same-second : (ruling : Ruling) (s : Settled) (d : Bisection) → IsSameDispute d (settle_second ruling s d)
unfolding settle_second
same-second ruling s d =
    let k : IsSameDispute (record d { by_second = Some s }) (advanced ruling (record d { by_second = Some s }) d.by_first (Some s)) = same-advanced ruling (record d { by_second = Some s }) d.by_first (Some s) in
    record { number = k.number; first = k.first; second = k.second }

-- a dispute with its number and sides
abbrev IsNumbered : ℕ → ℕ → Bisection → Type 0
IsNumbered m n d = (d.number ≡ n) × (IsProver m d.first × IsProver m d.second)

numbered-same : (m n : ℕ) (d e : Bisection) → IsSameDispute d e → IsNumbered m n d → IsNumbered m n e
numbered-same m n d e k i = (k.number ∙ i.0, (subst (IsProver m) (sym k.first) i.1.0, subst (IsProver m) (sym k.second) i.1.1))

-- one of the disputes is settled
numbered-settled : (rules : Rules) (m n p : ℕ) (s : Settled) (ds : List Bisection) → AreNumbered m n ds → AreNumbered m n (settled_in rules p s ds)
numbered-settled rules m n p s [] i = tt
numbered-settled rules m n p s (d ∷ ds) i = by (asks_first p d) (asks_second p d) (numbered-settled rules m (n + 1) p s ds i.1)
  where
    by : (a b : Bool) → AreNumbered m (n + 1) (settled_in rules p s ds) →
        AreNumbered m n (if a then settle_first rules.ruling s d ∷ ds else if b then settle_second rules.ruling s d ∷ ds else d ∷ settled_in rules p s ds)
    by true b further = (numbered-same m n d (settle_first rules.ruling s d) (same-first rules.ruling s d) i.0, i.1)
    by false true further = (numbered-same m n d (settle_second rules.ruling s d) (same-second rules.ruling s d) i.0, i.1)
    by false false further = (i.0, further)

-- the live are provers

abbrev AllProvers : ℕ → List (ℕ × Claim) → Type 0
AllProvers m [] = Unit {0}
AllProvers m (x ∷ xs) = IsProver m x.0 × AllProvers m xs

live-provers : (m p : ℕ) (ds : List Bisection) (claims : List (Option Settled)) → 1 ≤ p → p + length claims ≤ suc m → AllProvers m (live_from ds p claims)
live-provers m p ds [] low high = tt
live-provers m p ds (s ∷ ss) low high = by (is_out_in ds p) (claim_in s) (live-provers m (p + 1) ds ss (omega arith) (omega (arith, high)))
  where
    by : (out : Bool) (c : Option Claim) → AllProvers m (live_from ds (p + 1) ss) → AllProvers m (if out then live_from ds (p + 1) ss else also p c (live_from ds (p + 1) ss))
    by true c further = further
    by false None further = further
    by false (Some c) further = ((low, omega (arith, high)), further)

-- and so are those who are paired

record IsTaken (m : ℕ) (t : (ℕ × Claim) × List (ℕ × Claim)) : Type 0 where
  other : IsProver m (t.0).0
  rest : AllProvers m t.1

abbrev IsTakenIf : ℕ → Taken → Type 0
IsTakenIf m None = Unit {0}
IsTakenIf m (Some t) = IsTaken m t

taken-over : (m : ℕ) (x : ℕ × Claim) (t : Taken) → IsProver m x.0 → IsTakenIf m t → IsTakenIf m (passed_over x t)
taken-over m x None is i = tt
taken-over m x (Some t) is i = record { other = i.other; rest = (is, i.rest) }

taken-provers : (m : ℕ) (r : Ruling) (root : Digest32) (xs : List (ℕ × Claim)) → AllProvers m xs → IsTakenIf m (take_other r root xs)
taken-provers m r root [] i = tt
taken-provers m r root (x ∷ xs) i = by (same_digest (r.root_of x.1) root) (taken-provers m r root xs i.1)
  where
    by : (same : Bool) → IsTakenIf m (take_other r root xs) → IsTakenIf m (if same then passed_over x (take_other r root xs) else Some (x, xs))
    by true further = taken-over m x (take_other r root xs) i.0 further
    by false further = record { other = i.0; rest = i.1 }

abbrev ArePairs : ℕ → List ((ℕ × Claim) × (ℕ × Claim)) → Type 0
ArePairs m [] = Unit {0}
ArePairs m (p ∷ ps) = (IsProver m (p.0).0 × IsProver m (p.1).0) × ArePairs m ps

pairs-provers : (m : ℕ) (r : Ruling) (n : ℕ) (xs : List (ℕ × Claim)) → AllProvers m xs → ArePairs m (pairs_of r n xs)
pairs-provers m r zero xs i = tt
pairs-provers m r (suc n) [] i = tt
pairs-provers m r (suc n) (x ∷ xs) i = by (take_other r (r.root_of x.1) xs) (taken-provers m r (r.root_of x.1) xs i.1) (pairs-provers m r n)
  where
    by : (t : Taken) → IsTakenIf m t → ((ys : List (ℕ × Claim)) → AllProvers m ys → ArePairs m (pairs_of r n ys)) →
        ArePairs m (elim t [ None ↦ pairs_of r n xs | Some u ↦ (x, u.0) ∷ pairs_of r n u.1 ])
    by None k further = further xs i.1
    by (Some u) k further = ((i.0, k.other), further u.1 k.rest)

-- a stage numbers its disputes on

numbered-pairs : (rules : Rules) (m stage n : ℕ) (ps : List ((ℕ × Claim) × (ℕ × Claim))) → ArePairs m ps → AreNumbered m n (disputes_of rules stage n ps)
numbered-pairs rules m stage n [] i = tt
numbered-pairs rules m stage n (p ∷ ps) i = ((refl, i.0), numbered-pairs rules m stage (n + 1) ps i.1)

numbered-both : (m n : ℕ) (ds es : List Bisection) → AreNumbered m n ds → AreNumbered m (n + length ds) es → AreNumbered m n (ds ++ es)
numbered-both m n [] es a b = let e : n + 0 ≡ n = omega arith in rw e at b
numbered-both m n (d ∷ ds) es a b = let e : n + suc (length ds) ≡ n + 1 + length ds = omega arith in (a.0, numbered-both m (n + 1) ds es a.1 (rw e at b))

opened-provers : (rules : Rules) (t : Record) → IsOfProvers rules.setup.provers t → IsOfProvers rules.setup.provers (stage_opened rules t)
unfolding stage_opened
opened-provers rules t i = by (is_stage_due rules t)
  where
    by : (due : Bool) → IsOfProvers rules.setup.provers (if due then record t { disputes = t.disputes ++ disputes_of rules (last_stage t.disputes + 1) (length t.disputes + 1) (pairs rules t) } else t)
    by false = i
    by true =
        let count : length t.claims ≡ rules.setup.provers = i.claims in
        let are : AllProvers rules.setup.provers (live t) = live-provers rules.setup.provers 1 t.disputes t.claims (omega arith) (omega (arith, count)) in
        let next : length t.disputes + 1 ≡ 1 + length t.disputes = omega arith in
        let fresh : AreNumbered rules.setup.provers (length t.disputes + 1) (disputes_of rules (last_stage t.disputes + 1) (length t.disputes + 1) (pairs rules t)) =
        numbered-pairs rules rules.setup.provers (last_stage t.disputes + 1) (length t.disputes + 1) (pairs rules t) (pairs-provers rules.setup.provers rules.ruling rules.setup.provers (live t) are) in
        record { claims = i.claims; disputes = numbered-both rules.setup.provers 1 t.disputes _ i.disputes (rw (sym next) fresh) }

-- settling

set-length : (ss : List (Option Settled)) (k : ℕ) (o : Option Settled) → length (slice_set ss k o) ≡ length ss
set-length [] k o = refl
set-length (s ∷ ss) zero o = refl
set-length (s ∷ ss) (suc k) o = ap suc (set-length ss k o)

put-provers : (rules : Rules) (p : ℕ) (s : Settled) (t : Record) → IsOfProvers rules.setup.provers t → IsOfProvers rules.setup.provers (put rules p s t)
put-provers rules p s t i = by (claim_missing (slice_get t.claims (p - 1)))
  where
    by : (missing : Bool) → IsOfProvers rules.setup.provers (if missing then record t { claims = slice_set t.claims (p - 1) (Some s) } else record t { disputes = settled_in rules p s t.disputes })
    by true = record { claims = set-length t.claims (p - 1) (Some s) ∙ i.claims; disputes = i.disputes }
    by false = record { claims = i.claims; disputes = numbered-settled rules rules.setup.provers 1 p s t.disputes i.disputes }

settle-provers : (rules : Rules) (p : ℕ) (s : Settled) (t : Record) → IsOfProvers rules.setup.provers t → IsOfProvers rules.setup.provers (settle rules p s t)
unfolding settle
settle-provers rules p s t i = opened-provers rules (put rules p s t) (put-provers rules p s t i)

after-provers : (rules : Rules) (es : List (ℕ × Settled)) (t : Record) → IsOfProvers rules.setup.provers t → IsOfProvers rules.setup.provers (after rules es t)
after-provers rules [] t i = i
after-provers rules (e ∷ es) t i = after-provers rules es (settle rules e.0 e.1 t) (settle-provers rules e.0 e.1 t i)

replicate-length : (n : ℕ) (o : Option Settled) → length (replicate n o) ≡ n
replicate-length zero o = refl
replicate-length (suc n) o = ap suc (replicate-length n o)

pub records-are-of-provers : PostsSettle → RecordsAreOfProvers
records-are-of-provers settles rules xs =
    let s = settles rules xs in
    subst (IsOfProvers rules.setup.provers) s.2 (after-provers rules s.0 (nothing_settled rules) (record { claims = replicate-length rules.setup.provers None; disputes = tt }))
