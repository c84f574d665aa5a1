-- A match that is played in the order of its text: what is settled is the front of what the text lists.
use Rattle.std.proofs.Common.{◌≡◌, ℕ, zero, suc, ◌+◌, ◌-◌, ◌<◌, ◌≤◌, Bool, true, false, not, ◌&&◌, if◌then◌else◌, List, [], ◌∷◌, ◌++◌, length, replicate, slice_set, Option, Some, None, is_some, is_none, refl, sym, ◌∙◌, ap, arith, append-nil, append_assoc}
use Rattle.std.proofs.lemmas.Bool.{and_parts}
use Rattle.rd_base.specs.declared.claim.Claim.{Claim}
use Rattle.rd_base.specs.declared.digest.Digest32.{Digest32}
use Rattle.bisect_game.specs.declared.settled.Round.{Round}
use Rattle.bisect_game.specs.declared.settled.Question.{Question}
use Rattle.bisect_game.specs.declared.settled.Settled.{Settled}
use Rattle.bisect_game.specs.declared.settled.Close.{Close}
use Rattle.bisect_game.specs.Ruling.{Ruling, same_digest}
use Rattle.bisect_game.specs.Rules.{Rules}
use Rattle.bisect_game.specs.Closing.{close_of}
use Rattle.bisect_game.specs.Bisection.{Bisection, question_of, is_closed, closed_or, went_on, decided, advanced, settle_first, settle_second}
use Rattle.tournament.specs.Bracket.{disputes_of, pairs_of, Taken, take_other, passed_over, live_from, also, claim_in, is_out_in, all_there, all_out, put_out}
use Rattle.bisect_game.specs.Rules.{claim_question}
use Rattle.transcript_text.specs.declared.text.TextMove.{TextMove}
use Rattle.transcript_text.specs.MoveLists.{moves_of_claims, moves_of_round, moves_of_past, moves_of_dispute, moves_of_disputes}
use Rattle.audit.specs.NextEntry.{next_claim}
use Rattle.audit.proofs.NextLemmas.{IsMissing, next-missing}

abbrev pub move_on : ℕ → Question → Settled → TextMove
move_on p q s = record { qid = q.qid; prover = p; settled = s }

-- CLAIMS

abbrev pub AllNone : List (Option Settled) → Type 0
AllNone [] = Unit {0}
AllNone (s ∷ ss) = (s ≡ None) × AllNone ss

abbrev pub ClaimsInOrder : List (Option Settled) → Type 0
ClaimsInOrder [] = Unit {0}
ClaimsInOrder (None ∷ ss) = AllNone ss
ClaimsInOrder (Some s ∷ ss) = ClaimsInOrder ss

pub all-none : (n : ℕ) → AllNone (replicate n None)
all-none zero = tt
all-none (suc n) = (refl, all-none n)

pub order-none : (n : ℕ) → ClaimsInOrder (replicate n None)
order-none zero = tt
order-none (suc n) = all-none n

pub none-order : (ss : List (Option Settled)) → AllNone ss → ClaimsInOrder ss
none-order [] h = tt
none-order (None ∷ ss) h = h.1
none-order (Some s ∷ ss) h = absurd (let no : Some s ≡ None = h.0 in cc)

pub none-moves : (k : ℕ) (ss : List (Option Settled)) → AllNone ss → moves_of_claims k ss ≡ []
none-moves k [] h = refl
none-moves k (None ∷ ss) h = none-moves (k + 1) ss h.1
none-moves k (Some s ∷ ss) h = absurd (let no : Some s ≡ None = h.0 in cc)

pub set-order : (k p : ℕ) (s : Settled) (ss : List (Option Settled)) → next_claim k ss ≡ Some p → ClaimsInOrder ss → ClaimsInOrder (slice_set ss (p - k) (Some s))
set-order k p s [] e h = tt
set-order k p s (None ∷ ss) e h =
    let at : k ≡ p = cc in
    let z : p - k ≡ 0 = omega arith in
    rw z (none-order ss h)
set-order k p s (Some x ∷ ss) e h =
    let m : IsMissing (k + 1) p ss = next-missing (k + 1) p ss e in
    let z : p - k ≡ suc (p - (k + 1)) = omega (arith, m.from) in
    rw z (set-order (k + 1) p s ss e h)

pub set-moves : (k p : ℕ) (s : Settled) (ss : List (Option Settled)) → next_claim k ss ≡ Some p → ClaimsInOrder ss →
    moves_of_claims k (slice_set ss (p - k) (Some s)) ≡ moves_of_claims k ss ++ move_on p claim_question s ∷ []
set-moves k p s [] e h = absurd (cc)
set-moves k p s (None ∷ ss) e h =
    let at : k ≡ p = cc in
    let z : p - k ≡ 0 = omega arith in
    rw (z, none-moves (k + 1) ss h) (ap (λ (n : ℕ). move_on n claim_question s ∷ []) at)
set-moves k p s (Some x ∷ ss) e h =
    let m : IsMissing (k + 1) p ss = next-missing (k + 1) p ss e in
    let z : p - k ≡ suc (p - (k + 1)) = omega (arith, m.from) in
    rw z (ap (λ (ms : List TextMove). move_on k claim_question x ∷ ms) (set-moves (k + 1) p s ss e h))

pub set-length : (ss : List (Option Settled)) (k : ℕ) (o : Option Settled) → length (slice_set ss k o) ≡ length ss
set-length [] k o = refl
set-length (x ∷ ss) zero o = refl
set-length (x ∷ ss) (suc k) o = ap suc (set-length ss k o)

pub missing-not-there : (k p : ℕ) (ss : List (Option Settled)) → next_claim k ss ≡ Some p → all_there ss ≡ false
missing-not-there k p [] e = absurd (cc)
missing-not-there k p (None ∷ ss) e = refl
missing-not-there k p (Some x ∷ ss) e = missing-not-there (k + 1) p ss e

pub none-all-there : (k : ℕ) (ss : List (Option Settled)) → next_claim k ss ≡ None → all_there ss ≡ true
none-all-there k [] e = refl
none-all-there k (None ∷ ss) e = absurd (cc)
none-all-there k (Some x ∷ ss) e = none-all-there (k + 1) ss e

-- DISPUTES: the closed ones, then at most one in play, in which the first side is asked first, then those that have just begun

pub record IsBegun (d : Bisection) : Type 0 where
  pub past : d.past ≡ []
  pub first : d.by_first ≡ None
  pub second : d.by_second ≡ None

abbrev pub AllBegun : List Bisection → Type 0
AllBegun [] = Unit {0}
AllBegun (d ∷ ds) = IsBegun d × AllBegun ds

abbrev pub DisputesInOrder : List Bisection → Type 0
DisputesInOrder [] = Unit {0}
DisputesInOrder (d ∷ ds) = (is_closed d ≡ false → (d.by_second ≡ None) × AllBegun ds) × DisputesInOrder ds

pub begun-order : (ds : List Bisection) → AllBegun ds → DisputesInOrder ds
begun-order [] h = tt
begun-order (d ∷ ds) h = (λ still. (h.0.second, h.1), begun-order ds h.1)

pub begun-moves-of : (d : Bisection) → IsBegun d → moves_of_dispute d ≡ []
begun-moves-of d h = rw (h.past, h.first, h.second) refl

pub begun-moves : (ds : List Bisection) → AllBegun ds → moves_of_disputes ds ≡ []
begun-moves [] h = refl
begun-moves (d ∷ ds) h = rw (begun-moves-of d h.0, begun-moves ds h.1) refl

pub moves-both : (ds es : List Bisection) → moves_of_disputes (ds ++ es) ≡ moves_of_disputes ds ++ moves_of_disputes es
moves-both [] es = refl
moves-both (d ∷ ds) es = ap (λ (ms : List TextMove). moves_of_dispute d ++ ms) (moves-both ds es) ∙ sym (append_assoc (moves_of_dispute d) (moves_of_disputes ds) (moves_of_disputes es))

pub out-closed : (c : Option Close) → put_out c ≡ true → is_some c ≡ true
out-closed None e = absurd (cc)
out-closed (Some c) e = refl

pub out-order : (ds es : List Bisection) → all_out ds ≡ true → AllBegun es → DisputesInOrder (ds ++ es)
out-order [] es out h = begun-order es h
out-order (d ∷ ds) es out h =
    let parts : (put_out d.close ≡ true) × (all_out ds ≡ true) = and_parts (put_out d.close) (all_out ds) out in
    let closed : is_closed d ≡ true = out-closed d.close parts.0 in
    (λ still. absurd (let no : true ≡ false = sym closed ∙ still in cc), out-order ds es parts.1 h)

-- the sides and numbers of disputes

pub record HasSides (n provers : ℕ) (d : Bisection) : Type 0 where
  pub number : d.number ≡ n
  pub some : 0 < d.first
  pub rise : d.first < d.second
  pub few : d.second ≤ provers

abbrev pub AllSided : ℕ → ℕ → List Bisection → Type 0
AllSided n provers [] = Unit {0}
AllSided n provers (d ∷ ds) = HasSides n provers d × AllSided (n + 1) provers ds

pub sided-both : (n m provers : ℕ) (ds es : List Bisection) → n + length ds ≡ m → AllSided n provers ds → AllSided m provers es → AllSided n provers (ds ++ es)
sided-both n m provers [] es e a b = let same : m ≡ n = omega arith in rw same at b
sided-both n m provers (d ∷ ds) es e a b = (a.0, sided-both (n + 1) m provers ds es (omega arith) a.1 b)

-- numbers of provers that rise, from k to m
abbrev pub Rising : ℕ → ℕ → List (ℕ × Claim) → Type 0
Rising k m [] = Unit {0}
Rising k m (x ∷ xs) = (k ≤ x.0) × (x.0 ≤ m) × Rising (x.0 + 1) m xs

pub rising-from : (j k m : ℕ) (xs : List (ℕ × Claim)) → j ≤ k → Rising k m xs → Rising j m xs
rising-from j k m [] le r = tt
rising-from j k m (x ∷ xs) le r = (omega (arith, r.0), r.1, r.2)

pub rising-also : (p m : ℕ) (o : Option Claim) (xs : List (ℕ × Claim)) → p ≤ m → Rising (p + 1) m xs → Rising p m (also p o xs)
rising-also p m (Some c) xs le r = (omega arith, le, r)
rising-also p m None xs le r = rising-from p (p + 1) m xs (omega arith) r

pub rising-if : (ds : List Bisection) (p m : ℕ) (b : Bool) (s : Option Settled) (ss : List (Option Settled)) → p ≤ m → Rising (p + 1) m (live_from ds (p + 1) ss) →
    Rising p m (if b then live_from ds (p + 1) ss else also p (claim_in s) (live_from ds (p + 1) ss))
rising-if ds p m true s ss le r = rising-from p (p + 1) m (live_from ds (p + 1) ss) (omega arith) r
rising-if ds p m false s ss le r = rising-also p m (claim_in s) (live_from ds (p + 1) ss) le r

pub rising-live : (ds : List Bisection) (p m : ℕ) (ss : List (Option Settled)) → p + length ss ≡ m + 1 → Rising p m (live_from ds p ss)
rising-live ds p m [] e = tt
rising-live ds p m (s ∷ ss) e = rising-if ds p m (is_out_in ds p) s ss (omega arith) (rising-live ds (p + 1) m ss (omega arith))

-- one that is taken, and the others
abbrev pub IsTakenIn : ℕ → ℕ → Taken → Type 0
IsTakenIn k m None = Unit {0}
IsTakenIn k m (Some t) = (k ≤ t.0.0) × (t.0.0 ≤ m) × Rising k m t.1

pub taken-over : (k m : ℕ) (x : ℕ × Claim) (t : Taken) → k ≤ x.0 → x.0 ≤ m → IsTakenIn (x.0 + 1) m t → IsTakenIn k m (passed_over x t)
taken-over k m x None le top h = tt
taken-over k m x (Some t) le top h = (omega (arith, h.0), h.1, (le, top, h.2))

pub taken-if : (r : Ruling) (root : Digest32) (k m : ℕ) (x : ℕ × Claim) (xs : List (ℕ × Claim)) (b : Bool) → k ≤ x.0 → x.0 ≤ m → Rising (x.0 + 1) m xs → IsTakenIn (x.0 + 1) m (take_other r root xs) →
    IsTakenIn k m (if b then passed_over x (take_other r root xs) else Some (x, xs))
taken-if r root k m x xs true le top rise h = taken-over k m x (take_other r root xs) le top h
taken-if r root k m x xs false le top rise h = (le, top, rising-from k (x.0 + 1) m xs (omega arith) rise)

pub taken-in : (r : Ruling) (root : Digest32) (k m : ℕ) (xs : List (ℕ × Claim)) → Rising k m xs → IsTakenIn k m (take_other r root xs)
taken-in r root k m [] rise = tt
taken-in r root k m (x ∷ xs) rise = taken-if r root k m x xs (same_digest (r.root_of x.1) root) rise.0 rise.1 rise.2 (taken-in r root (x.0 + 1) m xs rise.2)

abbrev pub AllPairs : ℕ → List ((ℕ × Claim) × (ℕ × Claim)) → Type 0
AllPairs m [] = Unit {0}
AllPairs m (p ∷ ps) = (0 < p.0.0) × (p.0.0 < p.1.0) × (p.1.0 ≤ m) × AllPairs m ps

pub pairs-by : (r : Ruling) (n k m : ℕ) (x : ℕ × Claim) (xs : List (ℕ × Claim)) (t : Taken) → 0 < k → k ≤ x.0 → Rising (x.0 + 1) m xs → IsTakenIn (x.0 + 1) m t →
    ((ys : List (ℕ × Claim)) → Rising (x.0 + 1) m ys → AllPairs m (pairs_of r n ys)) →
    AllPairs m (elim t [ None ↦ pairs_of r n xs | Some t ↦ (x, t.0) ∷ pairs_of r n t.1 ])
pairs-by r n k m x xs None some le rise h rest = rest xs rise
pairs-by r n k m x xs (Some t) some le rise h rest = (omega arith, omega (arith, h.0), h.1, rest t.1 h.2)

pub pairs-in : (r : Ruling) (n k m : ℕ) (xs : List (ℕ × Claim)) → 0 < k → Rising k m xs → AllPairs m (pairs_of r n xs)
pairs-in r zero k m xs some rise = tt
pairs-in r (suc n) k m [] some rise = tt
pairs-in r (suc n) k m (x ∷ xs) some rise =
    pairs-by r n k m x xs (take_other r (r.root_of x.1) xs) some rise.0 rise.2 (taken-in r (r.root_of x.1) (x.0 + 1) m xs rise.2)
    (λ ys up. pairs-in r n (x.0 + 1) m ys (omega arith) up)

pub sided-new : (rules : Rules) (stage n m : ℕ) (ps : List ((ℕ × Claim) × (ℕ × Claim))) → AllPairs m ps → AllSided n m (disputes_of rules stage n ps)
sided-new rules stage n m [] h = tt
sided-new rules stage n m (p ∷ ps) h = (record { number = refl; some = h.0; rise = h.1; few = h.2 }, sided-new rules stage (n + 1) m ps h.3)

pub begun-new : (rules : Rules) (stage n : ℕ) (ps : List ((ℕ × Claim) × (ℕ × Claim))) → AllBegun (disputes_of rules stage n ps)
begun-new rules stage n [] = tt
begun-new rules stage n (p ∷ ps) = (record { past = refl; first = refl; second = refl }, begun-new rules stage (n + 1) ps)

-- A SIDE SETTLES

pub record SameSides (d e : Bisection) : Type 0 where
  pub number : e.number ≡ d.number
  pub first : e.first ≡ d.first
  pub second : e.second ≡ d.second

pub past-more : (n x y k : ℕ) (rs : List Round) (r : Round) → moves_of_past n x y k (rs ++ r ∷ []) ≡ moves_of_past n x y k rs ++ moves_of_round n x y (k + length rs) (Some r.first) (Some r.second)
past-more n x y k [] r = let e : k + 0 ≡ k = omega arith in rw e refl
past-more n x y k (q ∷ rs) r =
    let e : k + suc (length rs) ≡ k + 1 + length rs = omega arith in
    rw e (ap (λ (ms : List TextMove). moves_of_round n x y k (Some q.first) (Some q.second) ++ ms) (past-more n x y (k + 1) rs r))

-- what is decided of a round whose sides are both settled
pub record IsDecided (d e : Bisection) : Type 0 where
  pub moves : moves_of_dispute e ≡ moves_of_dispute d
  pub waits : is_closed e ≡ false → e.by_second ≡ None
  pub sides : SameSides d e

decided-by : (d : Bisection) (a b : Settled) (o : Option Close) → d.by_first ≡ Some a → d.by_second ≡ Some b → IsDecided d (closed_or d (went_on d a b) o)
decided-by d a b (Some c) ea eb = record { moves = refl; waits = λ still. absurd (cc); sides = record { number = refl; first = refl; second = refl } }
decided-by d a b None ea eb = record {
  moves = append-nil _ ∙ (past-more d.number d.first d.second 1 d.past (record { lo = d.place.lo; hi = d.place.hi; first = a; second = b })
      ∙ (let k : 1 + length d.past ≡ length d.past + 1 = omega arith in rw (k, ea, eb) refl));
  waits = λ still. refl;
  sides = record { number = refl; first = refl; second = refl };
}

is-decided : (ruling : Ruling) (d : Bisection) (a b : Settled) → d.by_first ≡ Some a → d.by_second ≡ Some b → IsDecided d (decided ruling d a b)
unfolding decided
is-decided ruling d a b ea eb = decided-by d a b (close_of ruling d.place a b) ea eb

-- what a side settles in a dispute, and what stays
pub record IsSettledIn (d e : Bisection) (m : TextMove) : Type 0 where
  pub moves : moves_of_dispute e ≡ moves_of_dispute d ++ m ∷ []
  pub waits : is_closed e ≡ false → e.by_second ≡ None
  pub sides : SameSides d e

pub first-waits : (ruling : Ruling) (s : Settled) (d : Bisection) → d.by_second ≡ None → settle_first ruling s d ≡ record d { by_first = Some s }
unfolding settle_first
first-waits ruling s d none = ap (advanced ruling (record d { by_first = Some s }) (Some s)) none

pub settled-first : (ruling : Ruling) (s : Settled) (d : Bisection) → d.by_first ≡ None → d.by_second ≡ None → IsSettledIn d (settle_first ruling s d) (move_on d.first (question_of d) s)
settled-first ruling s d ea eb =
    rw (first-waits ruling s d eb) (record {
      moves = rw (ea, eb) (sym (ap (λ (ms : List TextMove). ms ++ move_on d.first (question_of d) s ∷ []) (append-nil (moves_of_past d.number d.first d.second 1 d.past))));
      waits = λ still. eb;
      sides = record { number = refl; first = refl; second = refl };
    })

pub second-decides : (ruling : Ruling) (s a : Settled) (d : Bisection) → d.by_first ≡ Some a → settle_second ruling s d ≡ decided ruling (record d { by_second = Some s }) a s
unfolding settle_second
second-decides ruling s a d e = ap (λ (o : Option Settled). advanced ruling (record d { by_second = Some s }) o (Some s)) e

pub settled-second : (ruling : Ruling) (s a : Settled) (d : Bisection) → d.by_first ≡ Some a → d.by_second ≡ None → IsSettledIn d (settle_second ruling s d) (move_on d.second (question_of d) s)
settled-second ruling s a d ea eb =
    let i : IsDecided (record d { by_second = Some s }) (decided ruling (record d { by_second = Some s }) a s) = is-decided ruling (record d { by_second = Some s }) a s ea refl in
    rw (second-decides ruling s a d ea) (record {
      moves = i.moves ∙ rw (ea, eb) (sym (append_assoc (moves_of_past d.number d.first d.second 1 d.past) _ (move_on d.second (question_of d) s ∷ [])));
      waits = i.waits;
      sides = record { number = i.sides.number; first = i.sides.first; second = i.sides.second };
    })

-- what asks is open

pub record IsOpenSide (o : Option Settled) (c : Option Close) : Type 0 where
  pub missing : o ≡ None
  pub still : is_some c ≡ false

pub side-open : (o : Option Settled) (c : Option Close) → (is_none o && not (is_some c)) ≡ true → IsOpenSide o c
side-open None None e = record { missing = refl; still = refl }
side-open None (Some c) e = absurd (cc)
side-open (Some s) c e = absurd (cc)

pub side-settled : (o : Option Settled) (c : Option Close) → (is_none o && not (is_some c)) ≡ false → is_some c ≡ false → (a : Settled) × (o ≡ Some a)
side-settled None None e still = absurd (cc)
side-settled None (Some c) e still = absurd (cc)
side-settled (Some a) c e still = (a, refl)
