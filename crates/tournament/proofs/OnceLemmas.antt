-- A prover is in at most one open dispute, so that its open question stays while others post.
use Rattle.std.proofs.Common.{◌≡◌, ◌≢◌, ℕ, zero, suc, ◌+◌, ◌-◌, ◌<◌, ◌≤◌, nat_le, Bool, true, false, not, ◌&&◌, ◌||◌, ◌==◌, if◌then◌else◌, List, [], ◌∷◌, ◌++◌, length, replicate, slice_get, slice_set, inl, inr, Option, Some, None, is_some, is_none, refl, sym, ◌∙◌, ap, arith}
use Rattle.std.proofs.lemmas.Bool.Decides.{nat_tests}
use Rattle.std.proofs.lemmas.Bool.{and_parts, cases_Bool, or_left, or_right, or_parts}
use Rattle.rd_base.specs.declared.digest.Digest32.{Digest32}
use Rattle.rd_base.specs.declared.claim.Claim.{Claim}
use Rattle.bisect_game.specs.declared.settled.Question.{Question}
use Rattle.bisect_game.specs.declared.settled.Settled.{Settled}
use Rattle.bisect_game.specs.declared.settled.Close.{Close}
use Rattle.bisect_game.specs.Bisection.{Bisection, is_closed, question_of, settle_first, settle_second, advanced}
use Rattle.bisect_game.specs.Rules.{Rules}
use Rattle.bisect_game.specs.Ruling.{Ruling, same_digest}
use Rattle.tournament.specs.OpenDisputes.{one_if, is_side, open_disputes_of}
use Rattle.tournament.proofs.OpenedLemmas.{opened-not, opened-due}
use Rattle.tournament.proofs.SidesLemmas.{SameSides, sides-first, sides-second}
use Rattle.tournament.specs.Bracket.{Record, is_out_in, claim_in, also, live_from, live, Taken, passed_over, take_other, pairs_of, pairs, last_stage, disputes_of, all_there, all_out, put_out, is_stage_due, stage_opened, nothing_settled, asks_first, asks_second, question_in, claim_missing, open_question, settled_in, put, settle}
use Rattle.bisect_game.specs.Rules.{claim_question}

-- how often a prover stands in a list of live ones
abbrev pub times : ℕ → List (ℕ × Claim) → ℕ
times p [] = 0
times p (x ∷ xs) = one_if (x.0 == p) + times p xs

abbrev pub TakenTimes : ℕ → List (ℕ × Claim) → Taken → Type 0
TakenTimes p xs None = Unit {0}
TakenTimes p xs (Some t) = times p xs ≡ one_if (t.0.0 == p) + times p t.1

times-passed : (p : ℕ) (x : ℕ × Claim) (xs : List (ℕ × Claim)) (t : Taken) → TakenTimes p xs t → TakenTimes p (x ∷ xs) (passed_over x t)
times-passed p x xs None c = tt
times-passed p x xs (Some t) c = omega (arith, c)

times-choice : (p : ℕ) (x : ℕ × Claim) (xs : List (ℕ × Claim)) (t : Taken) (b : Bool) → TakenTimes p xs t → TakenTimes p (x ∷ xs) (if b then passed_over x t else Some (x, xs))
times-choice p x xs t true c = times-passed p x xs t c
times-choice p x xs t false c = refl

pub times-taken : (r : Ruling) (p : ℕ) (root : Digest32) (xs : List (ℕ × Claim)) → TakenTimes p xs (take_other r root xs)
times-taken r p root [] = tt
times-taken r p root (x ∷ xs) = times-choice p x xs (take_other r root xs) (same_digest (r.root_of x.1) root) (times-taken r p root xs)

pub touch : (a b : Bool) → one_if ((a || b) && true) ≤ one_if a + one_if b
touch true b = omega arith
touch false true = omega arith
touch false false = omega arith

-- new disputes have each prover as often as the live ones have it
engaged-by : (rules : Rules) (g : ℕ) (p n k : ℕ) (x : ℕ × Claim) (xs : List (ℕ × Claim)) (t : Taken) → TakenTimes p xs t →
    open_disputes_of p (disputes_of rules g k (pairs_of rules.ruling n xs)) ≤ times p xs →
    ((ys : List (ℕ × Claim)) → open_disputes_of p (disputes_of rules g (k + 1) (pairs_of rules.ruling n ys)) ≤ times p ys) →
    open_disputes_of p (disputes_of rules g k (elim t [ None ↦ pairs_of rules.ruling n xs | Some u ↦ (x, u.0) ∷ pairs_of rules.ruling n u.1 ])) ≤ times p (x ∷ xs)
engaged-by rules g p n k x xs None c none some = omega (arith, none)
engaged-by rules g p n k x xs (Some u) c none some = omega (arith, c, some u.1, touch (x.0 == p) (u.0.0 == p))

pub engaged-new : (rules : Rules) (g : ℕ) (p n k : ℕ) (xs : List (ℕ × Claim)) → open_disputes_of p (disputes_of rules g k (pairs_of rules.ruling n xs)) ≤ times p xs
engaged-new rules g p zero k xs = omega arith
engaged-new rules g p (suc n) k [] = omega arith
engaged-new rules g p (suc n) k (x ∷ xs) =
    engaged-by rules g p n k x xs (take_other rules.ruling (rules.ruling.root_of x.1) xs) (times-taken rules.ruling p (rules.ruling.root_of x.1) xs)
    (engaged-new rules g p n k xs) (λ ys. engaged-new rules g p n (k + 1) ys)

-- a list of live provers repeats nobody

pub times-live : (p k : ℕ) (c : Option Claim) (xs : List (ℕ × Claim)) (b : Bool) → times p (if b then xs else also k c xs) ≤ one_if (k == p) + times p xs
times-live p k c xs true = omega arith
times-live p k (Some c) xs false = omega arith
times-live p k None xs false = omega arith

pub not-eqb : (m n : ℕ) → m ≢ n → (m == n) ≡ false
not-eqb m n ne = elim (cases_Bool (m == n)) [ inl e ↦ absurd (ne (grind (arith, nat_tests))) | inr e ↦ e ]

pub is-eqb : (m n : ℕ) → (m == n) ≡ true → m ≡ n
is-eqb m n e = grind (arith, nat_tests)

one-not : (m n : ℕ) → m ≢ n → one_if (m == n) ≡ 0
one-not m n ne = rw (not-eqb m n ne) refl

pub times-below : (ds : List Bisection) (p k : ℕ) (ss : List (Option Settled)) → p < k → times p (live_from ds k ss) ≡ 0
times-below ds p k [] lt = refl
times-below ds p k (s ∷ ss) lt =
    omega (arith, times-live p k (claim_in s) (live_from ds (k + 1) ss) (is_out_in ds k), times-below ds p (k + 1) ss (omega arith), one-not k p (λ e. omega arith))

times-above : (ds : List Bisection) (p k : ℕ) (ss : List (Option Settled)) → k + length ss ≤ p → times p (live_from ds k ss) ≡ 0
times-above ds p k [] le = refl
times-above ds p k (s ∷ ss) le =
    omega (arith, times-live p k (claim_in s) (live_from ds (k + 1) ss) (is_out_in ds k), times-above ds p (k + 1) ss (omega arith), one-not k p (λ e. omega arith))

pub times-once : (ds : List Bisection) (p k : ℕ) (ss : List (Option Settled)) → times p (live_from ds k ss) ≤ 1
times-once ds p k [] = omega arith
times-once ds p k (s ∷ ss) =
    elim (cases_Bool (k == p)) [
      | inl e ↦
          let same : k ≡ p = is-eqb k p e in
          let one : one_if (k == p) ≡ 1 = ap one_if e in
          omega (arith, one, times-live p k (claim_in s) (live_from ds (k + 1) ss) (is_out_in ds k), times-below ds p (k + 1) ss (omega arith))
      | inr e ↦
          let none : one_if (k == p) ≡ 0 = ap one_if e in
          omega (arith, none, times-live p k (claim_in s) (live_from ds (k + 1) ss) (is_out_in ds k), times-once ds p (k + 1) ss)
    ]

-- what is true of every record of a match: a prover is in at most one open dispute, and only provers are
pub record IsApart (rules : Rules) (p : ℕ) (t : Record) : Type 0 where
  pub claims : length t.claims ≡ rules.setup.provers
  pub one : open_disputes_of p t.disputes ≤ 1
  pub known : rules.setup.provers < p → open_disputes_of p t.disputes ≡ 0
  pub numbered : p ≡ 0 → open_disputes_of p t.disputes ≡ 0

pub engaged-both : (p : ℕ) (ds es : List Bisection) → open_disputes_of p (ds ++ es) ≡ open_disputes_of p ds + open_disputes_of p es
engaged-both p [] es = omega arith
engaged-both p (d ∷ ds) es = omega (arith, engaged-both p ds es)

out-closed : (a : Bool) (c : Option Close) → put_out c ≡ true → one_if (a && not (is_some c)) ≡ 0
out-closed true (Some c) e = refl
out-closed false (Some c) e = refl
out-closed a None e = absurd (cc)

pub engaged-out : (p : ℕ) (ds : List Bisection) → all_out ds ≡ true → open_disputes_of p ds ≡ 0
engaged-out p [] e = refl
engaged-out p (d ∷ ds) e =
    let two : (put_out d.close ≡ true) × (all_out ds ≡ true) = and_parts (put_out d.close) (all_out ds) e in
    omega (arith, out-closed (is_side p d) d.close two.0, engaged-out p ds two.1)

apart-opened : (rules : Rules) (p : ℕ) (t : Record) → IsApart rules p t → IsApart rules p (stage_opened rules t)
apart-opened rules p t a =
    elim (cases_Bool (is_stage_due rules t)) [
      | inl due ↦
          let two : (all_there t.claims ≡ true) × (_ ≡ true) = and_parts (all_there t.claims) _ due in
          let outs : (all_out t.disputes ≡ true) × (_ ≡ true) = and_parts (all_out t.disputes) _ two.1 in
          let none : open_disputes_of p t.disputes ≡ 0 = engaged-out p t.disputes outs.0 in
          let sum : open_disputes_of p (t.disputes ++ disputes_of rules (last_stage t.disputes + 1) (length t.disputes + 1) (pairs rules t)) ≡ open_disputes_of p t.disputes + open_disputes_of p (disputes_of rules (last_stage t.disputes + 1) (length t.disputes + 1) (pairs rules t)) =
          engaged-both p t.disputes (disputes_of rules (last_stage t.disputes + 1) (length t.disputes + 1) (pairs rules t)) in
          let new : open_disputes_of p (disputes_of rules (last_stage t.disputes + 1) (length t.disputes + 1) (pairs rules t)) ≤ times p (live t) = engaged-new rules (last_stage t.disputes + 1) p rules.setup.provers (length t.disputes + 1) (live t) in
          rw (opened-due rules t due) (record {
            claims = a.claims;
            one = omega (arith, sum, none, new, times-once t.disputes p 1 t.claims);
            known = λ past. omega (arith, sum, none, new, times-above t.disputes p 1 t.claims (omega (arith, a.claims)));
            numbered = λ zero_. omega (arith, sum, none, new, times-below t.disputes p 1 t.claims (omega arith));
          })
      | inr not_due ↦ rw (opened-not rules t not_due) a
    ]

-- that a side is asked says that its answer is missing and that the dispute is open
pub record IsOpen (o : Option Settled) (c : Option Close) : Type 0 where
  pub missing : o ≡ None
  pub still : is_some c ≡ false

pub opens : (same : Bool) (o : Option Settled) (c : Option Close) → (same && (is_none o && not (is_some c))) ≡ true → (same ≡ true) × IsOpen o c
opens true None None e = (refl, record { missing = refl; still = refl })
opens true None (Some c) e = absurd (cc)
opens true (Some s) c e = absurd (cc)
opens false o c e = absurd (cc)

one-less : (a b : Bool) → one_if (a && b) ≤ one_if (a && true)
one-less true true = omega arith
one-less true false = omega arith
one-less false b = omega arith

-- who is settled in an open dispute is in no more open disputes than before
engaged-same : (p : ℕ) (d e : Bisection) → SameSides d e → is_closed d ≡ false → one_if (is_side p e && not (is_closed e)) ≤ one_if (is_side p d && not (is_closed d))
engaged-same p d e k still = rw (k.first, k.second, still) (one-less (is_side p d) (not (is_closed e)))

engaged-choice : (rules : Rules) (p who : ℕ) (s : Settled) (d : Bisection) (ds : List Bisection) (x y : Bool) → asks_first who d ≡ x → asks_second who d ≡ y →
    open_disputes_of p (settled_in rules who s ds) ≤ open_disputes_of p ds →
    open_disputes_of p (if x then settle_first rules.ruling s d ∷ ds else if y then settle_second rules.ruling s d ∷ ds else d ∷ settled_in rules who s ds) ≤ open_disputes_of p (d ∷ ds)
engaged-choice rules p who s d ds true y ex ey r =
    let a : ((d.first == who) ≡ true) × IsOpen d.by_first d.close = opens (d.first == who) d.by_first d.close ex in
    omega (arith, engaged-same p d (settle_first rules.ruling s d) (sides-first rules.ruling s d) a.1.still)
engaged-choice rules p who s d ds false true ex ey r =
    let a : ((d.second == who) ≡ true) × IsOpen d.by_second d.close = opens (d.second == who) d.by_second d.close ey in
    omega (arith, engaged-same p d (settle_second rules.ruling s d) (sides-second rules.ruling s d) a.1.still)
engaged-choice rules p who s d ds false false ex ey r = omega (arith, r)

engaged-settled : (rules : Rules) (p who : ℕ) (s : Settled) (ds : List Bisection) → open_disputes_of p (settled_in rules who s ds) ≤ open_disputes_of p ds
engaged-settled rules p who s [] = omega arith
engaged-settled rules p who s (d ∷ ds) =
    engaged-choice rules p who s d ds (asks_first who d) (asks_second who d) refl refl (engaged-settled rules p who s ds)

pub set-length : (ss : List (Option Settled)) (k : ℕ) (o : Option Settled) → length (slice_set ss k o) ≡ length ss
set-length [] k o = refl
set-length (s ∷ ss) zero o = refl
set-length (s ∷ ss) (suc k) o = ap suc (set-length ss k o)

apart-put : (rules : Rules) (p who : ℕ) (s : Settled) (t : Record) (b : Bool) → IsApart rules p t →
    IsApart rules p (if b then record t { claims = slice_set t.claims (who - 1) (Some s) } else record t { disputes = settled_in rules who s t.disputes })
apart-put rules p who s t true a = record { claims = set-length t.claims (who - 1) (Some s) ∙ a.claims; one = a.one; known = a.known; numbered = a.numbered }
apart-put rules p who s t false a = record {
  claims = a.claims;
  one = omega (arith, a.one, engaged-settled rules p who s t.disputes);
  known = λ past. omega (arith, a.known past, engaged-settled rules p who s t.disputes);
  numbered = λ zero_. omega (arith, a.numbered zero_, engaged-settled rules p who s t.disputes);
}

pub apart-settle : (rules : Rules) (p who : ℕ) (s : Settled) (t : Record) → IsApart rules p t → IsApart rules p (settle rules who s t)
unfolding settle
apart-settle rules p who s t a = apart-opened rules p (put rules who s t) (apart-put rules p who s t (claim_missing (slice_get t.claims (who - 1))) a)

none-length : (n : ℕ) → let none : List (Option Settled) = replicate n None in length none ≡ n
none-length zero = refl
none-length (suc n) = ap suc (none-length n)

pub apart-nothing : (rules : Rules) (p : ℕ) → IsApart rules p (nothing_settled rules)
apart-nothing rules p = record { claims = none-length rules.setup.provers; one = omega arith; known = λ past. refl; numbered = λ zero_. refl }

-- who is asked in a dispute is in an open one

one-touch : (a b c : Bool) → (a || b) ≡ true → c ≡ false → one_if ((a || b) && not c) ≡ 1
one-touch a b c e f = rw (e, f) refl

engaged-in : (p : ℕ) (q : Question) (d : Bisection) (ds : List Bisection) (u v : Bool) → asks_first p d ≡ u → asks_second p d ≡ v →
    (if u || v then Some (question_of d) else question_in p ds) ≡ Some q → (question_in p ds ≡ Some q → 1 ≤ open_disputes_of p ds) → 1 ≤ open_disputes_of p (d ∷ ds)
engaged-in p q d ds true v eu ev e r =
    let a : ((d.first == p) ≡ true) × IsOpen d.by_first d.close = opens (d.first == p) d.by_first d.close eu in
    omega (arith, one-touch (d.first == p) (d.second == p) (is_closed d) (or_left _ _ a.0) a.1.still)
engaged-in p q d ds false true eu ev e r =
    let a : ((d.second == p) ≡ true) × IsOpen d.by_second d.close = opens (d.second == p) d.by_second d.close ev in
    omega (arith, one-touch (d.first == p) (d.second == p) (is_closed d) (or_right _ _ a.0) a.1.still)
engaged-in p q d ds false false eu ev e r = omega (arith, r e)

pub engaged-asked : (p : ℕ) (q : Question) (ds : List Bisection) → question_in p ds ≡ Some q → 1 ≤ open_disputes_of p ds
engaged-asked p q [] e = absurd (cc)
engaged-asked p q (d ∷ ds) e = engaged-in p q d ds (asks_first p d) (asks_second p d) refl refl e (engaged-asked p q ds)

-- only a prover of the match is asked

has-claim : (ss : List (Option Settled)) (k : ℕ) → claim_missing (slice_get ss k) ≡ true → k < length ss
has-claim [] k e = absurd (cc)
has-claim (s ∷ ss) zero e = omega arith
has-claim (s ∷ ss) (suc k) e = omega (arith, has-claim ss k e)

prover-by : (rules : Rules) (p : ℕ) (q : Question) (t : Record) (b : Bool) → claim_missing (slice_get t.claims (p - 1)) ≡ b → 0 < p → IsApart rules p t →
    (if b then Some claim_question else question_in p t.disputes) ≡ Some q → p ≤ rules.setup.provers
prover-by rules p q t true eb some a e = omega (arith, has-claim t.claims (p - 1) eb, a.claims)
prover-by rules p q t false eb some a e =
    elim (cases_Bool (nat_le p rules.setup.provers)) [
      | inl le ↦ grind (arith, nat_tests)
      | inr gt ↦ let past : rules.setup.provers < p = grind (arith, nat_tests) in absurd (omega (arith, a.known past, engaged-asked p q t.disputes e))
    ]

pub is-prover : (rules : Rules) (p : ℕ) (q : Question) (t : Record) → 0 < p → IsApart rules p t → open_question rules t p ≡ Some q → p ≤ rules.setup.provers
is-prover rules p q t some a e = prover-by rules p q t (claim_missing (slice_get t.claims (p - 1))) refl some a e

-- the open question stays while another prover is settled

pub first-waits : (ruling : Ruling) (s : Settled) (d : Bisection) → d.by_second ≡ None → settle_first ruling s d ≡ record d { by_first = Some s }
unfolding settle_first
first-waits ruling s d e = ap (λ (o : Option Settled). advanced ruling (record d { by_first = Some s }) (Some s) o) e

pub second-waits : (ruling : Ruling) (s : Settled) (d : Bisection) → d.by_first ≡ None → settle_second ruling s d ≡ record d { by_second = Some s }
unfolding settle_second
second-waits ruling s d e = ap (λ (o : Option Settled). advanced ruling (record d { by_second = Some s }) o (Some s)) e

not-asked : (p : ℕ) (d : Bisection) → is_side p d ≡ false → (asks_first p d || asks_second p d) ≡ false
not-asked p d e =
    let two : ((d.first == p) ≡ false) × ((d.second == p) ≡ false) = or_parts (d.first == p) (d.second == p) e in
    rw (two.0, two.1) refl

-- a prover asked further on is no side of an open dispute before
apart-here : (p : ℕ) (q : Question) (d : Bisection) (ds : List Bisection) → open_disputes_of p (d ∷ ds) ≤ 1 → is_closed d ≡ false → question_in p ds ≡ Some q → is_side p d ≡ false
apart-here p q d ds le still e =
    elim (cases_Bool (is_side p d)) [
      | inl t ↦ absurd (omega (arith, one-touch (d.first == p) (d.second == p) (is_closed d) t still, engaged-asked p q ds e))
      | inr far ↦ far
    ]

passed-by : (p : ℕ) (q : Question) (d e : Bisection) (ds : List Bisection) → SameSides d e → is_side p d ≡ false → question_in p ds ≡ Some q → question_in p (e ∷ ds) ≡ Some q
passed-by p q d e ds k apart is =
    let far : is_side p e ≡ false = rw (k.first, k.second) apart in
    rw (not-asked p e far) is

stays-choice : (rules : Rules) (p who : ℕ) (s : Settled) (q : Question) (d : Bisection) (ds : List Bisection) (x y u v : Bool) →
    asks_first who d ≡ x → asks_second who d ≡ y → asks_first p d ≡ u → asks_second p d ≡ v → who ≢ p → open_disputes_of p (d ∷ ds) ≤ 1 →
    (if u || v then Some (question_of d) else question_in p ds) ≡ Some q →
    (question_in p ds ≡ Some q → question_in p (settled_in rules who s ds) ≡ Some q) →
    question_in p (if x then settle_first rules.ruling s d ∷ ds else if y then settle_second rules.ruling s d ∷ ds else d ∷ settled_in rules who s ds) ≡ Some q
stays-choice rules p who s q d ds true y true v ex ey eu ev ne le e r =
    let a : ((d.first == who) ≡ true) × IsOpen d.by_first d.close = opens (d.first == who) d.by_first d.close ex in
    let b : ((d.first == p) ≡ true) × IsOpen d.by_first d.close = opens (d.first == p) d.by_first d.close eu in
    absurd (ne (sym (is-eqb d.first who a.0) ∙ is-eqb d.first p b.0))
stays-choice rules p who s q d ds true y false true ex ey eu ev ne le e r =
    let b : ((d.second == p) ≡ true) × IsOpen d.by_second d.close = opens (d.second == p) d.by_second d.close ev in
    rw (first-waits rules.ruling s d b.1.missing, or_right (asks_first p (record d { by_first = Some s })) (asks_second p d) ev) e
stays-choice rules p who s q d ds true y false false ex ey eu ev ne le e r =
    let a : ((d.first == who) ≡ true) × IsOpen d.by_first d.close = opens (d.first == who) d.by_first d.close ex in
    passed-by p q d (settle_first rules.ruling s d) ds (sides-first rules.ruling s d) (apart-here p q d ds le a.1.still e) e
stays-choice rules p who s q d ds false true true v ex ey eu ev ne le e r =
    let b : ((d.first == p) ≡ true) × IsOpen d.by_first d.close = opens (d.first == p) d.by_first d.close eu in
    rw (second-waits rules.ruling s d b.1.missing, or_left (asks_first p d) (asks_second p (record d { by_second = Some s })) eu) e
stays-choice rules p who s q d ds false true false true ex ey eu ev ne le e r =
    let a : ((d.second == who) ≡ true) × IsOpen d.by_second d.close = opens (d.second == who) d.by_second d.close ey in
    let b : ((d.second == p) ≡ true) × IsOpen d.by_second d.close = opens (d.second == p) d.by_second d.close ev in
    absurd (ne (sym (is-eqb d.second who a.0) ∙ is-eqb d.second p b.0))
stays-choice rules p who s q d ds false true false false ex ey eu ev ne le e r =
    let a : ((d.second == who) ≡ true) × IsOpen d.by_second d.close = opens (d.second == who) d.by_second d.close ey in
    passed-by p q d (settle_second rules.ruling s d) ds (sides-second rules.ruling s d) (apart-here p q d ds le a.1.still e) e
stays-choice rules p who s q d ds false false true v ex ey eu ev ne le e r = rw (eu) e
stays-choice rules p who s q d ds false false false true ex ey eu ev ne le e r = rw (eu, ev) e
stays-choice rules p who s q d ds false false false false ex ey eu ev ne le e r = rw (eu, ev) (r e)

stays-settled : (rules : Rules) (p who : ℕ) (s : Settled) (q : Question) (ds : List Bisection) → who ≢ p → open_disputes_of p ds ≤ 1 → question_in p ds ≡ Some q →
    question_in p (settled_in rules who s ds) ≡ Some q
stays-settled rules p who s q [] ne le e = absurd (cc)
stays-settled rules p who s q (d ∷ ds) ne le e =
    stays-choice rules p who s q d ds (asks_first who d) (asks_second who d) (asks_first p d) (asks_second p d) refl refl refl refl ne le e
    (λ further. stays-settled rules p who s q ds ne (omega arith) further)

pub get-other : {A : Type 0} (xs : List A) (k j : ℕ) (x : A) → k ≢ j → slice_get (slice_set xs k x) j ≡ slice_get xs j
get-other [] k j x ne = refl
get-other (y ∷ ys) zero zero x ne = absurd (ne refl)
get-other (y ∷ ys) zero (suc j) x ne = refl
get-other (y ∷ ys) (suc k) zero x ne = refl
get-other (y ∷ ys) (suc k) (suc j) x ne = get-other ys k j x (λ e. ne (ap suc e))

stays-put : (rules : Rules) (p who : ℕ) (s : Settled) (q : Question) (t : Record) (b : Bool) → 0 < p → 0 < who → who ≢ p → IsApart rules p t → open_question rules t p ≡ Some q →
    open_question rules (if b then record t { claims = slice_set t.claims (who - 1) (Some s) } else record t { disputes = settled_in rules who s t.disputes }) p ≡ Some q
stays-put rules p who s q t true some other ne a e =
    let same : slice_get (slice_set t.claims (who - 1) (Some s)) (p - 1) ≡ slice_get t.claims (p - 1) = get-other t.claims (who - 1) (p - 1) (Some s) (λ k. ne (omega arith)) in
    rw same e
stays-put rules p who s q t false some other ne a e =
    elim (cases_Bool (claim_missing (slice_get t.claims (p - 1)))) [
      | inl here ↦ rw here (rw here at e)
      | inr there ↦ rw there (stays-settled rules p who s q t.disputes ne a.one (rw there at e))
    ]

in-append : (p : ℕ) (q : Question) (ds es : List Bisection) → question_in p ds ≡ Some q → question_in p (ds ++ es) ≡ Some q
in-append p q [] es e = absurd (cc)
in-append p q (d ∷ ds) es e =
    elim (cases_Bool (asks_first p d || asks_second p d)) [
      | inl here ↦ rw here (rw here at e)
      | inr there ↦ rw there (in-append p q ds es (rw there at e))
    ]

stays-opened : (rules : Rules) (p : ℕ) (q : Question) (t : Record) → open_question rules t p ≡ Some q → open_question rules (stage_opened rules t) p ≡ Some q
stays-opened rules p q t e =
    elim (cases_Bool (is_stage_due rules t)) [
      | inl due ↦
          rw (opened-due rules t due)
          (elim (cases_Bool (claim_missing (slice_get t.claims (p - 1)))) [
            | inl here ↦ rw here (rw here at e)
            | inr there ↦ rw there (in-append p q t.disputes _ (rw there at e))
          ])
      | inr not_due ↦ rw (opened-not rules t not_due) e
    ]

pub stays-asked : (rules : Rules) (p who : ℕ) (s : Settled) (q : Question) (t : Record) → 0 < p → 0 < who → who ≢ p → IsApart rules p t → open_question rules t p ≡ Some q →
    open_question rules (settle rules who s t) p ≡ Some q
unfolding settle
stays-asked rules p who s q t some other ne a e =
    stays-opened rules p q (put rules who s t) (stays-put rules p who s q t (claim_missing (slice_get t.claims (who - 1))) some other ne a e)
