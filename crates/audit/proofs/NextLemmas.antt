-- The next entry is an open question, and where there is none nobody is asked.
use Rattle.std.proofs.Common.{◌≡◌, ℕ, zero, suc, ◌+◌, ◌-◌, ◌<◌, ◌≤◌, Bool, true, false, ◌==◌, if◌then◌else◌, List, [], ◌∷◌, length, slice_get, Option, Some, None, refl, ◌∙◌, ap, arith, subst}
use Rattle.std.proofs.Math.Bool.{and-false}
use Rattle.bisect_game.specs.declared.settled.Question.{Question}
use Rattle.bisect_game.specs.declared.settled.Settled.{Settled}
use Rattle.bisect_game.specs.declared.settled.Side.TheVariants.{First, Second}
use Rattle.bisect_game.specs.Rules.{Rules}
use Rattle.bisect_game.specs.Bisection.{Bisection, question_of, asks}
use Rattle.tournament.specs.Bracket.{Record, question_in, claim_missing, open_question}
use Rattle.bisect_game.specs.Rules.{claim_question}
use Rattle.audit.specs.NextEntry.{next_claim, next_in, claim_or, next}
use Rattle.audit.proofs.StatedLemmas.{eqb-same}

some-pair : (x y : ℕ × Question) → Some x ≡ Some y → x ≡ y
some-pair x y e = cc

abbrev pub asked_of : ℕ → Question → Option (ℕ × Question)
asked_of p q = Some (p, q)

pub pair-first : (a p : ℕ) (b q : Question) → asked_of a b ≡ asked_of p q → a ≡ p
pair-first a p b q e = ap (λ (x : ℕ × Question). x.0) (some-pair (a, b) (p, q) e)

pub pair-second : (a p : ℕ) (b q : Question) → asked_of a b ≡ asked_of p q → b ≡ q
pair-second a p b q e = ap (λ (x : ℕ × Question). x.1) (some-pair (a, b) (p, q) e)

-- claims

-- the claim of a prover from this number on is missing
pub record IsMissing (k p : ℕ) (ss : List (Option Settled)) : Type 0 where
  pub from : k ≤ p
  pub there : p < k + length ss
  pub missing : claim_missing (slice_get ss (p - k)) ≡ true

missing-later : (k p : ℕ) (o : Option Settled) (ss : List (Option Settled)) → IsMissing (k + 1) p ss → IsMissing k p (o ∷ ss)
missing-later k p o ss m =
    let e : p - k ≡ suc (p - (k + 1)) = omega (arith, m.from) in
    record { from = omega (arith, m.from); there = omega (arith, m.there); missing = rw e m.missing }

missing-here : (k p : ℕ) (ss : List (Option Settled)) → k ≡ p → IsMissing k p (None ∷ ss)
missing-here k p ss e =
    let z : p - k ≡ 0 = omega arith in
    record { from = omega arith; there = omega arith; missing = rw z refl }

pub next-missing : (k p : ℕ) (ss : List (Option Settled)) → next_claim k ss ≡ Some p → IsMissing k p ss
next-missing k p [] e = absurd (cc)
next-missing k p (None ∷ ss) e = missing-here k p ss (cc)
next-missing k p (Some s ∷ ss) e = missing-later k p (Some s) ss (next-missing (k + 1) p ss e)

pub none-missing : (k j : ℕ) (ss : List (Option Settled)) → next_claim k ss ≡ None → claim_missing (slice_get ss j) ≡ false
none-missing k j [] e = refl
none-missing k j (None ∷ ss) e = absurd (cc)
none-missing k zero (Some s ∷ ss) e = refl
none-missing k (suc j) (Some s ∷ ss) e = none-missing (k + 1) j ss e

-- disputes

next-choice : (d : Bisection) (ds : List Bisection) (x y : Bool) (p : ℕ) (q : Question) → asks First d ≡ x → asks Second d ≡ y →
    (if x then Some (d.first, question_of d) else if y then Some (d.second, question_of d) else next_in ds) ≡ Some (p, q) →
    (next_in ds ≡ Some (p, q) → question_in p ds ≡ Some q) → question_in p (d ∷ ds) ≡ Some q
next-choice d ds true y p q ex ey e rest =
    let at : d.first ≡ p = pair-first _ _ _ _ e in
    let is : question_of d ≡ q = pair-second _ _ _ _ e in
    let mine : (d.first == p) ≡ true = rw at (eqb-same p) in
    rw (ex, mine) (ap Some is)
next-choice d ds false true p q ex ey e rest =
    let at : d.second ≡ p = pair-first _ _ _ _ e in
    let is : question_of d ≡ q = pair-second _ _ _ _ e in
    let mine : (d.second == p) ≡ true = rw at (eqb-same p) in
    rw (ex, and-false (d.first == p), ey, mine) (ap Some is)
next-choice d ds false false p q ex ey e rest =
    rw (ex, and-false (d.first == p), ey, and-false (d.second == p)) (rest e)

next-asked : (ds : List Bisection) (p : ℕ) (q : Question) → next_in ds ≡ Some (p, q) → question_in p ds ≡ Some q
next-asked [] p q e = absurd (cc)
next-asked (d ∷ ds) p q e = next-choice d ds (asks First d) (asks Second d) p q refl refl e (next-asked ds p q)

none-choice : (d : Bisection) (ds : List Bisection) (x y : Bool) (p : ℕ) → asks First d ≡ x → asks Second d ≡ y →
    (if x then Some (d.first, question_of d) else if y then Some (d.second, question_of d) else next_in ds) ≡ None →
    (next_in ds ≡ None → question_in p ds ≡ None) → question_in p (d ∷ ds) ≡ None
none-choice d ds true y p ex ey e rest = absurd (cc)
none-choice d ds false true p ex ey e rest = absurd (cc)
none-choice d ds false false p ex ey e rest =
    rw (ex, and-false (d.first == p), ey, and-false (d.second == p)) (rest e)

none-asked : (ds : List Bisection) (p : ℕ) → next_in ds ≡ None → question_in p ds ≡ None
none-asked [] p e = refl
none-asked (d ∷ ds) p e = none-choice d ds (asks First d) (asks Second d) p refl refl e (none-asked ds p)

-- both

open-by : (rules : Rules) (t : Record) (p : ℕ) (q : Question) (o : Option ℕ) → next_claim 1 t.claims ≡ o → claim_or o (next_in t.disputes) ≡ Some (p, q) →
    open_question rules t p ≡ Some q
open-by rules t p q (Some k) e is =
    let at : k ≡ p = pair-first _ _ _ _ is in
    let what : claim_question ≡ q = pair-second _ _ _ _ is in
    let m : IsMissing 1 k t.claims = next-missing 1 k t.claims e in
    let missing : claim_missing (slice_get t.claims (p - 1)) ≡ true = subst (λ (n : ℕ). claim_missing (slice_get t.claims (n - 1)) ≡ true) at m.missing in
    rw missing (ap Some what)
open-by rules t p q None e is =
    rw (none-missing 1 (p - 1) t.claims e) (next-asked t.disputes p q is)

-- the next entry is its prover's open question
pub next_is_open : (rules : Rules) (t : Record) (p : ℕ) (q : Question) → next t ≡ Some (p, q) → open_question rules t p ≡ Some q
next_is_open rules t p q e = open-by rules t p q (next_claim 1 t.claims) refl e

nobody-by : (rules : Rules) (t : Record) (p : ℕ) (o : Option ℕ) → next_claim 1 t.claims ≡ o → claim_or o (next_in t.disputes) ≡ None →
    open_question rules t p ≡ None
nobody-by rules t p (Some k) e is = absurd (cc)
nobody-by rules t p None e is = rw (none-missing 1 (p - 1) t.claims e) (none-asked t.disputes p is)

pub nobody_next : (rules : Rules) (t : Record) (p : ℕ) → next t ≡ None → open_question rules t p ≡ None
nobody_next rules t p e = nobody-by rules t p (next_claim 1 t.claims) refl e

pub open_for : (rules : Rules) (t : Record) (p r : ℕ) (q : Question) → next t ≡ Some (p, q) → p ≡ r → open_question rules t r ≡ Some q
open_for rules t p r q e same = next_is_open rules t r q (e ∙ ap (λ (k : ℕ). asked_of k q) same)
