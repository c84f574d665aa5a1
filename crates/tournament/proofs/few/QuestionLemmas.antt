-- What a prover has been asked and what of it is settled: an answer settles one question more, and none is ever taken back.
use Rattle.std.proofs.Common.{◌≡◌, ℕ, zero, suc, ◌+◌, ◌-◌, ◌≤◌, Bool, true, false, not, ◌||◌, ◌==◌, if◌then◌else◌, List, [], ◌∷◌, ◌++◌, length, slice_get, slice_set, inl, inr, Option, Some, None, is_some, refl, arith, length-append}
use Rattle.std.proofs.lemmas.Bool.{cases_Bool}
use Rattle.bisect_game.specs.declared.settled.Question.{Question}
use Rattle.bisect_game.specs.declared.settled.Settled.{Settled}
use Rattle.bisect_game.specs.declared.settled.Close.{Close}
use Rattle.bisect_game.specs.Bisection.{Bisection, question_of, settle_first, settle_second, advanced, decided, closed_or, went_on}
use Rattle.bisect_game.specs.Closing.{close_of}
use Rattle.bisect_game.specs.Ruling.{Ruling}
use Rattle.bisect_game.specs.Rules.{Rules, claim_question}
use Rattle.tournament.specs.OpenDisputes.{one_if}
use Rattle.tournament.specs.Bracket.{Record, pairs, last_stage, disputes_of, is_stage_due, stage_opened, asks_first, asks_second, question_in, claim_missing, open_question, settled_in, put, settle}
use Rattle.tournament.proofs.OnceLemmas.{IsOpen, opens}
use Rattle.tournament.proofs.OpenedLemmas.{opened-not, opened-due}
use Rattle.tournament.proofs.SidesLemmas.{SameSides, sides-first, sides-second}

abbrev pub only : Bool → ℕ → ℕ
only true n = n
only false n = 0

-- of each side of a dispute what is settled, and what it has been asked
abbrev pub settled_by_first : Bisection → ℕ
settled_by_first d = length d.past + one_if (is_some d.by_first)

abbrev pub settled_by_second : Bisection → ℕ
settled_by_second d = length d.past + one_if (is_some d.by_second)

abbrev pub settled_of_in : ℕ → List Bisection → ℕ
settled_of_in p [] = 0
settled_of_in p (d ∷ ds) = only (d.first == p) (settled_by_first d) + only (d.second == p) (settled_by_second d) + settled_of_in p ds

abbrev pub asked_of_in : ℕ → List Bisection → ℕ
asked_of_in p [] = 0
asked_of_in p (d ∷ ds) = only (d.first == p) (length d.past + 1) + only (d.second == p) (length d.past + 1) + asked_of_in p ds

abbrev pub claim_settled : ℕ → Record → ℕ
claim_settled p t = one_if (not (claim_missing (slice_get t.claims (p - 1))))

abbrev pub settled_of : ℕ → Record → ℕ
settled_of p t = claim_settled p t + settled_of_in p t.disputes

abbrev pub asked_of : ℕ → Record → ℕ
asked_of p t = 1 + asked_of_in p t.disputes

pub one-most : (b : Bool) → one_if b ≤ 1
one-most true = omega arith
one-most false = omega arith

only-le : (b : Bool) (m n : ℕ) → m ≤ n → only b m ≤ only b n
only-le true m n le = le
only-le false m n le = omega arith

-- what is settled was asked

settled-asked-in : (p : ℕ) (ds : List Bisection) → settled_of_in p ds ≤ asked_of_in p ds
settled-asked-in p [] = omega arith
settled-asked-in p (d ∷ ds) =
    omega (
      arith,
      only-le (d.first == p) (settled_by_first d) (length d.past + 1) (omega (arith, one-most (is_some d.by_first))),
      only-le (d.second == p) (settled_by_second d) (length d.past + 1) (omega (arith, one-most (is_some d.by_second))),
      settled-asked-in p ds,
    )

pub settled-asked : (p : ℕ) (t : Record) → settled_of p t ≤ asked_of p t
settled-asked p t = omega (arith, one-most (not (claim_missing (slice_get t.claims (p - 1)))), settled-asked-in p t.disputes)

-- and what is open was asked beside it

only-less : (b : Bool) (n : ℕ) (o : Option Settled) → b ≡ true → o ≡ None → only b (n + one_if (is_some o)) + 1 ≤ only b (n + 1)
only-less b n o e f = rw (e, f) (omega arith)

room-by : (p : ℕ) (q : Question) (d : Bisection) (ds : List Bisection) (x y : Bool) → asks_first p d ≡ x → asks_second p d ≡ y →
    (if x || y then Some (question_of d) else question_in p ds) ≡ Some q → (question_in p ds ≡ Some q → settled_of_in p ds + 1 ≤ asked_of_in p ds) →
    settled_of_in p (d ∷ ds) + 1 ≤ asked_of_in p (d ∷ ds)
room-by p q d ds true y ex ey e r =
    let a : ((d.first == p) ≡ true) × IsOpen d.by_first d.close = opens (d.first == p) d.by_first d.close ex in
    omega (
      arith,
      only-less (d.first == p) (length d.past) d.by_first a.0 a.1.missing,
      only-le (d.second == p) (settled_by_second d) (length d.past + 1) (omega (arith, one-most (is_some d.by_second))),
      settled-asked-in p ds,
    )
room-by p q d ds false true ex ey e r =
    let a : ((d.second == p) ≡ true) × IsOpen d.by_second d.close = opens (d.second == p) d.by_second d.close ey in
    omega (
      arith,
      only-less (d.second == p) (length d.past) d.by_second a.0 a.1.missing,
      only-le (d.first == p) (settled_by_first d) (length d.past + 1) (omega (arith, one-most (is_some d.by_first))),
      settled-asked-in p ds,
    )
room-by p q d ds false false ex ey e r =
    omega (
      arith,
      only-le (d.first == p) (settled_by_first d) (length d.past + 1) (omega (arith, one-most (is_some d.by_first))),
      only-le (d.second == p) (settled_by_second d) (length d.past + 1) (omega (arith, one-most (is_some d.by_second))),
      r e,
    )

room-in : (p : ℕ) (q : Question) (ds : List Bisection) → question_in p ds ≡ Some q → settled_of_in p ds + 1 ≤ asked_of_in p ds
room-in p q [] e = absurd (cc)
room-in p q (d ∷ ds) e = room-by p q d ds (asks_first p d) (asks_second p d) refl refl e (λ further. room-in p q ds further)

room-put : (p : ℕ) (q : Question) (t : Record) (b : Bool) → (if b then Some claim_question else question_in p t.disputes) ≡ Some q →
    one_if (not b) + settled_of_in p t.disputes + 1 ≤ asked_of p t
room-put p q t true e = omega (arith, settled-asked-in p t.disputes)
room-put p q t false e = omega (arith, room-in p q t.disputes e)

pub room : (rules : Rules) (p : ℕ) (q : Question) (t : Record) → open_question rules t p ≡ Some q → settled_of p t + 1 ≤ asked_of p t
room rules p q t e = room-put p q t (claim_missing (slice_get t.claims (p - 1))) e

-- AN ANSWER of a side is one more of its, and takes nothing from the other

pub record Grows (d e : Bisection) (more_first more_second : ℕ) : Type 0 where
  pub first : settled_by_first d + more_first ≡ settled_by_first e
  pub second : settled_by_second d + more_second ≡ settled_by_second e
  pub past : length d.past ≤ length e.past

grows-by : (ruling : Ruling) (d : Bisection) (a b : Settled) (o : Option Close) → d.by_first ≡ Some a → d.by_second ≡ Some b → Grows d (closed_or d (went_on d a b) o) 0 0
grows-by ruling d a b (Some c) ea eb = record { first = omega arith; second = omega arith; past = omega arith }
grows-by ruling d a b None ea eb =
    let one : one_if (is_some d.by_first) ≡ 1 = rw ea refl in
    let two : one_if (is_some d.by_second) ≡ 1 = rw eb refl in
    let more : length (went_on d a b).past ≡ length d.past + 1 = length-append d.past (record { lo = d.place.lo; hi = d.place.hi; first = a; second = b } ∷ []) in
    record { first = omega (arith, one, more); second = omega (arith, two, more); past = omega (arith, more) }

grows-advanced : (ruling : Ruling) (d : Bisection) (x y : Option Settled) → d.by_first ≡ x → d.by_second ≡ y → Grows d (advanced ruling d x y) 0 0
unfolding decided
grows-advanced ruling d (Some a) (Some b) ex ey = grows-by ruling d a b (close_of ruling d.place a b) ex ey
grows-advanced ruling d (Some a) None ex ey = record { first = omega arith; second = omega arith; past = omega arith }
grows-advanced ruling d None y ex ey = record { first = omega arith; second = omega arith; past = omega arith }

pub grows-first : (ruling : Ruling) (s : Settled) (d : Bisection) → d.by_first ≡ None → Grows d (settle_first ruling s d) 1 0
unfolding settle_first
grows-first ruling s d e =
    let none : one_if (is_some d.by_first) ≡ 0 = rw e refl in
    let g : Grows (record d { by_first = Some s }) (advanced ruling (record d { by_first = Some s }) (Some s) d.by_second) 0 0 = grows-advanced ruling (record d { by_first = Some s }) (Some s) d.by_second refl refl in
    record { first = omega (arith, none, g.first); second = omega (arith, g.second); past = g.past }

pub grows-second : (ruling : Ruling) (s : Settled) (d : Bisection) → d.by_second ≡ None → Grows d (settle_second ruling s d) 0 1
unfolding settle_second
grows-second ruling s d e =
    let none : one_if (is_some d.by_second) ≡ 0 = rw e refl in
    let g : Grows (record d { by_second = Some s }) (advanced ruling (record d { by_second = Some s }) d.by_first (Some s)) 0 0 = grows-advanced ruling (record d { by_second = Some s }) d.by_first (Some s) refl refl in
    record { first = omega (arith, g.first); second = omega (arith, none, g.second); past = g.past }

-- what a prover has of two records, of which the second is a later one
pub record IsLater (p : ℕ) (more : ℕ) (ds es : List Bisection) : Type 0 where
  pub settled_ : settled_of_in p ds + more ≤ settled_of_in p es
  pub asked_ : asked_of_in p ds ≤ asked_of_in p es

only-more : (b : Bool) (m k n : ℕ) → m + k ≡ n → only b m + only b k ≤ only b n
only-more true m k n e = omega (arith, e)
only-more false m k n e = omega arith

later-one : (p : ℕ) (d e : Bisection) (ds : List Bisection) (m n : ℕ) → SameSides d e → Grows d e m n →
    IsLater p (only (d.first == p) m + only (d.second == p) n) (d ∷ ds) (e ∷ ds)
later-one p d e ds m n k g = record {
  settled_ = rw (k.first, k.second) (omega (
    arith,
    only-more (d.first == p) (settled_by_first d) m (settled_by_first e) g.first,
    only-more (d.second == p) (settled_by_second d) n (settled_by_second e) g.second,
  ));
  asked_ = rw (k.first, k.second) (omega (
    arith,
    only-le (d.first == p) (length d.past + 1) (length e.past + 1) (omega (arith, g.past)),
    only-le (d.second == p) (length d.past + 1) (length e.past + 1) (omega (arith, g.past)),
  ));
}

-- of anybody
later-choice : (rules : Rules) (p who : ℕ) (s : Settled) (d : Bisection) (ds : List Bisection) (x y : Bool) → asks_first who d ≡ x → asks_second who d ≡ y →
    IsLater p 0 ds (settled_in rules who s ds) →
    IsLater p 0 (d ∷ ds) (if x then settle_first rules.ruling s d ∷ ds else if y then settle_second rules.ruling s d ∷ ds else d ∷ settled_in rules who s ds)
later-choice rules p who s d ds true y ex ey r =
    let a : ((d.first == who) ≡ true) × IsOpen d.by_first d.close = opens (d.first == who) d.by_first d.close ex in
    let l : IsLater p (only (d.first == p) 1 + only (d.second == p) 0) (d ∷ ds) (settle_first rules.ruling s d ∷ ds) =
    later-one p d (settle_first rules.ruling s d) ds 1 0 (sides-first rules.ruling s d) (grows-first rules.ruling s d a.1.missing) in
    record { settled_ = omega (arith, l.settled_); asked_ = l.asked_ }
later-choice rules p who s d ds false true ex ey r =
    let a : ((d.second == who) ≡ true) × IsOpen d.by_second d.close = opens (d.second == who) d.by_second d.close ey in
    let l : IsLater p (only (d.first == p) 0 + only (d.second == p) 1) (d ∷ ds) (settle_second rules.ruling s d ∷ ds) =
    later-one p d (settle_second rules.ruling s d) ds 0 1 (sides-second rules.ruling s d) (grows-second rules.ruling s d a.1.missing) in
    record { settled_ = omega (arith, l.settled_); asked_ = l.asked_ }
later-choice rules p who s d ds false false ex ey r = record { settled_ = omega (arith, r.settled_); asked_ = omega (arith, r.asked_) }

later-settled : (rules : Rules) (p who : ℕ) (s : Settled) (ds : List Bisection) → IsLater p 0 ds (settled_in rules who s ds)
later-settled rules p who s [] = record { settled_ = omega arith; asked_ = omega arith }
later-settled rules p who s (d ∷ ds) = later-choice rules p who s d ds (asks_first who d) (asks_second who d) refl refl (later-settled rules p who s ds)

-- of the prover itself, one more
only-one : (b : Bool) → b ≡ true → only b 1 ≡ 1
only-one b e = rw e refl

own-choice : (rules : Rules) (p : ℕ) (s : Settled) (q : Question) (d : Bisection) (ds : List Bisection) (x y : Bool) → asks_first p d ≡ x → asks_second p d ≡ y →
    (if x || y then Some (question_of d) else question_in p ds) ≡ Some q → (question_in p ds ≡ Some q → IsLater p 1 ds (settled_in rules p s ds)) →
    IsLater p 1 (d ∷ ds) (if x then settle_first rules.ruling s d ∷ ds else if y then settle_second rules.ruling s d ∷ ds else d ∷ settled_in rules p s ds)
own-choice rules p s q d ds true y ex ey e r =
    let a : ((d.first == p) ≡ true) × IsOpen d.by_first d.close = opens (d.first == p) d.by_first d.close ex in
    let l : IsLater p (only (d.first == p) 1 + only (d.second == p) 0) (d ∷ ds) (settle_first rules.ruling s d ∷ ds) =
    later-one p d (settle_first rules.ruling s d) ds 1 0 (sides-first rules.ruling s d) (grows-first rules.ruling s d a.1.missing) in
    record { settled_ = omega (arith, l.settled_, only-one (d.first == p) a.0); asked_ = l.asked_ }
own-choice rules p s q d ds false true ex ey e r =
    let a : ((d.second == p) ≡ true) × IsOpen d.by_second d.close = opens (d.second == p) d.by_second d.close ey in
    let l : IsLater p (only (d.first == p) 0 + only (d.second == p) 1) (d ∷ ds) (settle_second rules.ruling s d ∷ ds) =
    later-one p d (settle_second rules.ruling s d) ds 0 1 (sides-second rules.ruling s d) (grows-second rules.ruling s d a.1.missing) in
    record { settled_ = omega (arith, l.settled_, only-one (d.second == p) a.0); asked_ = l.asked_ }
own-choice rules p s q d ds false false ex ey e r = let l : IsLater p 1 ds (settled_in rules p s ds) = r e in record { settled_ = omega (arith, l.settled_); asked_ = omega (arith, l.asked_) }

own-settled : (rules : Rules) (p : ℕ) (s : Settled) (q : Question) (ds : List Bisection) → question_in p ds ≡ Some q → IsLater p 1 ds (settled_in rules p s ds)
own-settled rules p s q [] e = absurd (cc)
own-settled rules p s q (d ∷ ds) e = own-choice rules p s q d ds (asks_first p d) (asks_second p d) refl refl e (λ further. own-settled rules p s q ds further)

-- A STAGE that begins asks more

later-both : (p : ℕ) (ds es : List Bisection) → IsLater p 0 ds (ds ++ es)
later-both p [] es = record { settled_ = omega arith; asked_ = omega arith }
later-both p (d ∷ ds) es = let l : IsLater p 0 ds (ds ++ es) = later-both p ds es in record { settled_ = omega (arith, l.settled_); asked_ = omega (arith, l.asked_) }

-- WHAT IS SETTLED in a match
pub record IsLaterRecord (p more : ℕ) (t u : Record) : Type 0 where
  pub settled_ : settled_of p t + more ≤ settled_of p u
  pub asked_ : asked_of p t ≤ asked_of p u

later-opened : (rules : Rules) (p : ℕ) (t : Record) → IsLaterRecord p 0 t (stage_opened rules t)
later-opened rules p t =
    elim (cases_Bool (is_stage_due rules t)) [
      | inl due ↦
          let l : IsLater p 0 t.disputes (t.disputes ++ disputes_of rules (last_stage t.disputes + 1) (length t.disputes + 1) (pairs rules t)) = later-both p t.disputes _ in
          rw (opened-due rules t due) (record { settled_ = omega (arith, l.settled_); asked_ = omega (arith, l.asked_) })
      | inr not_due ↦ rw (opened-not rules t not_due) (record { settled_ = omega arith; asked_ = omega arith })
    ]

-- a claim that is there stays there
missing-set : (ss : List (Option Settled)) (k j : ℕ) (s : Settled) → one_if (not (claim_missing (slice_get ss j))) ≤ one_if (not (claim_missing (slice_get (slice_set ss k (Some s)) j)))
missing-set [] k j s = omega arith
missing-set (o ∷ ss) zero zero s = omega (arith, one-most (not (claim_missing (Some o))))
missing-set (o ∷ ss) zero (suc j) s = omega arith
missing-set (o ∷ ss) (suc k) zero s = omega arith
missing-set (o ∷ ss) (suc k) (suc j) s = missing-set ss k j s

missing-own : (ss : List (Option Settled)) (k : ℕ) (s : Settled) → claim_missing (slice_get ss k) ≡ true → claim_missing (slice_get (slice_set ss k (Some s)) k) ≡ false
missing-own [] k s e = absurd (cc)
missing-own (o ∷ ss) zero s e = refl
missing-own (o ∷ ss) (suc k) s e = missing-own ss k s e

later-put : (rules : Rules) (p who : ℕ) (s : Settled) (t : Record) (b : Bool) →
    IsLaterRecord p 0 t (if b then record t { claims = slice_set t.claims (who - 1) (Some s) } else record t { disputes = settled_in rules who s t.disputes })
later-put rules p who s t true = record { settled_ = omega (arith, missing-set t.claims (who - 1) (p - 1) s); asked_ = omega arith }
later-put rules p who s t false =
    let l : IsLater p 0 t.disputes (settled_in rules who s t.disputes) = later-settled rules p who s t.disputes in
    record { settled_ = omega (arith, l.settled_); asked_ = omega (arith, l.asked_) }

own-put : (rules : Rules) (p : ℕ) (s : Settled) (q : Question) (t : Record) (b : Bool) → claim_missing (slice_get t.claims (p - 1)) ≡ b →
    (if b then Some claim_question else question_in p t.disputes) ≡ Some q →
    IsLaterRecord p 1 t (if b then record t { claims = slice_set t.claims (p - 1) (Some s) } else record t { disputes = settled_in rules p s t.disputes })
own-put rules p s q t true eb e =
    let before : claim_settled p t ≡ 0 = rw eb refl in
    let behind : one_if (not (claim_missing (slice_get (slice_set t.claims (p - 1) (Some s)) (p - 1)))) ≡ 1 = rw (missing-own t.claims (p - 1) s eb) refl in
    record { settled_ = omega (arith, before, behind); asked_ = omega arith }
own-put rules p s q t false eb e =
    let l : IsLater p 1 t.disputes (settled_in rules p s t.disputes) = own-settled rules p s q t.disputes e in
    record { settled_ = omega (arith, l.settled_); asked_ = omega (arith, l.asked_) }

further : (p m : ℕ) (t u v : Record) → IsLaterRecord p m t u → IsLaterRecord p 0 u v → IsLaterRecord p m t v
further p m t u v k l = record { settled_ = omega (arith, k.settled_, l.settled_); asked_ = omega (arith, k.asked_, l.asked_) }

-- whoever settles, nothing is taken back
pub later : (rules : Rules) (p who : ℕ) (s : Settled) (t : Record) → IsLaterRecord p 0 t (settle rules who s t)
unfolding settle
later rules p who s t =
    further p 0 t (put rules who s t) (stage_opened rules (put rules who s t)) (later-put rules p who s t (claim_missing (slice_get t.claims (who - 1)))) (later-opened rules p (put rules who s t))

-- and who is asked has one more settled
pub own : (rules : Rules) (p : ℕ) (s : Settled) (q : Question) (t : Record) → open_question rules t p ≡ Some q → IsLaterRecord p 1 t (settle rules p s t)
unfolding settle
own rules p s q t e =
    further p 1 t (put rules p s t) (stage_opened rules (put rules p s t)) (own-put rules p s q t (claim_missing (slice_get t.claims (p - 1))) refl e) (later-opened rules p (put rules p s t))
