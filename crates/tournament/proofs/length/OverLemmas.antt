-- A match in which nobody is asked is complete.
use Rattle.std.proofs.Common.{◌≡◌, ◌↔◌, ℕ, zero, suc, ◌+◌, ◌-◌, ◌<◌, ◌≤◌, Bool, true, false, ◌&&◌, ◌||◌, ◌==◌, if◌then◌else◌, List, [], ◌∷◌, ◌++◌, length, slice_get, slice_set, inl, inr, Option, Some, None, is_some, is_none, refl, arith}
use Rattle.std.proofs.lemmas.Bool.Decides.{nat_tests}
use Rattle.std.proofs.lemmas.Bool.{and_parts, cases_Bool, or_left, or_right}
use Rattle.bisect_game.specs.declared.settled.Question.{Question}
use Rattle.bisect_game.specs.declared.settled.Settled.{Settled}
use Rattle.rd_base.specs.declared.claim.Claim.{Claim}
use Rattle.bisect_game.specs.declared.settled.Close.{Close}
use Rattle.bisect_game.specs.Bisection.{Bisection, is_closed, question_of, settle_first, settle_second}
use Rattle.bisect_game.specs.Rules.{Rules}
use Rattle.tournament.proofs.OnceLemmas.{IsApart, apart-nothing, apart-settle, engaged-asked, is-prover}
use Rattle.tournament.proofs.OpenedLemmas.{opened-not, opened-due}
use Rattle.tournament.specs.Bracket.{Record, pairs, last_stage, disputes_of, is_stage_due, stage_opened, nothing_settled, asks_first, asks_second, question_in, claim_missing, open_question, settled_in, put, settle, all_there, all_closed, is_complete}
use Rattle.bisect_game.specs.Rules.{claim_question}
use Rattle.tournament.specs.Settling.{after}
use Rattle.bisect_game.specs.OverAnswers.{Waits, IsWaiting}
use Rattle.bisect_game.specs.declared.settled.Side.TheVariants.{First, Second}
use Rattle.bisect_game.specs.Laws.{BisectionLaws}

-- an open dispute waits for one of its sides
abbrev pub AllMove : List Bisection → Type 0
AllMove [] = Unit {0}
AllMove (d ∷ ds) = IsWaiting d × AllMove ds

-- so somebody is asked in an open one
pub record IsAsked (ds : List Bisection) : Type 0 where
  pub prover : ℕ
  pub question : Question
  pub asked : question_in prover ds ≡ Some question

module _ (laws : BisectionLaws) where
  moves-choice : (rules : Rules) (p : ℕ) (s : Settled) (d : Bisection) (ds : List Bisection) (x y : Bool) → AllMove (d ∷ ds) → AllMove (settled_in rules p s ds) →
      AllMove (if x then settle_first rules.ruling s d ∷ ds else if y then settle_second rules.ruling s d ∷ ds else d ∷ settled_in rules p s ds)
  moves-choice rules p s d ds true y a r = (laws.played.waits rules.ruling First s d, a.1)
  moves-choice rules p s d ds false true a r = (laws.played.waits rules.ruling Second s d, a.1)
  moves-choice rules p s d ds false false a r = (a.0, r)

  moves-settled : (rules : Rules) (p : ℕ) (s : Settled) (ds : List Bisection) → AllMove ds → AllMove (settled_in rules p s ds)
  moves-settled rules p s [] a = tt
  moves-settled rules p s (d ∷ ds) a = moves-choice rules p s d ds (asks_first p d) (asks_second p d) a (moves-settled rules p s ds a.1)

  moves-both : (ds es : List Bisection) → AllMove ds → AllMove es → AllMove (ds ++ es)
  moves-both [] es a b = b
  moves-both (d ∷ ds) es a b = (a.0, moves-both ds es a.1 b)

  moves-new : (rules : Rules) (g : ℕ) (n : ℕ) (ps : List ((ℕ × Claim) × (ℕ × Claim))) → AllMove (disputes_of rules g n ps)
  moves-new rules g n [] = tt
  moves-new rules g n (p ∷ ps) = (tt, moves-new rules g (n + 1) ps)

  moves-put : (rules : Rules) (p : ℕ) (s : Settled) (t : Record) (b : Bool) → AllMove t.disputes →
      AllMove (if b then record t { claims = slice_set t.claims (p - 1) (Some s) } else record t { disputes = settled_in rules p s t.disputes }).disputes
  moves-put rules p s t true a = a
  moves-put rules p s t false a = moves-settled rules p s t.disputes a

  moves-opened : (rules : Rules) (t : Record) → AllMove t.disputes → AllMove (stage_opened rules t).disputes
  moves-opened rules t a =
      elim (cases_Bool (is_stage_due rules t)) [
        | inl due ↦ rw (opened-due rules t due) (moves-both t.disputes _ a (moves-new rules (last_stage t.disputes + 1) (length t.disputes + 1) (pairs rules t)))
        | inr not_due ↦ rw (opened-not rules t not_due) a
      ]

  moves-settle : (rules : Rules) (p : ℕ) (s : Settled) (t : Record) → AllMove t.disputes → AllMove (settle rules p s t).disputes
  unfolding settle
  moves-settle rules p s t a = moves-opened rules (put rules p s t) (moves-put rules p s t (claim_missing (slice_get t.claims (p - 1))) a)

  no-side : (a b c d : Bool) → ((a && (b && false)) || (c && (d && false))) ≡ false
  no-side true true true true = refl
  no-side true true true false = refl
  no-side true true false d = refl
  no-side true false true true = refl
  no-side true false true false = refl
  no-side true false false d = refl
  no-side false b true true = refl
  no-side false b true false = refl
  no-side false b false d = refl

  eqb-same : (n : ℕ) → (n == n) ≡ true
  eqb-same n = grind (arith, nat_tests)

  asked-true : (p : ℕ) (d : Bisection) (ds : List Bisection) → (asks_first p d || asks_second p d) ≡ true → IsAsked (d ∷ ds)
  asked-true p d ds e = record { prover = p; question = question_of d; asked = rw e refl }

  asked-first : (d : Bisection) (ds : List Bisection) → d.by_first ≡ None → d.close ≡ None → IsAsked (d ∷ ds)
  asked-first d ds e f = asked-true d.first d ds (or_left (asks_first d.first d) (asks_second d.first d) (rw (eqb-same d.first, e, f) refl))

  asked-second : (d : Bisection) (ds : List Bisection) → d.by_second ≡ None → d.close ≡ None → IsAsked (d ∷ ds)
  asked-second d ds e f = asked-true d.second d ds (or_right (asks_first d.second d) (asks_second d.second d) (rw (eqb-same d.second, e, f) refl))

  asked-open : (d : Bisection) (ds : List Bisection) (x y : Option Settled) → d.by_first ≡ x → d.by_second ≡ y → d.close ≡ None → Waits x y None → IsAsked (d ∷ ds)
  asked-open d ds (Some a) (Some b) ex ey ec m = absurd m
  asked-open d ds (Some a) None ex ey ec m = asked-second d ds ey ec
  asked-open d ds None y ex ey ec m = asked-first d ds ex ec

  asked-further : (d : Bisection) (ds : List Bisection) → IsAsked ds → IsAsked (d ∷ ds)
  asked-further d ds i =
      elim (cases_Bool (asks_first i.prover d || asks_second i.prover d)) [
        | inl here ↦ asked-true i.prover d ds here
        | inr further ↦ record { prover = i.prover; question = i.question; asked = rw further i.asked }
      ]

  asked-by : (d : Bisection) (ds : List Bisection) (c : Option Close) → d.close ≡ c → Waits d.by_first d.by_second c → (is_some c && all_closed ds) ≡ false → (all_closed ds ≡ false → IsAsked ds) → IsAsked (d ∷ ds)
  asked-by d ds (Some c) ec m e r = asked-further d ds (r e)
  asked-by d ds None ec m e r = asked-open d ds d.by_first d.by_second refl refl ec m

  asked-some : (ds : List Bisection) → AllMove ds → all_closed ds ≡ false → IsAsked ds
  asked-some [] a e = absurd (cc)
  asked-some (d ∷ ds) a e = asked-by d ds d.close refl a.0 e (asked-some ds a.1)

  -- claims

  missing-at : (ss : List (Option Settled)) → all_there ss ≡ false → (k : ℕ) × (claim_missing (slice_get ss k) ≡ true)
  missing-at [] e = absurd (cc)
  missing-at (None ∷ ss) e = (zero, refl)
  missing-at (Some s ∷ ss) e = let r : (k : ℕ) × (claim_missing (slice_get ss k) ≡ true) = missing-at ss e in (suc r.0, r.1)

  there-at : (ss : List (Option Settled)) (k : ℕ) → all_there ss ≡ true → claim_missing (slice_get ss k) ≡ false
  there-at [] k e = refl
  there-at (None ∷ ss) k e = absurd (cc)
  there-at (Some s ∷ ss) zero e = refl
  there-at (Some s ∷ ss) (suc k) e = there-at ss k e

  some-none : (p : ℕ) (rules : Rules) (t : Record) (q : Question) → ((r : ℕ) → IsApart rules r t) → ((r : ℕ) → 0 < r → r ≤ rules.setup.provers → open_question rules t r ≡ None) → 0 < p → open_question rules t p ≡ Some q → ⊥
  some-none p rules t q apart none some e =
      let z : open_question rules t p ≡ None = none p some (is-prover rules p q t some (apart p) e) in absurd (cc)

  pub complete-is : (rules : Rules) (t : Record) → ((p : ℕ) → IsApart rules p t) → AllMove t.disputes → ((p : ℕ) → 0 < p → p ≤ rules.setup.provers → open_question rules t p ≡ None) → is_complete t ≡ true
  complete-is rules t apart moves none =
      elim (cases_Bool (all_there t.claims)) [
        | inr part ↦
            let m : (k : ℕ) × (claim_missing (slice_get t.claims k) ≡ true) = missing-at t.claims part in
            let at : m.0 + 1 - 1 ≡ m.0 = omega arith in
            let e : open_question rules t (m.0 + 1) ≡ Some claim_question = rw (at, m.1) refl in
            absurd (some-none (m.0 + 1) rules t claim_question apart none (omega arith) e)
        | inl whole ↦
            elim (cases_Bool (all_closed t.disputes)) [
              | inl closed ↦ rw (whole, closed) refl
              | inr open_ ↦
                  let i : IsAsked t.disputes = asked-some t.disputes moves open_ in
                  let e : open_question rules t i.prover ≡ Some i.question = rw (there-at t.claims (i.prover - 1) whole) i.asked in
                  elim (cases_Bool (i.prover == 0)) [
                    | inl zero_ ↦ let z : i.prover ≡ 0 = grind (arith, nat_tests) in absurd (let a : IsApart rules i.prover t = apart i.prover in omega (arith, a.numbered z, engaged-asked i.prover i.question t.disputes i.asked))
                    | inr more ↦ let some : 0 < i.prover = grind (arith, nat_tests) in absurd (some-none i.prover rules t i.question apart none some e)
                  ]
            ]
      ]

  -- what every record keeps

  pub moves-after : (rules : Rules) (es : List (ℕ × Settled)) (t : Record) → AllMove t.disputes → AllMove (after rules es t).disputes
  moves-after rules [] t a = a
  moves-after rules (e ∷ es) t a = moves-after rules es (settle rules e.0 e.1 t) (moves-settle rules e.0 e.1 t a)

  pub apart-after : (rules : Rules) (p : ℕ) (es : List (ℕ × Settled)) (t : Record) → IsApart rules p t → IsApart rules p (after rules es t)
  apart-after rules p [] t a = a
  apart-after rules p (e ∷ es) t a = apart-after rules p es (settle rules e.0 e.1 t) (apart-settle rules p e.0 e.1 t a)

  -- once it is over, nobody is asked

  closed-not : (p : ℕ) (d : Bisection) → is_closed d ≡ true → (asks_first p d || asks_second p d) ≡ false
  closed-not p d e = rw e (no-side (d.first == p) (is_none d.by_first) (d.second == p) (is_none d.by_second))

  closed-none : (p : ℕ) (ds : List Bisection) → all_closed ds ≡ true → question_in p ds ≡ None
  closed-none p [] e = refl
  closed-none p (d ∷ ds) e =
      let two : (is_closed d ≡ true) × (all_closed ds ≡ true) = and_parts (is_closed d) (all_closed ds) e in
      rw (closed-not p d two.0) (closed-none p ds two.1)

  complete-none : (rules : Rules) (t : Record) (p : ℕ) → is_complete t ≡ true → open_question rules t p ≡ None
  complete-none rules t p e =
      let two : (all_there t.claims ≡ true) × (all_closed t.disputes ≡ true) = and_parts (all_there t.claims) (all_closed t.disputes) e in
      rw (there-at t.claims (p - 1) two.0) (closed-none p t.disputes two.1)

  pub over-after : (rules : Rules) (es : List (ℕ × Settled)) →
      ((p : ℕ) → 0 < p → p ≤ rules.setup.provers → open_question rules (after rules es (nothing_settled rules)) p ≡ None) ↔ (is_complete (after rules es (nothing_settled rules)) ≡ true)
  over-after rules es = (
    (λ none. complete-is rules (after rules es (nothing_settled rules)) (λ p. apart-after rules p es (nothing_settled rules) (apart-nothing rules p)) (moves-after rules es (nothing_settled rules) tt) none),
    (λ over p some le. complete-none rules (after rules es (nothing_settled rules)) p over),
  )
