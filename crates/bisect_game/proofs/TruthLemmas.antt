-- A side whose answers are true has the run's roots, and stays.
use Rattle.std.proofs.Common.{◌≡◌, ◌≢◌, ℕ, zero, suc, ◌+◌, ◌-◌, ◌<◌, ◌≤◌, min, nat_le, Bool, true, false, List, [], ◌∷◌, ◌++◌, ◌==◌, if◌then◌else◌, map, length, inl, inr, Some, refl, sym, ◌∙◌, ap, arith, get_or}
use Rattle.std.proofs.lemmas.Bool.Decides.{nat_tests}
use Rattle.std.proofs.lemmas.List.{length-map}
use Rattle.std.proofs.lemmas.Slice.Eq.{bytes_eq-Decides}
use Rattle.std.proofs.lemmas.Bool.{cases_Bool}
use Rattle.rd_base.specs.declared.digest.Digest32.{Digest32}
use Rattle.bisect_game.specs.declared.settled.Interval.{Interval}
use Rattle.bisect_game.specs.declared.settled.Kind.TheVariants as kind
use Rattle.rd_base.specs.declared.answer.Answer.{Answer}
use Rattle.rd_base.specs.declared.answer.Answer.TheVariants as answer
use Rattle.bisect_game.specs.declared.settled.Settled.{Settled}
use Rattle.bisect_game.specs.declared.settled.Settled.TheVariants.{Given, Faulty, Spent}
use Rattle.bisect_game.specs.declared.settled.Side.{Side}
use Rattle.bisect_game.specs.declared.settled.Side.TheVariants.{First, Second}
use Rattle.bisect_game.proofs.CutLemmas.{cut-first, cut-last}
use Rattle.bisect_game.specs.Bisection.{cut, cuts_from, cuts, kept, kind_over, parts_of, roots_of, roots_in, agreeing}
use Rattle.bisect_game.specs.Closing.{is_step, is_out, is_proved}
use Rattle.bisect_game.specs.Laws.{TrueAnswersFit}
use Rattle.bisect_game.specs.Rules.{is_fit}
use Rattle.bisect_game.specs.Ruling.{Ruling, same_digest}
use Rattle.bisect_game.specs.Truth.{Truth, IsFit, IsTrueAnswer, IsTrueSettled, own_root}

-- digests of the same bytes are the same
pub same-is : (x y : Digest32) → same_digest x y ≡ true → x ≡ y
same-is x y e = ap (λ (bytes : List ℕ). let d : Digest32 = record { 0 = bytes } in d) ((bytes_eq-Decides x.0 y.0).0 e)

pub same-digests : (x y : Digest32) → x ≡ y → same_digest x y ≡ true
same-digests x y e = (bytes_eq-Decides x.0 y.0).1 (ap (λ (d : Digest32). d.0) e)

pub same-not : (x y : Digest32) → same_digest x y ≡ false → x ≢ y
same-not x y e same = let yes : same_digest x y ≡ true = same-digests x y same in cc

-- the roots at so many cuts, from the one with this number on
abbrev roots_at : (ℕ → Digest32) → ℕ → ℕ → ℕ → ℕ → ℕ → List Digest32
roots_at root lo hi parts j n = map root (cuts_from lo hi parts j n)

-- the roots at the cuts, before which the first and after which the last stands

nth-front : (root : ℕ → Digest32) (other : Digest32) (lo hi parts j n k : ℕ) → k ≤ n → get_or (root (cut lo hi parts j) ∷ roots_at root lo hi parts (j + 1) n) k other ≡ root (cut lo hi parts (j + k))
nth-front root other lo hi parts j n zero le = ap (λ (m : ℕ). root (cut lo hi parts m)) (omega arith)
nth-front root other lo hi parts j zero (suc k) le = absurd (omega arith)
nth-front root other lo hi parts j (suc n) (suc k) le = nth-front root other lo hi parts (j + 1) n k (omega arith) ∙ ap (λ (m : ℕ). root (cut lo hi parts m)) (omega arith)

nth-back : (root : ℕ → Digest32) (other : Digest32) (lo hi parts j n k : ℕ) → k ≤ n → get_or (roots_at root lo hi parts j n ++ root (cut lo hi parts (j + n)) ∷ []) k other ≡ root (cut lo hi parts (j + k))
nth-back root other lo hi parts j zero zero le = refl
nth-back root other lo hi parts j zero (suc k) le = absurd (omega arith)
nth-back root other lo hi parts j (suc n) zero le = ap (λ (m : ℕ). root (cut lo hi parts m)) (omega arith)
nth-back root other lo hi parts j (suc n) (suc k) le =
    let e : root (cut lo hi parts (j + suc n)) ≡ root (cut lo hi parts (j + 1 + n)) = ap (λ (m : ℕ). root (cut lo hi parts m)) (omega arith) in
    rw e (nth-back root other lo hi parts (j + 1) n k (omega arith) ∙ ap (λ (m : ℕ). root (cut lo hi parts m)) (omega arith))

-- what a true answer has of roots

true-by : (t : Truth) (lo hi fan : ℕ) (two : Bool) (a : Answer) → (fan == 2) ≡ two → 1 < fan → 1 < hi - lo →
    IsTrueAnswer t (if two then kind.Root (cut lo hi 2 1) else kind.Roots lo hi (min fan (hi - lo))) a →
    roots_in a ≡ roots_at t.root lo hi (min fan (hi - lo)) 1 (min fan (hi - lo) - 1)
true-by t lo hi fan true (answer.Root x) e more wide is =
    let parts : min fan (hi - lo) ≡ 2 = grind (arith, nat_tests) in
    rw parts (ap (λ (y : Digest32). y ∷ []) is)
true-by t lo hi fan true (answer.Roots xs) e more wide is = absurd is
true-by t lo hi fan true (answer.Claim c) e more wide is = absurd is
true-by t lo hi fan true (answer.Step p) e more wide is = absurd is
true-by t lo hi fan false (answer.Roots xs) e more wide is = is
true-by t lo hi fan false (answer.Root x) e more wide is = absurd is
true-by t lo hi fan false (answer.Claim c) e more wide is = absurd is
true-by t lo hi fan false (answer.Step p) e more wide is = absurd is

true-roots : (t : Truth) (fan lo hi : ℕ) (s : Settled) → 1 < fan → nat_le (hi - lo) 1 ≡ false → IsTrueSettled t (kind_over fan lo hi) s →
    roots_of s ≡ roots_at t.root lo hi (min fan (hi - lo)) 1 (min fan (hi - lo) - 1)
true-roots t fan lo hi (Given a) more long is = true-by t lo hi fan (fan == 2) a refl more (grind (arith, nat_tests)) (rw long at is)
true-roots t fan lo hi (Faulty a) more long is = absurd is
true-roots t fan lo hi Spent more long is = absurd is

-- the part that is kept has the run's roots at its ends

pub record HasRoots (t : Truth) (side : Side) (i : Interval) : Type 0 where
  pub agreed : i.agreed ≡ t.root i.lo
  pub own : own_root side i ≡ t.root i.hi

kept-roots : (t : Truth) (lo hi : ℕ) (agreed own : Digest32) (parts : ℕ) (xs : List Digest32) (j : ℕ) (x y : Digest32) → 1 < parts → lo ≤ hi → j ≤ parts - 1 → xs ≡ roots_at t.root lo hi parts 1 (parts - 1) →
    agreed ≡ t.root lo → own ≡ t.root hi →
    (get_or (agreed ∷ xs) j x ≡ t.root (cut lo hi parts j)) × (get_or (xs ++ own ∷ []) j y ≡ t.root (cut lo hi parts (j + 1)))
kept-roots t lo hi agreed own parts xs j x y more le below is a o =
    let some : 0 < parts = omega arith in
    let last : 1 + (parts - 1) ≡ parts = omega arith in
    let a0 : agreed ≡ t.root (cut lo hi parts 0) = a ∙ ap t.root (sym (cut-first lo hi parts some)) in
    let o0 : own ≡ t.root (cut lo hi parts (1 + (parts - 1))) = o ∙ ap t.root (sym (ap (cut lo hi parts) last ∙ cut-last lo hi parts some le)) in
    rw (is, a0, o0) (nth-front t.root x lo hi parts 0 (parts - 1) j below ∙ ap (λ (m : ℕ). t.root (cut lo hi parts m)) (omega arith), nth-back t.root y lo hi parts 1 (parts - 1) j below ∙ ap (λ (m : ℕ). t.root (cut lo hi parts m)) (omega arith))

-- the side of a round that goes on
pub kept-first : (t : Truth) (fan : ℕ) (i : Interval) (a b : Settled) → 1 < fan → is_step i ≡ false → i.lo < i.hi → IsTrueSettled t (kind_over fan i.lo i.hi) a →
    HasRoots t First i → HasRoots t First (kept (parts_of fan i) i (roots_of a) (roots_of b))
kept-first t fan i a b more long some is h =
    let wide : 1 < i.hi - i.lo = grind (arith, nat_tests) in
    let k : (_ ≡ _) × (_ ≡ _) =
    kept-roots t i.lo i.hi i.agreed i.first (min fan (i.hi - i.lo)) (roots_of a) (min (agreeing (roots_of a) (roots_of b)) (min fan (i.hi - i.lo) - 1)) i.agreed i.first
    (omega arith) (omega arith) (omega arith) (true-roots t fan i.lo i.hi a more long is) h.agreed h.own
    in record { agreed = k.0; own = k.1 }

-- agreed roots: those of the first side are those of the second
pub same-front : (a other : Digest32) (xs ys : List Digest32) (j : ℕ) → j ≤ agreeing xs ys → get_or (a ∷ xs) j other ≡ get_or (a ∷ ys) j other
same-front a other xs ys zero le = refl
same-front a other [] [] (suc j) le = refl
same-front a other [] (y ∷ ys) (suc j) le = absurd (omega arith)
same-front a other (x ∷ xs) [] (suc j) le = absurd (omega arith)
same-front a other (x ∷ xs) (y ∷ ys) (suc j) le =
    elim (cases_Bool (same_digest x y)) [
      | inl e ↦
          let here : suc j ≤ suc (agreeing xs ys) = rw e at le in
          let same : x ≡ y = same-is x y e in
          let next : get_or (x ∷ xs) j other ≡ get_or (y ∷ ys) j other = rw same (same-front y other xs ys j (omega arith)) in
          next
      | inr e ↦
          let here : suc j ≤ 0 = rw e at le in
          absurd (omega arith)
    ]

pub kept-second : (t : Truth) (fan : ℕ) (i : Interval) (a b : Settled) → 1 < fan → is_step i ≡ false → i.lo < i.hi → IsTrueSettled t (kind_over fan i.lo i.hi) b →
    HasRoots t Second i → HasRoots t Second (kept (parts_of fan i) i (roots_of a) (roots_of b))
kept-second t fan i a b more long some is h =
    let wide : 1 < i.hi - i.lo = grind (arith, nat_tests) in
    let k : (_ ≡ _) × (_ ≡ _) =
    kept-roots t i.lo i.hi i.agreed i.second (min fan (i.hi - i.lo)) (roots_of b) (min (agreeing (roots_of a) (roots_of b)) (min fan (i.hi - i.lo) - 1)) i.agreed i.second
    (omega arith) (omega arith) (omega arith) (true-roots t fan i.lo i.hi b more long is) h.agreed h.own
    in record {
      agreed = same-front i.agreed i.agreed (roots_of a) (roots_of b) (min (agreeing (roots_of a) (roots_of b)) (min fan (i.hi - i.lo) - 1)) (omega arith) ∙ k.0;
      own = k.1;
    }

-- a true proof proves
pub proved : (r : Ruling) (t : Truth) (i : Interval) (a : Answer) (own : Digest32) → is_step i ≡ true → i.lo < i.hi → i.agreed ≡ t.root i.lo → own ≡ t.root i.hi →
    r.leads (t.root i.lo) (t.proof i.lo) ≡ Some (t.root (i.lo + 1)) → IsTrueAnswer t (kind.Proof i.lo) a → is_proved r i.agreed own a ≡ true
proved r t i (answer.Step p) own step some a o leads is =
    let short : i.lo + 1 ≡ i.hi = grind (arith, nat_tests) in
    rw (is, a, leads, short, o) (same-digests (t.root i.hi) (t.root i.hi) refl)
proved r t i (answer.Claim c) own step some a o leads is = absurd is
proved r t i (answer.Root x) own step some a o leads is = absurd is
proved r t i (answer.Roots xs) own step some a o leads is = absurd is

pub not-out : (r : Ruling) (t : Truth) (fan : ℕ) (i : Interval) (own : Digest32) (s : Settled) (step : Bool) → is_step i ≡ step → i.lo < i.hi → i.agreed ≡ t.root i.lo → own ≡ t.root i.hi →
    r.leads (t.root i.lo) (t.proof i.lo) ≡ Some (t.root (i.lo + 1)) → IsTrueSettled t (kind_over fan i.lo i.hi) s → is_out r i own s ≡ false
not-out r t fan i own (Given x) false e some a o leads is = rw e refl
not-out r t fan i own (Given x) true e some a o leads is = rw (e, proved r t i x own e some a o leads (rw e at is)) refl
not-out r t fan i own (Faulty x) step e some a o leads is = absurd is
not-out r t fan i own Spent step e some a o leads is = absurd is

-- the roots at the ends differ, as long as both sides give as many

apart : (f s u v : Digest32) (xs ys : List Digest32) (n j : ℕ) → f ≢ s → length xs ≡ n → length ys ≡ n → j ≡ min (agreeing xs ys) n → get_or (xs ++ f ∷ []) j u ≢ get_or (ys ++ s ∷ []) j v
apart f s u v [] [] n j differ lx ly is = let z : j ≡ 0 = omega arith in rw z differ
apart f s u v [] (y ∷ ys) n j differ lx ly is = absurd (omega arith)
apart f s u v (x ∷ xs) [] n j differ lx ly is = absurd (omega arith)
apart f s u v (x ∷ xs) (y ∷ ys) n j differ lx ly is =
    elim (cases_Bool (same_digest x y)) [
      | inl e ↦
          let here : j ≡ min (suc (agreeing xs ys)) n = rw e at is in
          let next : j ≡ suc (min (agreeing xs ys) (n - 1)) = omega arith in
          rw next (apart f s u v xs ys (n - 1) (min (agreeing xs ys) (n - 1)) differ (omega arith) (omega arith) refl)
      | inr e ↦
          let here : j ≡ min 0 n = rw e at is in
          let z : j ≡ 0 = omega arith in
          rw z (same-not x y e)
    ]

eqb-is : (m n : ℕ) → (m == n) ≡ true → m ≡ n
eqb-is m n e = grind (arith, nat_tests)

fit-by : (r : Ruling) (lo hi fan : ℕ) (two : Bool) (a : Answer) → (fan == 2) ≡ two → 1 < fan → 1 < hi - lo →
    is_fit r (if two then kind.Root (cut lo hi 2 1) else kind.Roots lo hi (min fan (hi - lo))) a ≡ true → length (roots_in a) ≡ min fan (hi - lo) - 1
fit-by r lo hi fan true (answer.Root x) e more wide is = let two : fan ≡ 2 = eqb-is fan 2 e in omega arith
fit-by r lo hi fan true (answer.Roots xs) e more wide is = absurd (cc)
fit-by r lo hi fan true (answer.Claim c) e more wide is = absurd (cc)
fit-by r lo hi fan true (answer.Step p) e more wide is = absurd (cc)
fit-by r lo hi fan false (answer.Roots xs) e more wide is = eqb-is (length xs) (min fan (hi - lo) - 1) is
fit-by r lo hi fan false (answer.Root x) e more wide is = absurd (cc)
fit-by r lo hi fan false (answer.Claim c) e more wide is = absurd (cc)
fit-by r lo hi fan false (answer.Step p) e more wide is = absurd (cc)

-- a settled answer of a round that goes on has as many roots as there are cuts
pub fit-length : (r : Ruling) (fan : ℕ) (i : Interval) (own : Digest32) (s : Settled) → 1 < fan → is_step i ≡ false → is_out r i own s ≡ false → IsFit r (kind_over fan i.lo i.hi) s →
    length (roots_of s) ≡ min fan (i.hi - i.lo) - 1
fit-length r fan i own (Given a) more long stays fit = fit-by r i.lo i.hi fan (fan == 2) a refl more (grind (arith, nat_tests)) (rw long at fit)
fit-length r fan i own (Faulty a) more long stays fit = absurd (cc)
fit-length r fan i own Spent more long stays fit = absurd (cc)

pub kept-apart : (r : Ruling) (fan : ℕ) (i : Interval) (a b : Settled) → 1 < fan → is_step i ≡ false → i.first ≢ i.second →
    is_out r i i.first a ≡ false → is_out r i i.second b ≡ false → IsFit r (kind_over fan i.lo i.hi) a → IsFit r (kind_over fan i.lo i.hi) b →
    (kept (parts_of fan i) i (roots_of a) (roots_of b)).first ≢ (kept (parts_of fan i) i (roots_of a) (roots_of b)).second
kept-apart r fan i a b more long differ sa sb fa fb =
    apart i.first i.second i.first i.second (roots_of a) (roots_of b) (min fan (i.hi - i.lo) - 1) _ differ
    (fit-length r fan i i.first a more long sa fa) (fit-length r fan i i.second b more long sb fb) refl

-- a true answer fits what was asked

eqb-same : (n : ℕ) → (n == n) ≡ true
eqb-same n = grind (arith, nat_tests)

from-count : (lo hi parts j n : ℕ) → length (cuts_from lo hi parts j n) ≡ n
from-count lo hi parts j zero = refl
from-count lo hi parts j (suc n) = ap suc (from-count lo hi parts (j + 1) n)

roots-fit : (t : Truth) (lo hi parts : ℕ) (roots : List Digest32) → roots ≡ map t.root (cuts lo hi parts) → (length roots == parts - 1) ≡ true
roots-fit t lo hi parts roots is =
    let count : length roots ≡ parts - 1 = ap length is ∙ (length-map (cuts lo hi parts) t.root ∙ from-count lo hi parts 1 (parts - 1)) in
    rw count (eqb-same (parts - 1))

pub true_answers_fit : TrueAnswersFit
true_answers_fit r t kind.Claim (answer.Claim c) sound is = rw is sound
true_answers_fit r t kind.Claim (answer.Root x) sound is = absurd is
true_answers_fit r t kind.Claim (answer.Roots xs) sound is = absurd is
true_answers_fit r t kind.Claim (answer.Step p) sound is = absurd is
true_answers_fit r t (kind.Root i) (answer.Claim c) sound is = absurd is
true_answers_fit r t (kind.Root i) (answer.Root x) sound is = refl
true_answers_fit r t (kind.Root i) (answer.Roots xs) sound is = absurd is
true_answers_fit r t (kind.Root i) (answer.Step p) sound is = absurd is
true_answers_fit r t (kind.Roots lo hi parts) (answer.Claim c) sound is = absurd is
true_answers_fit r t (kind.Roots lo hi parts) (answer.Root x) sound is = absurd is
true_answers_fit r t (kind.Roots lo hi parts) (answer.Roots xs) sound is = roots-fit t lo hi parts xs is
true_answers_fit r t (kind.Roots lo hi parts) (answer.Step p) sound is = absurd is
true_answers_fit r t (kind.Proof i) (answer.Claim c) sound is = absurd is
true_answers_fit r t (kind.Proof i) (answer.Root x) sound is = absurd is
true_answers_fit r t (kind.Proof i) (answer.Roots xs) sound is = absurd is
true_answers_fit r t (kind.Proof i) (answer.Step p) sound is = refl
