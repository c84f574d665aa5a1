-- m provers play at most m - 1 disputes.
use Rattle.std.proofs.Common.{◌≡◌, ℕ, zero, suc, ◌+◌, ◌-◌, ◌*◌, ◌<◌, ◌≤◌, Bool, true, false, not, ◌&&◌, ◌||◌, ◌==◌, if◌then◌else◌, List, [], ◌∷◌, ◌++◌, length, replicate, slice_get, slice_set, ◌⊎◌, inl, inr, Option, Some, None, is_some, is_none, refl, ◌∙◌, ap, arith, append-nil, length-append}
use Rattle.std.proofs.lemmas.Bool.Decides.{nat_tests}
use Rattle.std.proofs.lemmas.Bool.{and_parts, cases_Bool, or_left, or_right}
use Rattle.rd_base.specs.declared.answer.Answer.TheVariants as answer
use Rattle.bisect_game.specs.declared.settled.Interval.{Interval}
use Rattle.bisect_game.specs.declared.settled.Settled.TheVariants.{Given}
use Rattle.rd_base.specs.declared.digest.Digest32.{Digest32}
use Rattle.rd_base.specs.declared.claim.Claim.{Claim}
use Rattle.bisect_game.specs.declared.settled.Settled.{Settled}
use Rattle.bisect_game.specs.declared.settled.Close.{Close}
use Rattle.bisect_game.specs.declared.settled.Close.TheVariants.{Out, Collision}
use Rattle.bisect_game.specs.Bisection.{Bisection, settle_first, settle_second, closed_or, went_on, decided, advanced}
use Rattle.bisect_game.specs.Closing.{both_proved, closed_by, close_of, is_out, is_step}
use Rattle.bisect_game.specs.Rules.{Rules}
use Rattle.bisect_game.specs.Ruling.{Ruling, same_digest}
use Rattle.tournament.proofs.OpenedLemmas.{opened-not, opened-due}
use Rattle.tournament.proofs.SidesLemmas.{SameSides, sides-first, sides-second}
use Rattle.tournament.specs.Bracket.{Record, is_out_by, is_out_in, claim_in, also, live_from, Taken, passed_over, take_other, pairs_of, pairs, last_stage, disputes_of, all_there, all_out, put_out, is_stage_due, stage_opened, nothing_settled, asks_first, asks_second, claim_missing, settled_in, put, settle}
use Rattle.tournament.specs.Settling.{after}

abbrev one_if : Bool → ℕ
one_if true = 1
one_if false = 0

-- how many are still there
abbrev staying : (ℕ → Bool) → List (ℕ × Claim) → ℕ
staying out [] = 0
staying out (x ∷ xs) = one_if (not (out x.0)) + staying out xs

abbrev pub Pair : Type 0
Pair = (ℕ × Claim) × (ℕ × Claim)

-- of each pair one is out
abbrev OneOut : (ℕ → Bool) → List Pair → Type 0
OneOut out [] = Unit {0}
OneOut out (p ∷ ps) = (out p.0.0 || out p.1.0) ≡ true × OneOut out ps

-- of a list one is taken: its length, and how many stay
record IsCut (out : ℕ → Bool) (xs : List (ℕ × Claim)) (t : (ℕ × Claim) × List (ℕ × Claim)) : Type 0 where
  shorter : length xs ≡ suc (length t.1)
  fewer : staying out xs ≡ one_if (not (out t.0.0)) + staying out t.1

abbrev CutRight : (ℕ → Bool) → List (ℕ × Claim) → Taken → Type 0
CutRight out xs None = Unit {0}
CutRight out xs (Some t) = IsCut out xs t

cut-passed : (out : ℕ → Bool) (x : ℕ × Claim) (xs : List (ℕ × Claim)) (t : Taken) → CutRight out xs t → CutRight out (x ∷ xs) (passed_over x t)
cut-passed out x xs None c = tt
cut-passed out x xs (Some t) c = record { shorter = ap suc c.shorter; fewer = omega (arith, c.fewer) }

cut-choice : (out : ℕ → Bool) (x : ℕ × Claim) (xs : List (ℕ × Claim)) (t : Taken) (b : Bool) → CutRight out xs t → CutRight out (x ∷ xs) (if b then passed_over x t else Some (x, xs))
cut-choice out x xs t true c = cut-passed out x xs t c
cut-choice out x xs t false c = record { shorter = refl; fewer = refl }

cut-right : (r : Ruling) (out : ℕ → Bool) (root : Digest32) (xs : List (ℕ × Claim)) → CutRight out xs (take_other r root xs)
cut-right r out root [] = tt
cut-right r out root (x ∷ xs) = cut-choice out x xs (take_other r root xs) (same_digest (r.root_of x.1) root) (cut-right r out root xs)

record FewPairs (out : ℕ → Bool) (xs : List (ℕ × Claim)) (ps : List Pair) : Type 0 where
  half : 2 * length ps ≤ length xs
  rest : OneOut out ps → staying out xs + length ps ≤ length xs

at-most-one : (b : Bool) → one_if b ≤ 1
at-most-one true = omega arith
at-most-one false = omega arith

one-stays : (x y : Bool) → (x || y) ≡ true → one_if (not x) + one_if (not y) ≤ 1
one-stays true y e = omega (arith, at-most-one (not y))
one-stays false true e = omega arith
one-stays false false e = absurd (cc)

staying-le : (out : ℕ → Bool) (xs : List (ℕ × Claim)) → staying out xs ≤ length xs
staying-le out [] = omega arith
staying-le out (x ∷ xs) = omega (arith, at-most-one (not (out x.0)), staying-le out xs)

few-by : (r : Ruling) (out : ℕ → Bool) (n : ℕ) (x : ℕ × Claim) (xs : List (ℕ × Claim)) (t : Taken) → CutRight out xs t → FewPairs out xs (pairs_of r n xs) →
    ((ys : List (ℕ × Claim)) → FewPairs out ys (pairs_of r n ys)) →
    FewPairs out (x ∷ xs) (elim t [ None ↦ pairs_of r n xs | Some u ↦ (x, u.0) ∷ pairs_of r n u.1 ])
few-by r out n x xs None c none some = record { half = omega (arith, none.half); rest = λ o. omega (arith, none.rest o, at-most-one (not (out x.0))) }
few-by r out n x xs (Some u) c none some =
    let f : FewPairs out u.1 (pairs_of r n u.1) = some u.1 in
    record {
      half = omega (arith, f.half, c.shorter);
      rest = λ o. omega (arith, f.rest o.1, one-stays (out x.0) (out u.0.0) o.0, c.fewer, c.shorter);
    }

few-pairs : (r : Ruling) (out : ℕ → Bool) (n : ℕ) (xs : List (ℕ × Claim)) → FewPairs out xs (pairs_of r n xs)
few-pairs r out zero xs = record { half = omega arith; rest = λ o. omega (arith, staying-le out xs) }
few-pairs r out (suc n) [] = record { half = omega arith; rest = λ o. omega arith }
few-pairs r out (suc n) (x ∷ xs) = few-by r out n x xs (take_other r (r.root_of x.1) xs) (cut-right r out (r.root_of x.1) xs) (few-pairs r out n xs) (λ ys. few-pairs r out n ys)

-- who is live after further disputes

or-assoc : (a b c : Bool) → (a || (b || c)) ≡ ((a || b) || c)
or-assoc true b c = refl
or-assoc false b c = refl

out-append : (ds es : List Bisection) (p : ℕ) → is_out_in (ds ++ es) p ≡ (is_out_in ds p || is_out_in es p)
out-append [] es p = refl
out-append (d ∷ ds) es p = ap (λ (b : Bool). is_out_by d d.close p || b) (out-append ds es p) ∙ or-assoc (is_out_by d d.close p) (is_out_in ds p) (is_out_in es p)

live-by : (out : ℕ → Bool) (p : ℕ) (c : Option Claim) (xs : List (ℕ × Claim)) (ys : List (ℕ × Claim)) (a b : Bool) → out p ≡ b → length ys ≡ staying out xs →
    length (if a || b then ys else also p c ys) ≡ staying out (if a then xs else also p c xs)
live-by out p c xs ys true b e i = i
live-by out p (Some c) xs ys false true e i = rw e (i ∙ omega arith)
live-by out p (Some c) xs ys false false e i = rw e (ap suc i ∙ omega arith)
live-by out p None xs ys false true e i = i
live-by out p None xs ys false false e i = i

live-append : (ds es : List Bisection) (p : ℕ) (ss : List (Option Settled)) → length (live_from (ds ++ es) p ss) ≡ staying (is_out_in es) (live_from ds p ss)
live-append ds es p [] = refl
live-append ds es p (s ∷ ss) =
    rw (out-append ds es p) (live-by (is_out_in es) p (claim_in s) (live_from ds (p + 1) ss) (live_from (ds ++ es) (p + 1) ss) (is_out_in ds p) (is_out_in es p) refl (live-append ds es (p + 1) ss))

live-also : (p : ℕ) (c : Option Claim) (xs : List (ℕ × Claim)) (b : Bool) → length (if b then xs else also p c xs) ≤ length xs + 1
live-also p c xs true = omega arith
live-also p (Some c) xs false = omega arith
live-also p None xs false = omega arith

live-few : (ds : List Bisection) (p : ℕ) (ss : List (Option Settled)) → length (live_from ds p ss) ≤ length ss
live-few ds p [] = omega arith
live-few ds p (s ∷ ss) = omega (arith, live-also p (claim_in s) (live_from ds (p + 1) ss) (is_out_in ds p), live-few ds (p + 1) ss)

-- the sides of a stage's disputes are those of its pairs, and one of each is out when all have closed

abbrev pub SidesOf : List Pair → List Bisection → Type 0
SidesOf [] [] = Unit {0}
SidesOf [] (d ∷ ds) = ⊥
SidesOf (p ∷ ps) [] = ⊥
SidesOf (p ∷ ps) (d ∷ ds) = (d.first ≡ p.0.0) × (d.second ≡ p.1.0) × SidesOf ps ds

-- who closes puts somebody out
abbrev pub IsHonest : Option Close → Type 0
IsHonest (Some (Out a b)) = (a || b) ≡ true
IsHonest (Some (Collision s u)) = Unit {0}
IsHonest None = Unit {0}

abbrev pub AllHonest : List Bisection → Type 0
AllHonest [] = Unit {0}
AllHonest (d ∷ ds) = IsHonest d.close × AllHonest ds

sides-length : (ps : List Pair) (ds : List Bisection) → SidesOf ps ds → length ds ≡ length ps
sides-length [] [] s = refl
sides-length [] (d ∷ ds) s = absurd s
sides-length (p ∷ ps) [] s = absurd s
sides-length (p ∷ ps) (d ∷ ds) s = ap suc (sides-length ps ds s.2)

eqb-same : (n : ℕ) → (n == n) ≡ true
eqb-same n = grind (arith, nat_tests)

out-of-pair : (d : Bisection) (c : Option Close) (x y : ℕ) (u v : Bool) → put_out c ≡ true → IsHonest c → d.first ≡ x → d.second ≡ y → ((is_out_by d c x || u) || (is_out_by d c y || v)) ≡ true
out-of-pair d (Some (Out true b)) x y u v e h f g =
    let same : (d.first == x) ≡ true = rw f (eqb-same x) in
    or_left _ _ (or_left _ u (or_left _ _ same))
out-of-pair d (Some (Out false true)) x y u v e h f g =
    let same : (d.second == y) ≡ true = rw g (eqb-same y) in
    or_right _ _ (or_left _ v same)
out-of-pair d (Some (Out false false)) x y u v e h f g = absurd (cc)
out-of-pair d (Some (Collision s t)) x y u v e h f g = absurd (cc)
out-of-pair d None x y u v e h f g = absurd (cc)

wider : (a b c d : Bool) → (b || d) ≡ true → ((a || b) || (c || d)) ≡ true
wider true b c d e = refl
wider false true c d e = refl
wider false false c true e = or_right c true refl
wider false false c false e = absurd (cc)

one-more : (out more : ℕ → Bool) (ps : List Pair) → OneOut out ps → OneOut (λ p. more p || out p) ps
one-more out more [] o = tt
one-more out more (p ∷ ps) o = (wider (more p.0.0) (out p.0.0) (more p.1.0) (out p.1.0) o.0, one-more out more ps o.1)

stage-out : (ps : List Pair) (ds : List Bisection) → SidesOf ps ds → all_out ds ≡ true → AllHonest ds → OneOut (is_out_in ds) ps
stage-out [] [] s e h = tt
stage-out [] (d ∷ ds) s e h = tt
stage-out (p ∷ ps) [] s e h = absurd s
stage-out (p ∷ ps) (d ∷ ds) s e h =
    let two : (put_out d.close ≡ true) × (all_out ds ≡ true) = and_parts (put_out d.close) (all_out ds) e in (
      out-of-pair d d.close p.0.0 p.1.0 (is_out_in ds p.0.0) (is_out_in ds p.1.0) two.0 h.0 s.0 s.1,
      one-more (is_out_in ds) (λ q. is_out_by d d.close q) ps (stage-out ps ds s.2 two.1 h.1),
    )

-- how far a match has come: the stages that are over, and the one that is played
pub record IsStaged (rules : Rules) (t : Record) : Type 0 where
  pub past : List Bisection
  pub now : List Bisection
  pub parts : t.disputes ≡ past ++ now
  pub over : all_out past ≡ true
  pub sides : SidesOf (pairs_of rules.ruling rules.setup.provers (live_from past 1 t.claims)) now
  pub few : length past + length (live_from past 1 t.claims) ≤ rules.setup.provers
  pub some : 0 < length now

pub record IsCounted (rules : Rules) (t : Record) : Type 0 where
  pub claims : length t.claims ≡ rules.setup.provers
  pub honest : AllHonest t.disputes
  pub staged : (t.disputes ≡ []) ⊎ IsStaged rules t

-- so there are fewer disputes than provers
fewer-by : (rules : Rules) (t : Record) → 0 < rules.setup.provers → (t.disputes ≡ []) ⊎ IsStaged rules t → length t.disputes < rules.setup.provers
fewer-by rules t some (inl none) = rw none some
fewer-by rules t some (inr s) =
    let n : length s.now ≡ length (pairs_of rules.ruling rules.setup.provers (live_from s.past 1 t.claims)) = sides-length _ s.now s.sides in
    let f : FewPairs (λ p. true) (live_from s.past 1 t.claims) (pairs_of rules.ruling rules.setup.provers (live_from s.past 1 t.claims)) = few-pairs rules.ruling (λ p. true) rules.setup.provers (live_from s.past 1 t.claims) in
    rw (s.parts, length-append s.past s.now) (omega (arith, n, f.half, s.few, s.some))

pub fewer : (rules : Rules) (t : Record) → 0 < rules.setup.provers → IsCounted rules t → length t.disputes < rules.setup.provers
fewer rules t some c = fewer-by rules t some c.staged

-- a settled answer

asked-not : (b : Bool) (o : Option Settled) (c : Option Close) → put_out c ≡ true → (b && (is_none o && not (is_some c))) ≡ false
asked-not true None (Some c) e = refl
asked-not true (Some s) c e = refl
asked-not false o c e = refl
asked-not true None None e = absurd (cc)

settled-past : (rules : Rules) (p : ℕ) (s : Settled) (ds es : List Bisection) → all_out ds ≡ true → settled_in rules p s (ds ++ es) ≡ ds ++ settled_in rules p s es
settled-past rules p s [] es e = refl
settled-past rules p s (d ∷ ds) es e =
    let two : (put_out d.close ≡ true) × (all_out ds ≡ true) = and_parts (put_out d.close) (all_out ds) e in
    let ex : asks_first p d ≡ false = asked-not (d.first == p) d.by_first d.close two.0 in
    let ey : asks_second p d ≡ false = asked-not (d.second == p) d.by_second d.close two.0 in
    rw (ex, ey) (ap (λ (zs : List Bisection). d ∷ zs) (settled-past rules p s ds es two.1))

sides-choice : (rules : Rules) (p : ℕ) (s : Settled) (q : Pair) (ps : List Pair) (d : Bisection) (ds : List Bisection) (x y : Bool) → SidesOf (q ∷ ps) (d ∷ ds) → SidesOf ps (settled_in rules p s ds) →
    SidesOf (q ∷ ps) (if x then settle_first rules.ruling s d ∷ ds else if y then settle_second rules.ruling s d ∷ ds else d ∷ settled_in rules p s ds)
sides-choice rules p s q ps d ds true y i r = let k : SameSides d (settle_first rules.ruling s d) = sides-first rules.ruling s d in (k.first ∙ i.0, k.second ∙ i.1, i.2)
sides-choice rules p s q ps d ds false true i r = let k : SameSides d (settle_second rules.ruling s d) = sides-second rules.ruling s d in (k.first ∙ i.0, k.second ∙ i.1, i.2)
sides-choice rules p s q ps d ds false false i r = (i.0, i.1, r)

sides-settled : (rules : Rules) (p : ℕ) (s : Settled) (ps : List Pair) (ds : List Bisection) → SidesOf ps ds → SidesOf ps (settled_in rules p s ds)
sides-settled rules p s [] [] i = tt
sides-settled rules p s [] (d ∷ ds) i = absurd i
sides-settled rules p s (q ∷ ps) [] i = absurd i
sides-settled rules p s (q ∷ ps) (d ∷ ds) i = sides-choice rules p s q ps d ds (asks_first p d) (asks_second p d) i (sides-settled rules p s ps ds i.2)

sides-new : (rules : Rules) (g : ℕ) (n : ℕ) (ps : List Pair) → SidesOf ps (disputes_of rules g n ps)
sides-new rules g n [] = tt
sides-new rules g n (p ∷ ps) = (refl, refl, sides-new rules g (n + 1) ps)

honest-new : (rules : Rules) (g : ℕ) (n : ℕ) (ps : List Pair) → AllHonest (disputes_of rules g n ps)
honest-new rules g n [] = tt
honest-new rules g n (p ∷ ps) = (tt, honest-new rules g (n + 1) ps)

pub honest-both : (ds es : List Bisection) → AllHonest ds → AllHonest es → AllHonest (ds ++ es)
honest-both [] es h k = k
honest-both (d ∷ ds) es h k = (h.0, honest-both ds es h.1 k)

-- the next stage

out-second : (ds es : List Bisection) → all_out (ds ++ es) ≡ true → all_out es ≡ true
out-second [] es e = e
out-second (d ∷ ds) es e = let two : (_ ≡ true) × (all_out (ds ++ es) ≡ true) = and_parts (put_out d.close) (all_out (ds ++ es)) e in out-second ds es two.1

honest-second : (ds es : List Bisection) → AllHonest (ds ++ es) → AllHonest es
honest-second [] es h = h
honest-second (d ∷ ds) es h = honest-second ds es h.1

next-few : (rules : Rules) (t : Record) → all_out t.disputes ≡ true → IsCounted rules t → (t.disputes ≡ []) ⊎ IsStaged rules t →
    length t.disputes + length (live_from t.disputes 1 t.claims) ≤ rules.setup.provers
next-few rules t outs c (inl none) = rw none (omega (arith, live-few [] 1 t.claims, c.claims))
next-few rules t outs c (inr s) =
    let o : all_out s.now ≡ true = out-second s.past s.now (rw s.parts at outs) in
    let h : AllHonest s.now = honest-second s.past s.now (rw s.parts at c.honest) in
    let n : length s.now ≡ length (pairs_of rules.ruling rules.setup.provers (live_from s.past 1 t.claims)) = sides-length _ s.now s.sides in
    let f : FewPairs (is_out_in s.now) (live_from s.past 1 t.claims) (pairs_of rules.ruling rules.setup.provers (live_from s.past 1 t.claims)) = few-pairs rules.ruling (is_out_in s.now) rules.setup.provers (live_from s.past 1 t.claims) in
    let one : OneOut (is_out_in s.now) (pairs_of rules.ruling rules.setup.provers (live_from s.past 1 t.claims)) = stage-out _ s.now s.sides o h in
    rw (s.parts, length-append s.past s.now, live-append s.past s.now 1 t.claims) (omega (arith, n, f.rest one, s.few))

staged-next : (rules : Rules) (t : Record) → (q : Pair) (ps : List Pair) → pairs rules t ≡ q ∷ ps → all_out t.disputes ≡ true → IsCounted rules t →
    IsStaged rules (record t { disputes = t.disputes ++ disputes_of rules (last_stage t.disputes + 1) (length t.disputes + 1) (q ∷ ps) })
staged-next rules t q ps e outs c = record {
  past = t.disputes;
  now = disputes_of rules (last_stage t.disputes + 1) (length t.disputes + 1) (q ∷ ps);
  parts = refl;
  over = outs;
  sides = rw e (sides-new rules (last_stage t.disputes + 1) (length t.disputes + 1) (q ∷ ps));
  few = next-few rules t outs c c.staged;
  some = omega arith;
}

-- who closes puts somebody out, or has a collision

honest-met : (o : Option (List ℕ × List ℕ)) → IsHonest (Some (closed_by o))
honest-met (Some pair) = tt
honest-met None = refl

honest-meeting : (r : Ruling) (agreed : Digest32) (a b : Settled) → IsHonest (Some (both_proved r agreed a b))
honest-meeting r agreed (Given (answer.Step p)) (Given (answer.Step q)) = honest-met (r.step_collision agreed p q)
honest-meeting r agreed _ _ = refl

honest-close : (x y z : Bool) (m c : Close) → (if x || y then Some (Out x y) else if z then Some m else None) ≡ Some c → IsHonest (Some m) → IsHonest (Some c)
honest-close true y z m c e h = let same : Out true y ≡ c = cc in rw (← same) refl
honest-close false true z m c e h = let same : Out false true ≡ c = cc in rw (← same) refl
honest-close false false true m c e h = let same : m ≡ c = cc in rw (← same) h
honest-close false false false m c e h = absurd (cc)

honest-of : (r : Ruling) (i : Interval) (a b : Settled) (c : Close) → close_of r i a b ≡ Some c → IsHonest (Some c)
unfolding close_of
honest-of r i a b c e = honest-close (is_out r i i.first a) (is_out r i i.second b) (is_step i) (both_proved r i.agreed a b) c e (honest-meeting r i.agreed a b)

honest-by : (ruling : Ruling) (d : Bisection) (a b : Settled) (o : Option Close) → close_of ruling d.place a b ≡ o → IsHonest d.close → IsHonest (closed_or d (went_on d a b) o).close
honest-by ruling d a b (Some c) e h = honest-of ruling d.place a b c e
honest-by ruling d a b None e h = h

pub honest-advanced : (ruling : Ruling) (d : Bisection) (a b : Option Settled) → IsHonest d.close → IsHonest (advanced ruling d a b).close
unfolding decided
honest-advanced ruling d (Some a) (Some b) h = honest-by ruling d a b (close_of ruling d.place a b) refl h
honest-advanced ruling d (Some a) None h = h
honest-advanced ruling d None b h = h

honest-first : (ruling : Ruling) (s : Settled) (d : Bisection) → IsHonest d.close → IsHonest (settle_first ruling s d).close
unfolding settle_first
honest-first ruling s d h = honest-advanced ruling (record d { by_first = Some s }) (Some s) d.by_second h

honest-second-side : (ruling : Ruling) (s : Settled) (d : Bisection) → IsHonest d.close → IsHonest (settle_second ruling s d).close
unfolding settle_second
honest-second-side ruling s d h = honest-advanced ruling (record d { by_second = Some s }) d.by_first (Some s) h

honest-choice : (rules : Rules) (p : ℕ) (s : Settled) (d : Bisection) (ds : List Bisection) (x y : Bool) → AllHonest (d ∷ ds) → AllHonest (settled_in rules p s ds) →
    AllHonest (if x then settle_first rules.ruling s d ∷ ds else if y then settle_second rules.ruling s d ∷ ds else d ∷ settled_in rules p s ds)
honest-choice rules p s d ds true y h r = (honest-first rules.ruling s d h.0, h.1)
honest-choice rules p s d ds false true h r = (honest-second-side rules.ruling s d h.0, h.1)
honest-choice rules p s d ds false false h r = (h.0, r)

honest-settled : (rules : Rules) (p : ℕ) (s : Settled) (ds : List Bisection) → AllHonest ds → AllHonest (settled_in rules p s ds)
honest-settled rules p s [] h = tt
honest-settled rules p s (d ∷ ds) h = honest-choice rules p s d ds (asks_first p d) (asks_second p d) h (honest-settled rules p s ds h.1)

length-settled : (rules : Rules) (p : ℕ) (s : Settled) (d : Bisection) (ds : List Bisection) (x y : Bool) → length (settled_in rules p s ds) ≡ length ds →
    length (if x then settle_first rules.ruling s d ∷ ds else if y then settle_second rules.ruling s d ∷ ds else d ∷ settled_in rules p s ds) ≡ suc (length ds)
length-settled rules p s d ds true y e = refl
length-settled rules p s d ds false true e = refl
length-settled rules p s d ds false false e = ap suc e

same-length : (rules : Rules) (p : ℕ) (s : Settled) (ds : List Bisection) → length (settled_in rules p s ds) ≡ length ds
same-length rules p s [] = refl
same-length rules p s (d ∷ ds) = length-settled rules p s d ds (asks_first p d) (asks_second p d) (same-length rules p s ds)

set-length : (ss : List (Option Settled)) (k : ℕ) (o : Option Settled) → length (slice_set ss k o) ≡ length ss
set-length [] k o = refl
set-length (s ∷ ss) zero o = refl
set-length (s ∷ ss) (suc k) o = ap suc (set-length ss k o)

staged-settled : (rules : Rules) (p : ℕ) (s : Settled) (t : Record) → (t.disputes ≡ []) ⊎ IsStaged rules t →
    ((record t { disputes = settled_in rules p s t.disputes }).disputes ≡ []) ⊎ IsStaged rules (record t { disputes = settled_in rules p s t.disputes })
staged-settled rules p s t (inl none) = inl (rw none refl)
staged-settled rules p s t (inr g) = inr (record {
  past = g.past;
  now = settled_in rules p s g.now;
  parts = ap (settled_in rules p s) g.parts ∙ settled-past rules p s g.past g.now g.over;
  over = g.over;
  sides = sides-settled rules p s _ g.now g.sides;
  few = g.few;
  some = omega (arith, same-length rules p s g.now, g.some);
})

missing-there : (ss : List (Option Settled)) (k : ℕ) → claim_missing (slice_get ss k) ≡ true → all_there ss ≡ false
missing-there [] k e = absurd (cc)
missing-there (None ∷ ss) k e = refl
missing-there (Some s ∷ ss) zero e = absurd (cc)
missing-there (Some s ∷ ss) (suc k) e = missing-there ss k e

-- the claims come first
abbrev pub ClaimsFirst : Record → Type 0
ClaimsFirst t = all_there t.claims ≡ false → t.disputes ≡ []

pub record IsOrdered (rules : Rules) (t : Record) : Type 0 where
  pub counted : IsCounted rules t
  pub first : ClaimsFirst t

ordered-put : (rules : Rules) (p : ℕ) (s : Settled) (t : Record) (b : Bool) → claim_missing (slice_get t.claims (p - 1)) ≡ b → IsOrdered rules t →
    IsOrdered rules (if b then record t { claims = slice_set t.claims (p - 1) (Some s) } else record t { disputes = settled_in rules p s t.disputes })
ordered-put rules p s t true e o =
    let none : t.disputes ≡ [] = o.first (missing-there t.claims (p - 1) e) in
    record {
      counted = record { claims = set-length t.claims (p - 1) (Some s) ∙ o.counted.claims; honest = o.counted.honest; staged = inl none };
      first = λ _. none;
    }
ordered-put rules p s t false e o =
    record {
      counted = record { claims = o.counted.claims; honest = honest-settled rules p s t.disputes o.counted.honest; staged = staged-settled rules p s t o.counted.staged };
      first = λ (missing : all_there t.claims ≡ false). rw (o.first missing) refl;
    }

ordered-next : (rules : Rules) (t : Record) (ps : List Pair) → pairs rules t ≡ ps → all_there t.claims ≡ true → all_out t.disputes ≡ true → IsOrdered rules t →
    IsOrdered rules (record t { disputes = t.disputes ++ disputes_of rules (last_stage t.disputes + 1) (length t.disputes + 1) ps })
ordered-next rules t [] e there outs o = rw append-nil o
ordered-next rules t (q ∷ ps) e there outs o =
    record {
      counted = record {
        claims = o.counted.claims;
        honest = honest-both t.disputes _ o.counted.honest (honest-new rules (last_stage t.disputes + 1) (length t.disputes + 1) (q ∷ ps));
        staged = inr (staged-next rules t q ps e outs o.counted);
      };
      first = λ (missing : all_there t.claims ≡ false). cc;
    }

pub ordered-opened : (rules : Rules) (t : Record) → IsOrdered rules t → IsOrdered rules (stage_opened rules t)
ordered-opened rules t o =
    elim (cases_Bool (is_stage_due rules t)) [
      | inl due ↦
          let two : (all_there t.claims ≡ true) × (_ ≡ true) = and_parts (all_there t.claims) _ due in
          let outs : (all_out t.disputes ≡ true) × (_ ≡ true) = and_parts (all_out t.disputes) _ two.1 in
          rw (opened-due rules t due) (ordered-next rules t (pairs rules t) refl two.0 outs.0 o)
      | inr not_due ↦ rw (opened-not rules t not_due) o
    ]

pub ordered-settle : (rules : Rules) (p : ℕ) (s : Settled) (t : Record) → IsOrdered rules t → IsOrdered rules (settle rules p s t)
unfolding settle
ordered-settle rules p s t o = ordered-opened rules (put rules p s t) (ordered-put rules p s t (claim_missing (slice_get t.claims (p - 1))) refl o)

pub ordered-after : (rules : Rules) (es : List (ℕ × Settled)) (t : Record) → IsOrdered rules t → IsOrdered rules (after rules es t)
unfolding settle
ordered-after rules [] t o = o
ordered-after rules (e ∷ es) t o =
    ordered-after rules es (settle rules e.0 e.1 t)
    (ordered-opened rules (put rules e.0 e.1 t) (ordered-put rules e.0 e.1 t (claim_missing (slice_get t.claims (e.0 - 1))) refl o))

none-length : (n : ℕ) → let none : List (Option Settled) = replicate n None in length none ≡ n
none-length zero = refl
none-length (suc n) = ap suc (none-length n)

pub ordered-nothing : (rules : Rules) → IsOrdered rules (nothing_settled rules)
ordered-nothing rules = record { counted = record { claims = none-length rules.setup.provers; honest = tt; staged = inl refl }; first = λ _. refl }

pub few_disputes : (rules : Rules) (es : List (ℕ × Settled)) → 0 < rules.setup.provers → length (after rules es (nothing_settled rules)).disputes < rules.setup.provers
few_disputes rules es some =
    let o : IsOrdered rules (after rules es (nothing_settled rules)) = ordered-after rules es (nothing_settled rules) (ordered-nothing rules) in
    fewer rules (after rules es (nothing_settled rules)) some o.counted
