-- The places of the nodes above others, and how many of these are kept.
use Rattle.std.proofs.Common.{◌≡◌, ◌≢◌, ◌⊎◌, inl, inr, ℕ, zero, suc, ◌+◌, ◌*◌, ◌/◌, ◌-◌, ◌<◌, ◌≤◌, List, [], ◌∷◌, ◌++◌, length, get_or, take, Bool, true, false, true≢false, cond, eqb, is_some, ◌||◌, refl, sym, ap, ◌∙◌, subst, arith, ⊎_elim, add-one}
use Rattle.std.proofs.lemmas.Bool.{cases_eq, cases_Bool, eq-eqb, ne_eqb}
use Rattle.std.proofs.lemmas.List.{take_more}
use Rattle.mem_plain.specs.Contents.{has_page}
use Rattle.mem_tree.specs.Tree.{Kept, upper_at}
use Rattle.mem_tree.specs.Costs.{ancestors, before_others, kept_above, kept_among, parents}
use Rattle.mem_tree.specs.Levels.{joined_among, others_before}
use Rattle.mem_tree.proofs.AmongLemmas.{among-head, among-tail, among-other}

-- a place is added before others and another one after them, in either order
either-order : (h k : ℕ) (ps : List ℕ) → before_others h (others_before ps k) ≡ others_before (before_others h ps) k
either-order h k [] = ⊎_elim
    (λ same. rw (eq-eqb h k same) (ap (λ (x : ℕ). x ∷ []) (sym same)))
    (λ apart. rw (ne_eqb h k apart) refl)
    (cases_eq h k)
either-order h k (p ∷ []) = by_tests (eqb h p) (eqb p k) refl refl
  where
    by_tests : (b c : Bool) → eqb h p ≡ b → eqb p k ≡ c → before_others h (others_before (p ∷ []) k) ≡ others_before (before_others h (p ∷ [])) k
    by_tests true true front back = rw (front, back, front) refl
    by_tests true false front back = rw (front, back, front) refl
    by_tests false true front back = rw (front, back, front) refl
    by_tests false false front back = rw (front, back, front) refl
either-order h k (p ∷ q ∷ ps) =
    elim (eqb h p) as (λ b. cond b (p ∷ others_before (q ∷ ps) k) (h ∷ p ∷ others_before (q ∷ ps) k) ≡ others_before (cond b (p ∷ q ∷ ps) (h ∷ p ∷ q ∷ ps)) k) [ true ↦ refl | false ↦ refl ]

parents-last : (xs : List ℕ) (x : ℕ) → parents (xs ++ x ∷ []) ≡ others_before (parents xs) (x / 2)
parents-last [] x = refl
parents-last (k ∷ xs) x = ap (before_others (k / 2)) (parents-last xs x) ∙ either-order (k / 2) (x / 2) (parents xs)

-- the parents of one place more
pub parents-more : (xs : List ℕ) (i d : ℕ) → i < length xs → parents (take (i + 1) xs) ≡ others_before (parents (take i xs)) (get_or xs i d / 2)
parents-more xs i d low = ap parents (take_more xs i d low) ∙ parents-last (take i xs) (get_or xs i d)

-- a place that is the last of others isn't added, and any other is
pub added-not : (xs : List ℕ) (k : ℕ) → 0 < length xs → get_or xs (length xs - 1) 0 ≡ k → others_before xs k ≡ xs
added-not [] k some last = absurd (omega arith)
added-not (x ∷ []) k some last = rw (eq-eqb x k last) refl
added-not (x ∷ y ∷ xs) k some last =
    let next : length (x ∷ y ∷ xs) - 1 ≡ suc (length (y ∷ xs) - 1) = omega arith in
    ap (λ ys. x ∷ ys) (added-not (y ∷ xs) k (omega arith) (sym (ap (λ i. get_or (x ∷ y ∷ xs) i 0) next) ∙ last))

pub added-new : (xs : List ℕ) (k : ℕ) → (length xs ≡ 0) ⊎ (get_or xs (length xs - 1) 0 ≢ k) → others_before xs k ≡ xs ++ k ∷ []
added-new [] k other = refl
added-new (x ∷ []) k other = rw (ne_eqb x k (⊎_elim (λ none. absurd (omega (arith, none))) (λ apart. apart) other)) refl
added-new (x ∷ y ∷ xs) k other =
    let next : length (x ∷ y ∷ xs) - 1 ≡ suc (length (y ∷ xs) - 1) = omega arith in
    ap (λ ys. x ∷ ys) (added-new (y ∷ xs) k (inr (⊎_elim (λ none. absurd (omega (arith, none))) (λ apart e. apart (ap (λ i. get_or (x ∷ y ∷ xs) i 0) next ∙ e)) other)))

head-or : (x : ℕ) (rest : List ℕ) (q : ℕ) → has_page (x ∷ rest) q ≡ true → (q ≡ x) ⊎ (has_page rest q ≡ true)
head-or x rest q is = ⊎_elim
    (λ same. inl same)
    (λ apart. ⊎_elim (λ held. inr held) (λ out. absurd (true≢false (sym is ∙ among-other x rest q apart out))) (cases_Bool (has_page rest q)))
    (cases_eq q x)

first-there : (h : ℕ) (ps : List ℕ) → has_page (before_others h ps) h ≡ true
first-there h [] = among-head h []
first-there h (p ∷ ps) = ⊎_elim
    (λ same. rw (eq-eqb h p same) (ap (has_page (p ∷ ps)) same ∙ among-head p ps))
    (λ apart. rw (ne_eqb h p apart) (among-head h (p ∷ ps)))
    (cases_eq h p)

others-there : (h : ℕ) (ps : List ℕ) (q : ℕ) → has_page ps q ≡ true → has_page (before_others h ps) q ≡ true
others-there h [] q is = absurd (true≢false (sym is))
others-there h (p ∷ ps) q is = elim (eqb h p) as (λ b. has_page (cond b (p ∷ ps) (h ∷ p ∷ ps)) q ≡ true) [ true ↦ is | false ↦ among-tail h (p ∷ ps) q is ]

no-more-there : (h : ℕ) (ps : List ℕ) (q : ℕ) → has_page (before_others h ps) q ≡ true → (q ≡ h) ⊎ (has_page ps q ≡ true)
no-more-there h [] q is = head-or h [] q is
no-more-there h (p ∷ ps) q is = by_test (eqb h p) is
  where
    by_test : (b : Bool) → has_page (cond b (p ∷ ps) (h ∷ p ∷ ps)) q ≡ true → (q ≡ h) ⊎ (has_page (p ∷ ps) q ≡ true)
    by_test true held = inr held
    by_test false held = head-or h (p ∷ ps) q held

before-few : (h : ℕ) (ps : List ℕ) → length (before_others h ps) ≤ length ps + 1
before-few h [] = omega arith
before-few h (p ∷ ps) = elim (eqb h p) as (λ b. length (cond b (p ∷ ps) (h ∷ p ∷ ps)) ≤ length (p ∷ ps) + 1) [ true ↦ omega arith | false ↦ omega arith ]

-- the parent of each place is among the parents, and each of these is the parent of some place
pub parents-above : (xs : List ℕ) (q : ℕ) → has_page xs q ≡ true → has_page (parents xs) (q / 2) ≡ true
parents-above [] q is = absurd (true≢false (sym is))
parents-above (x ∷ xs) q is = ⊎_elim
    (λ same. subst (λ p. has_page (parents (x ∷ xs)) (p / 2) ≡ true) (sym same) (first-there (x / 2) (parents xs)))
    (λ rest. others-there (x / 2) (parents xs) (q / 2) (parents-above xs q rest))
    (head-or x xs q is)

pub parents-below : (xs : List ℕ) (h : ℕ) → has_page (parents xs) h ≡ true → (q : ℕ) × (has_page xs q ≡ true) × (q / 2 ≡ h)
parents-below [] h is = absurd (true≢false (sym is))
parents-below (x ∷ xs) h is = ⊎_elim
    (λ same. (x, among-head x xs, sym same))
    (λ rest. let below = parents-below xs h rest in (below.0, among-tail x xs below.0 below.1, below.2))
    (no-more-there (x / 2) (parents xs) h is)

pub parents-few : (xs : List ℕ) → length (parents xs) ≤ length xs
parents-few [] = omega arith
parents-few (x ∷ xs) = let rest = parents-few xs in let one = before-few (x / 2) (parents xs) in omega (arith, rest, one)

pub ancestors-first : (pages : List ℕ) → ancestors 0 pages ≡ pages
unfolding ancestors
ancestors-first pages = refl

pub ancestors-next : (n : ℕ) (pages : List ℕ) → ancestors (n + 1) pages ≡ parents (ancestors n pages)
unfolding ancestors
ancestors-next n pages = rw add-one refl

-- one node more is joined
pub joined-last : (t : Kept) (n : ℕ) (xs : List ℕ) (k : ℕ)
    → joined_among t n (xs ++ k ∷ []) ≡ joined_among t n xs + cond (is_some (upper_at t n (2 * k)) || is_some (upper_at t n (2 * k + 1))) 1 0
joined-last t n [] k = omega arith
joined-last t n (x ∷ xs) k = let rest = joined-last t n xs k in omega (arith, rest)

-- the nodes that are kept among joined ones
pub kept-is-joined : (before after : Kept) (n : ℕ) (ks : List ℕ)
    → ((k : ℕ) → has_page ks k ≡ true → is_some (upper_at after (n + 1) k) ≡ (is_some (upper_at before n (2 * k)) || is_some (upper_at before n (2 * k + 1))))
    → joined_among before n ks ≡ kept_among after (n + 1) ks
kept-is-joined before after n [] all = refl
kept-is-joined before after n (k ∷ ks) all =
    let here = ap (λ (b : Bool). cond {A = ℕ} b 1 0) (all k (among-head k ks)) in
    let rest = kept-is-joined before after n ks (λ j is. all j (among-tail k ks j is)) in
    omega (arith, here, rest)

among-same : (before after : Kept) (n : ℕ) (ks : List ℕ) → ((k : ℕ) → upper_at after n k ≡ upper_at before n k) → kept_among after n ks ≡ kept_among before n ks
among-same before after n [] same = refl
among-same before after n (k ∷ ks) same =
    let here = ap (λ o. cond {A = ℕ} (is_some o) 1 0) (same k) in
    let rest = among-same before after n ks same in
    omega (arith, here, rest)

pub kept-first : (t : Kept) (pages : List ℕ) → kept_above t 0 pages ≡ 0
unfolding kept_above
kept-first t pages = refl

pub kept-next : (t : Kept) (n : ℕ) (pages : List ℕ) → kept_above t (n + 1) pages ≡ kept_above t n pages + kept_among t (n + 1) (ancestors (n + 1) pages)
unfolding kept_above
kept-next t n pages = rw add-one refl

-- what is written further up changes no count below
pub kept-same : (before after : Kept) (n : ℕ) (pages : List ℕ) → ((i k : ℕ) → i ≤ n → upper_at after i k ≡ upper_at before i k) → kept_above after n pages ≡ kept_above before n pages
unfolding kept_above
kept-same before after zero pages same = refl
kept-same before after (suc n) pages same =
    let below = kept-same before after n pages (λ i k low. same i k (omega (arith, low))) in
    let here = among-same before after (suc n) (ancestors (suc n) pages) (λ k. same (suc n) k (omega arith)) in
    omega (arith, below, here)

-- a step for a node that is made, and none else
pub one-more : (made some : Bool) (start end : ℕ) → made ≡ some → (made ≡ true → end ≡ start + 1) → (made ≡ false → end ≡ start) → end ≡ start + cond some 1 0
one-more true some start end is one none = let e = one refl in let t = ap (λ (b : Bool). cond {A = ℕ} b 1 0) is in omega (arith, e, t)
one-more false some start end is one none = let e = none refl in let t = ap (λ (b : Bool). cond {A = ℕ} b 1 0) is in omega (arith, e, t)
