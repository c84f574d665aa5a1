-- How many nodes of a heap are made anew.
use Rattle.std.proofs.Common.{◌≡◌, ℕ, zero, suc, ◌+◌, ◌*◌, ◌-◌, ◌/◌, ◌%◌, ◌^◌, ◌<◌, ◌≤◌, Bool, true, false, ◌||◌, cond, refl, sym, ap, ◌∙◌, subst, arith, ⊎_elim}
use Rattle.std.proofs.Math.Nat.{pow-suc}
use Rattle.std.proofs.lemmas.Bool.{cases_eq, or_right}
use Rattle.std.proofs.lemmas.Nat.{pow_pos}
use Rattle.merkle_nodes.specs.Renewals.{how_many, is_changed, renewals_up_to, renewals}
use Rattle.merkle_nodes.proofs.HeapLemmas.{pow-up}

abbrev one : Bool → ℕ
one b = cond b 1 0

pub many-same : (f h : ℕ → Bool) (n : ℕ) → ((k : ℕ) → k < n → f k ≡ h k) → how_many f n ≡ how_many h n
unfolding how_many
many-same f h zero same = refl
many-same f h (suc n) same = ap (λ x. x + one (f n)) (many-same f h n (λ k low. same k (omega arith))) ∙ ap (λ b. how_many h n + one b) (same n (omega arith))

-- those of the first numbers, and those of the rest
pub many-both : (f : ℕ → Bool) (x y : ℕ) → how_many f (x + y) ≡ how_many f x + how_many (λ k. f (x + k)) y
unfolding how_many
many-both f x zero = let none : x + 0 ≡ x = omega arith in ap (how_many f) none ∙ omega arith
many-both f x (suc y) =
    let next : x + suc y ≡ suc (x + y) = omega arith in
    let rest = many-both f x y in
    ap (how_many f) next ∙ omega arith

-- the first one, and those of the rest
pub many-first : (f : ℕ → Bool) (n : ℕ) → how_many f (suc n) ≡ one (f 0) + how_many (λ k. f (1 + k)) n
unfolding how_many
many-first f n = let next : suc n ≡ 1 + n = omega arith in ap (how_many f) next ∙ (many-both f 1 n ∙ omega arith)

pub many-most : (f : ℕ → Bool) (n : ℕ) → how_many f n ≤ n
unfolding how_many
many-most f zero = omega arith
many-most f (suc n) = let rest = many-most f n in let most = at-most (f n) in omega arith
  where
    at-most : (b : Bool) → one b ≤ 1
    at-most true = omega arith
    at-most false = omega arith

pub many-some : (f : ℕ → Bool) (n k : ℕ) → k < n → f k ≡ true → 0 < how_many f n
unfolding how_many
many-some f zero k low is = absurd (omega arith)
many-some f (suc n) k low is = ⊎_elim
    (λ same. let here : one (f n) ≡ 1 = ap one (ap f (sym same) ∙ is) in omega arith)
    (λ apart. let rest = many-some f n k (omega arith) is in omega arith)
    (cases_eq k n)

one-or : (a b : Bool) → one (a || b) ≤ one a + one b
one-or true b = omega arith
one-or false b = omega arith

-- each changed node stands above a changed one
pub many-above : (f : ℕ → Bool) (w : ℕ) → how_many (λ k. f (2 * k) || f (2 * k + 1)) w ≤ how_many f (2 * w)
unfolding how_many
many-above f zero = omega arith
many-above f (suc w) =
    let next : 2 * suc w ≡ suc (suc (2 * w)) = omega arith in
    let rest = many-above f w in
    let both = one-or (f (2 * w)) (f (2 * w + 1)) in
    let second : one (f (suc (2 * w))) ≡ one (f (2 * w + 1)) = ap (λ k. one (f k)) (omega arith) in
    let whole : how_many f (2 * suc w) ≡ how_many f (suc (suc (2 * w))) = ap (how_many f) next in
    omega arith

module _ (changed : ℕ → Bool) where
  changed-above : (l k : ℕ) → is_changed changed (suc l) k ≡ (is_changed changed l (2 * k) || is_changed changed l (2 * k + 1))
  unfolding is_changed
  changed-above l k = refl

  changed-lowest : (k : ℕ) → is_changed changed 0 k ≡ changed k
  unfolding is_changed
  changed-lowest k = refl

  level-few : (n l m : ℕ) → m + l ≡ n → how_many (is_changed changed l) (2 ^ m) ≤ how_many changed (2 ^ n)
  level-few n zero m whole =
      let same : m ≡ n = omega arith in
      let e : how_many (is_changed changed 0) (2 ^ m) ≡ how_many changed (2 ^ n) = many-same (is_changed changed 0) changed (2 ^ m) (λ k low. changed-lowest k) ∙ ap (λ i. how_many changed (2 ^ i)) same in
      omega arith
  level-few n (suc l) m whole =
      let below = level-few n l (suc m) (omega arith) in
      let above = many-above (is_changed changed l) (2 ^ m) in
      let same = many-same (is_changed changed (suc l)) (λ k. is_changed changed l (2 * k) || is_changed changed l (2 * k + 1)) (2 ^ m) (λ k low. changed-above l k) in
      let width : 2 ^ suc m ≡ 2 * 2 ^ m = pow-suc 2 m ∙ omega arith in
      let wide = ap (how_many (is_changed changed l)) width in
      omega arith

  few-up-to : (n l : ℕ) → l ≤ n → renewals_up_to changed n l ≤ (l + 1) * how_many changed (2 ^ n)
  unfolding renewals_up_to
  few-up-to n zero low = omega arith
  few-up-to n (suc l) low =
      let rest = few-up-to n l (omega arith) in
      let level = level-few n (suc l) (n - suc l) (omega arith) in
      let more : (suc l + 1) * how_many changed (2 ^ n) ≡ (l + 1) * how_many changed (2 ^ n) + how_many changed (2 ^ n) = ap (λ i. i * how_many changed (2 ^ n)) (shift l) ∙ times (l + 1) (how_many changed (2 ^ n)) in
      omega arith
    where
      times : (a b : ℕ) → (suc a) * b ≡ a * b + b
      times a b = omega arith

      shift : (l : ℕ) → suc l + 1 ≡ suc (l + 1)
      shift l = omega arith

  most-up-to : (n l m : ℕ) → m + l ≡ n → renewals_up_to changed n l + 2 ^ m ≤ 2 ^ (n + 1)
  unfolding renewals_up_to
  most-up-to n zero m whole =
      let same : m ≡ n = omega arith in
      let wide : 2 ^ m ≡ 2 ^ n = ap (λ i. 2 ^ i) same in
      let up : 2 ^ (n + 1) ≡ 2 ^ n * 2 = ap (λ i. 2 ^ i) next ∙ pow-suc 2 n in
      let most = many-most changed (2 ^ n) in
      omega arith
    where
      next : n + 1 ≡ suc n
      next = omega arith
  most-up-to n (suc l) m whole =
      let rest = most-up-to n l (suc m) (omega arith) in
      let here : n - suc l ≡ m = omega arith in
      let level : how_many (is_changed changed (suc l)) (2 ^ (n - suc l)) ≤ 2 ^ (n - suc l) = many-most (is_changed changed (suc l)) (2 ^ (n - suc l)) in
      let wide : 2 ^ (n - suc l) ≡ 2 ^ m = ap (λ i. 2 ^ i) here in
      let up = pow-suc 2 m in
      omega arith

  pub few : (n : ℕ) → renewals changed n ≤ (n + 1) * how_many changed (2 ^ n)
  few n = few-up-to n n (omega arith)

  pub most : (n : ℕ) → renewals changed n < 2 ^ (n + 1)
  most n = let whole = most-up-to n n 0 (omega arith) in let unit : 2 ^ 0 ≡ 1 = refl in omega arith

  -- what is changed below makes the root changed
  up-changed : (l m k : ℕ) → k < 2 ^ (m + l) → changed k ≡ true → (q : ℕ) × (q < 2 ^ m) × (is_changed changed l q ≡ true)
  up-changed zero m k low is = let none : m + 0 ≡ m = omega arith in (k, subst (λ i. k < 2 ^ i) none low, changed-lowest k ∙ is)
  up-changed (suc l) m k low is =
      let next : m + suc l ≡ suc m + l = omega arith in
      let below = up-changed l (suc m) k (subst (λ i. k < 2 ^ i) next low) is in
      let q = below.0 in
      let up = pow-suc 2 m in
      (q / 2, omega (arith, below.1), changed-above l (q / 2) ∙ half q (is_changed changed l) below.2)
    where
      half : (q : ℕ) (f : ℕ → Bool) → f q ≡ true → (f (2 * (q / 2)) || f (2 * (q / 2) + 1)) ≡ true
      half q f is = ⊎_elim
          (λ even. let left : 2 * (q / 2) ≡ q = omega arith in rw (ap f left, is) refl)
          (λ odd. let right : 2 * (q / 2) + 1 ≡ q = omega arith in or_right (f (2 * (q / 2))) (f (2 * (q / 2) + 1)) (ap f right ∙ is))
          (cases_eq (q % 2) 0)

  pub root-changed : (n k : ℕ) → k < 2 ^ n → changed k ≡ true → is_changed changed n 0 ≡ true
  root-changed n k low is =
      let whole : n ≡ 0 + n = omega arith in
      let found = up-changed n 0 k (subst (λ i. k < 2 ^ i) whole low) is in
      let first : found.0 ≡ 0 = omega (arith, found.1) in
      subst (λ q. is_changed changed n q ≡ true) first found.2

  pub some-changed : (n : ℕ) → is_changed changed n 0 ≡ true → 0 < how_many changed (2 ^ n)
  some-changed n is = let level = level-few n n 0 (omega arith) in let some = many-some (is_changed changed n) 1 0 (omega arith) is in omega arith

-- the marks of a heap
module _ (marked changed : ℕ → Bool) (n : ℕ) (leaves : (k : ℕ) → k < 2 ^ n → marked (2 ^ n + k) ≡ changed k)
    (above : (i : ℕ) → 1 ≤ i → i < 2 ^ n → marked i ≡ (marked (2 * i) || marked (2 * i + 1))) where
  marked-node : (l m k : ℕ) → m + l ≡ n → k < 2 ^ m → marked (2 ^ m + k) ≡ is_changed changed l k
  marked-node zero m k whole low =
      let same : m ≡ n = omega arith in
      let width : 2 ^ m ≡ 2 ^ n = ap (λ i. 2 ^ i) same in
      ap (λ w. marked (w + k)) width ∙ (leaves k (omega arith) ∙ sym (changed-lowest changed k))
  marked-node (suc l) m k whole low =
      let up = pow-suc 2 m in
      let fits = pow-up m n (omega arith) in
      let some = pow_pos m in
      let left : 2 * (2 ^ m + k) ≡ 2 ^ suc m + 2 * k = omega arith in
      let right : 2 * (2 ^ m + k) + 1 ≡ 2 ^ suc m + (2 * k + 1) = omega arith in
      above (2 ^ m + k) (omega arith) (omega arith)
      ∙ (ap (λ x. x || marked (2 * (2 ^ m + k) + 1)) (ap marked left ∙ marked-node l (suc m) (2 * k) (omega arith) (omega arith))
      ∙ (ap (λ y. is_changed changed l (2 * k) || y) (ap marked right ∙ marked-node l (suc m) (2 * k + 1) (omega arith) (omega arith))
      ∙ sym (changed-above changed l k)))

  pub root-marked : marked 1 ≡ is_changed changed n 0
  root-marked = marked-node n 0 0 (omega arith) (omega arith)

  -- those from 2 ^ m on are the changed ones up to level l
  many-from : (l m d : ℕ) → m + l ≡ n → 2 ^ m + d ≡ 2 ^ n → how_many (λ k. marked (2 ^ n + k)) (2 ^ n) + how_many (λ k. marked (2 ^ m + k)) d ≡ renewals_up_to changed n l
  unfolding renewals_up_to how_many
  many-from zero m d whole span =
      let same : m ≡ n = omega arith in
      let width : 2 ^ m ≡ 2 ^ n = ap (λ i. 2 ^ i) same in
      let none : d ≡ 0 = omega arith in
      let rest : how_many (λ k. marked (2 ^ m + k)) d ≡ 0 = ap (how_many (λ k. marked (2 ^ m + k))) none in
      let lowest = many-same (λ k. marked (2 ^ n + k)) changed (2 ^ n) leaves in
      omega arith
  many-from (suc l) m d whole span =
      let up = pow-suc 2 m in
      let fits = pow-up m n (omega arith) in
      let split : d ≡ 2 ^ m + (d - 2 ^ m) = omega arith in
      let rest = many-from l (suc m) (d - 2 ^ m) (omega arith) (omega arith) in
      let parts = ap (how_many (λ k. marked (2 ^ m + k))) split ∙ many-both (λ k. marked (2 ^ m + k)) (2 ^ m) (d - 2 ^ m) in
      let behind = many-same (λ k. marked (2 ^ m + (2 ^ m + k))) (λ k. marked (2 ^ suc m + k)) (d - 2 ^ m) (λ k low. let at : 2 ^ m + (2 ^ m + k) ≡ 2 ^ suc m + k = omega arith in ap marked at) in
      let here : n - suc l ≡ m = omega arith in
      let level = many-same (λ k. marked (2 ^ m + k)) (is_changed changed (suc l)) (2 ^ m) (λ k low. marked-node (suc l) m k whole low) ∙ ap (λ i. how_many (is_changed changed (suc l)) (2 ^ i)) (sym here) in
      omega arith

  pub many-marked : how_many (λ k. marked (2 ^ n + k)) (2 ^ n) + how_many (λ k. marked (1 + k)) (2 ^ n - 1) ≡ renewals changed n
  many-marked = many-from n 0 (2 ^ n - 1) (omega arith) (let some = pow_pos n in omega arith)
