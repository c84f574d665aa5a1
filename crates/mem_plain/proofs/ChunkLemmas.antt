-- Numbers that are read and written in a chunk of memory.
use Rattle.std.proofs.Common.{◌≡◌, ◌≢◌, ℕ, zero, suc, ◌+◌, ◌*◌, ◌/◌, ◌%◌, ◌<◌, ◌≤◌, List, length, map, get_or, set, cond, refl, sym, ap, ◌∙◌, subst, arith, ⊎_elim, add_assoc, get_or-set_same, get_or-set_other}
use Rattle.std.specs.List.{range_with_len}
use Rattle.std.proofs.Math.ListN.{length-set}
use Rattle.std.proofs.lemmas.Bool.{cases_eq, eq-eqb, ne_eqb}
use Rattle.std.proofs.lemmas.List.{ext_get_or}
use Rattle.std.proofs.lemmas.List.FromFn.{get_or-map-range_with_len, length-map-range_with_len}
use Rattle.mem_plain.specs.Contents.{Contents, chunk_at, byte_at, with_byte, number_at, with_number}
use Rattle.mem_plain.specs.Page.{number_in, with_number_in}
use Rattle.mem_plain.proofs.ContentsLemmas.{byte_at-with_byte}

-- the first n values of f
abbrev listed : (ℕ → ℕ) → ℕ → List ℕ
listed f n = map f (range_with_len 0 n)

listed-at : (f : ℕ → ℕ) (n i : ℕ) → i < n → get_or (listed f n) i 0 ≡ f i
listed-at f n i below = get_or-map-range_with_len f 0 n i i 0 below (omega arith)

listed-same : (f g : ℕ → ℕ) (n : ℕ) → ((i : ℕ) → i < n → f i ≡ g i) → listed f n ≡ listed g n
listed-same f g n same = ext_get_or 0 (listed f n) (listed g n) (length-map-range_with_len f 0 n ∙ sym (length-map-range_with_len g 0 n)) (λ i below.
    let low : i < n = subst (λ k. i < k) (length-map-range_with_len f 0 n) below in
    listed-at f n i low ∙ (same i low ∙ sym (listed-at g n i low)))

-- one place of a list is written
listed-set : (f g : ℕ → ℕ) (n place b : ℕ) → place < n → g place ≡ b → ((i : ℕ) → i ≢ place → g i ≡ f i) → set (listed f n) place b ≡ listed g n
listed-set f g n place b within here elsewhere = ext_get_or 0 (set (listed f n) place b) (listed g n) (length-set (listed f n) place b ∙ (length-map-range_with_len f 0 n ∙ sym (length-map-range_with_len g 0 n))) (λ i below.
    let low : i < n = subst (λ k. i < k) (length-set (listed f n) place b ∙ length-map-range_with_len f 0 n) below in
    let fits : place < length (listed f n) = subst (λ k. place < k) (sym (length-map-range_with_len f 0 n)) within in
    ⊎_elim
    (λ same. ap (λ j. get_or (set (listed f n) place b) j 0) same ∙ (get_or-set_same (listed f n) place b 0 fits ∙ (sym here ∙ (ap g (sym same) ∙ sym (listed-at g n i low)))))
    (λ apart. get_or-set_other (listed f n) place i b 0 (λ e. apart (omega arith)) ∙ (listed-at f n i low ∙ (sym (elsewhere i apart) ∙ sym (listed-at g n i low))))
    (cases_eq i place))

module _ (m : Contents) (k place b : ℕ) (within : place < 32) where
  chunk-set : set (chunk_at m k) place b ≡ chunk_at (with_byte m (32 * k + place) b) k
  chunk-set = listed-set (λ i. byte_at m (32 * k + i)) (λ i. byte_at (with_byte m (32 * k + place) b) (32 * k + i)) 32 place b within
      (byte_at-with_byte m (32 * k + place) b (32 * k + place) ∙ ap (λ t. cond t b (byte_at m (32 * k + place))) (eq-eqb (32 * k + place) (32 * k + place) refl))
      (λ i apart. byte_at-with_byte m (32 * k + place) b (32 * k + i) ∙ ap (λ t. cond t b (byte_at m (32 * k + i))) (ne_eqb (32 * k + i) (32 * k + place) (λ e. apart (omega arith))))

  chunk-kept : (j : ℕ) → j ≢ k → chunk_at (with_byte m (32 * k + place) b) j ≡ chunk_at m j
  chunk-kept j apart = listed-same (λ i. byte_at (with_byte m (32 * k + place) b) (32 * j + i)) (λ i. byte_at m (32 * j + i)) 32
      (λ i below. byte_at-with_byte m (32 * k + place) b (32 * j + i) ∙ ap (λ t. cond t b (byte_at m (32 * j + i))) (ne_eqb (32 * j + i) (32 * k + place) (λ e. apart (omega arith))))

-- a number that is read in a chunk is that of memory
pub chunk-number : (m : Contents) (k place width : ℕ) → place + width ≤ 32 → number_in (chunk_at m k) place width ≡ number_at m (32 * k + place) width
chunk-number m k place zero fits = refl
chunk-number m k place (suc width) fits =
    ap (λ b. b + 256 * number_in (chunk_at m k) (place + 1) width) (listed-at (λ i. byte_at m (32 * k + i)) 32 place (omega arith))
    ∙ ap (λ n. byte_at m (32 * k + place) + 256 * n) (chunk-number m k (place + 1) width (omega arith) ∙ ap (λ a. number_at m a width) (sym (add_assoc (32 * k) place 1)))

-- a number that is written in a chunk changes that chunk of memory
pub chunk-stored : (m : Contents) (k place width value : ℕ) → place + width ≤ 32 → with_number_in (chunk_at m k) place width value ≡ chunk_at (with_number m (32 * k + place) width value) k
chunk-stored m k place zero value fits = refl
chunk-stored m k place (suc width) value fits =
    ap (λ bytes. with_number_in bytes (place + 1) width (value / 256)) (chunk-set m k place (value % 256) (omega arith))
    ∙ (chunk-stored (with_byte m (32 * k + place) (value % 256)) k (place + 1) width (value / 256) (omega arith)
    ∙ ap (λ a. chunk_at (with_number (with_byte m (32 * k + place) (value % 256)) a width (value / 256)) k) (sym (add_assoc (32 * k) place 1)))

-- and no other
pub chunk-elsewhere : (m : Contents) (k place width value j : ℕ) → place + width ≤ 32 → j ≢ k → chunk_at (with_number m (32 * k + place) width value) j ≡ chunk_at m j
chunk-elsewhere m k place zero value j fits apart = refl
chunk-elsewhere m k place (suc width) value j fits apart =
    ap (λ a. chunk_at (with_number (with_byte m (32 * k + place) (value % 256)) a width (value / 256)) j) (add_assoc (32 * k) place 1)
    ∙ (chunk-elsewhere (with_byte m (32 * k + place) (value % 256)) k (place + 1) width (value / 256) j (omega arith) apart
    ∙ chunk-kept m k place (value % 256) (omega arith) j apart)
