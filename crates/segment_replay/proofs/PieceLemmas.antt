-- Pieces of a list, put together again.
use Rattle.std.proofs.Common.{◌≡◌, ◌⊎◌, ℕ, zero, suc, ◌+◌, ◌*◌, ◌/◌, ◌%◌, ◌<◌, ◌≤◌, min, List, [], ◌∷◌, ◌++◌, length, slice_index_or, take, drop, map, inl, inr, refl, sym, ap, ◌∙◌, ⊎_elim, arith}
use Rattle.std.proofs.lemmas.List.{take-map}
use Rattle.std.proofs.Math.Nat.{div-add-mod, mul_comm, mod-lt, add-mul, lt_of_mul-lt-mul_right, mul-le-mul_right}
use Rattle.std.proofs.lemmas.Grind.{div_ceil_times}
use Rattle.std.proofs.Math.Seq.{take-add}
use Rattle.std.specs.Fork.{slice_chunk}

map_drop : {X Y : Type 0} (f : X → Y) (n : ℕ) (xs : List X) → map f (drop n xs) ≡ drop n (map f xs)
map_drop f zero xs = refl
map_drop f (suc n) [] = refl
map_drop f (suc n) (x ∷ xs) = map_drop f n xs

pub map_chunk : {X Y : Type 0} (f : X → Y) (xs : List X) (size n : ℕ) → map f (slice_chunk xs size n) ≡ slice_chunk (map f xs) size n
map_chunk f xs size n = sym (take-map f size (drop (n * size) xs)) ∙ ap (take size) (map_drop f (n * size) xs)

-- one chunk more
pub chunk_more : {X : Type 0} (xs : List X) (size n : ℕ) → take (n * size) xs ++ slice_chunk xs size n ≡ take ((n + 1) * size) xs
chunk_more xs size n = sym (take-add (n * size) size xs) ∙ ap (λ k. take k xs) (sym (more n size))
  where
    more : (n size : ℕ) → (n + 1) * size ≡ n * size + size
    more n size = add-mul n 1 size ∙ ap (λ k. n * size + k) (omega arith)

-- so many chunks are the whole
pub whole_chunks : (len size : ℕ) → 0 < size → len ≤ (len / size + min 1 (len % size)) * size
whole_chunks len size some =
    let whole = div-add-mod len size in
    let turned = mul_comm size (len / size) in
    let less = mod-lt len some in
    let split = add-mul (len / size) (min 1 (len % size)) size in
    ⊎_elim
    (λ (none : len % size ≡ 0). omega arith)
    (λ (one : min 1 (len % size) ≡ 1). let here : min 1 (len % size) * size ≡ size = ap (λ k. k * size) one ∙ omega arith in omega arith)
    (either (len % size))
  where
    either : (r : ℕ) → (r ≡ 0) ⊎ (min 1 r ≡ 1)
    either zero = inl refl
    either (suc r) = inr (omega arith)

-- where so many pieces of a size have room for a list, it is cut into no more of them
pub few_pieces : (len size many : ℕ) → 0 < size → len ≤ size * many → len / size + min 1 (len % size) ≤ many
few_pieces len size many some room =
    let times = (div_ceil_times len size some).1 in
    let turned = mul_comm size many in
    let split = add-mul many 1 size in
    let less : len / size + min 1 (len % size) < many + 1 = lt_of_mul-lt-mul_right size (omega arith) in
    omega arith

-- what holds of each element by its place, of a part of it
pub of_each : {T R : Type 0} (part : T → R) (P : ℕ → R → Type 0) (xs : List T) → ((n : ℕ) (x : T) → n < length xs → P n (part (slice_index_or xs n x)))
    → (n : ℕ) (d : R) → n < length (map part xs) → P n (slice_index_or (map part xs) n d)
of_each part P [] each n d below = absurd (omega arith)
of_each part P (x ∷ xs) each zero d below = each 0 x (omega arith)
of_each part P (x ∷ xs) each (suc n) d below = of_each part (λ k. P (suc k)) xs (λ k y low. each (suc k) y (omega arith)) n d (omega arith)

-- and of the part of an element
pub place_of_map : {T R : Type 0} (part : T → R) (P : ℕ → R → Type 0) (xs : List T) → ((n : ℕ) (d : R) → n < length (map part xs) → P n (slice_index_or (map part xs) n d))
    → (n : ℕ) (x : T) → n < length xs → P n (part (slice_index_or xs n x))
place_of_map part P [] each n x below = absurd (omega arith)
place_of_map part P (y ∷ xs) each zero x below = each 0 (part y) (omega arith)
place_of_map part P (y ∷ xs) each (suc n) x below = place_of_map part (λ k. P (suc k)) xs (λ k d low. each (suc k) d (omega arith)) n x (omega arith)

-- a slice that was lent stands where it was
pub written_back : {T : Type 0} (n : ℕ) (new rest : List T) → n ≡ length new → take n (new ++ rest) ≡ new
written_back zero [] rest same = refl
written_back zero (x ∷ xs) rest same = absurd (omega arith)
written_back (suc n) [] rest same = absurd (omega arith)
written_back (suc n) (x ∷ xs) rest same = ap (λ ys. x ∷ ys) (written_back n xs rest (omega arith))

-- some pieces, of something
pub some_pieces : (len size : ℕ) → 0 < size → 0 < len → 0 < len / size + min 1 (len % size)
some_pieces len size some any = positive (len / size + min 1 (len % size)) (whole_chunks len size some)
  where
    positive : (n : ℕ) → len ≤ n * size → 0 < n
    positive zero room = absurd (omega arith)
    positive (suc n) room = omega arith

-- as many workers as pieces have room for all
pub enough_workers : (len size many : ℕ) → 0 < size → len / size + min 1 (len % size) ≤ many → len ≤ many * size
enough_workers len size many some few =
    let whole = whole_chunks len size some in
    let more = mul-le-mul_right size few in
    omega arith
