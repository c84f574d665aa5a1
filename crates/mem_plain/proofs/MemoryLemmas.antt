-- Contents that are made of a function, and the memories among contents.
use Rattle.std.proofs.Common.{◌≡◌, ◌≢◌, ℕ, zero, suc, ◌+◌, ◌-◌, ◌/◌, ◌%◌, ◌^◌, ◌<◌, ◌≤◌, List, [], ◌∷◌, length, replicate, slice_index, cond, eqb, refl, sym, ap, subst, ◌∙◌, ⊎_elim, arith}
use Rattle.std.proofs.lemmas.Bool.{cases_eq, cases_lt, eq-eqb, ne_eqb}
use Rattle.std.proofs.lemmas.Bool.Decides.{nat_tests}
use Rattle.std.proofs.lemmas.List.{get_or_past, get_or-replicate, length-replicate}
use Rattle.mem_plain.specs.Contents.{Contents, no_bytes, byte_at, with_byte, with_number, laid, is_among, tabulated, contents_with}
use Rattle.mem_plain.specs.Memory.{IsMemory}
use Rattle.mem_plain.proofs.ContentsLemmas.{tabulated_written, tabulated_alike, tabulated_nothing, byte_at-tabulated, byte_at-tabulated_beyond}

-- the bytes of f, but from a on these
abbrev pub over : (ℕ → ℕ) → ℕ → List ℕ → ℕ → ℕ
over f a bytes q = cond (is_among a (length bytes) q) (slice_index bytes (q - a)) (f q)

-- the bytes of f, but at a this one
abbrev pub with_one : (ℕ → ℕ) → ℕ → ℕ → ℕ → ℕ
with_one f a b q = cond (eqb q a) b (f q)

one_written : (f : ℕ → ℕ) (n a b : ℕ) → a < n → with_byte (tabulated f n) a b ≡ tabulated (with_one f a b) n
one_written f n a b below = sym (tabulated_written f (with_one f a b) n a b below (rw (eq-eqb a a refl) refl) (λ q apart. rw (ne_eqb q a apart) refl))

one_over : (f : ℕ → ℕ) (a b q : ℕ) (bytes : List ℕ) → over (with_one f a b) (a + 1) bytes q ≡ over f a (b ∷ bytes) q
one_over f a b q bytes = ⊎_elim here (λ apart. ⊎_elim (before apart) (beyond apart) (cases_lt q a)) (cases_eq q a)
  where
    here : q ≡ a → over (with_one f a b) (a + 1) bytes q ≡ over f a (b ∷ bytes) q
    here same = let none : q - a ≡ 0 = omega arith in rw none (grind (arith, nat_tests))

    beyond : q ≢ a → a ≤ q → over (with_one f a b) (a + 1) bytes q ≡ over f a (b ∷ bytes) q
    beyond apart above = let next : q - a ≡ suc (q - (a + 1)) = omega arith in rw next (grind (arith, nat_tests))

    before : q ≢ a → q < a → over (with_one f a b) (a + 1) bytes q ≡ over f a (b ∷ bytes) q
    before apart below = grind (arith, nat_tests)

pub laid_over : (f : ℕ → ℕ) (n a : ℕ) (bytes : List ℕ) → a + length bytes ≤ n → laid (tabulated f n) a bytes ≡ tabulated (over f a bytes) n
laid_over f n a [] fits = tabulated_alike f (over f a []) n (λ q below. nothing_over q)
  where
    nothing_over : (q : ℕ) → f q ≡ over f a [] q
    nothing_over q = grind (arith, nat_tests)
laid_over f n a (b ∷ bytes) fits =
    ap (λ m. laid m (a + 1) bytes) (one_written f n a b (omega arith))
    ∙ (laid_over (with_one f a b) n (a + 1) bytes (omega arith) ∙ tabulated_alike _ _ n (λ q _. one_over f a b q bytes))

pub nothing_made : (f : ℕ → ℕ) → ((q : ℕ) → q < 2 ^ 32 → f q ≡ 0) → contents_with f ≡ no_bytes
nothing_made f zeros = tabulated_alike f (λ _. 0) (2 ^ 32) zeros ∙ tabulated_nothing (λ _. 0) (2 ^ 32) (λ _. refl)

pub same_memory : (m n : Contents) → IsMemory m → IsMemory n → ((q : ℕ) → q < 2 ^ 32 → byte_at m q ≡ byte_at n q) → m ≡ n
same_memory m n memory other same = sym memory.whole ∙ (tabulated_alike _ _ (2 ^ 32) same ∙ other.whole)

pub made_memory : (f : ℕ → ℕ) → ((q : ℕ) → q < 2 ^ 32 → f q < 256) → IsMemory (contents_with f)
made_memory f fit = record {
  bytes = λ a. ⊎_elim (λ below. rw (byte_at-tabulated f (2 ^ 32) a below) (fit a below)) (λ beyond. rw (byte_at-tabulated_beyond f (2 ^ 32) a beyond) (omega arith)) (cases_lt a (2 ^ 32));
  whole = tabulated_alike _ _ (2 ^ 32) (λ q below. byte_at-tabulated f (2 ^ 32) q below);
}

with_byte-memory : (m : Contents) (a b : ℕ) → IsMemory m → a < 2 ^ 32 → b < 256 → IsMemory (with_byte m a b)
with_byte-memory m a b memory below byte =
    subst IsMemory (sym (ap (λ m. with_byte m a b) (sym memory.whole) ∙ one_written (byte_at m) (2 ^ 32) a b below)) (made_memory (with_one (byte_at m) a b) fit)
  where
    fit : (q : ℕ) → q < 2 ^ 32 → with_one (byte_at m) a b q < 256
    fit q _ = ⊎_elim (λ same. rw (eq-eqb q a same) byte) (λ apart. rw (ne_eqb q a apart) (memory.bytes q)) (cases_eq q a)

pub stored_memory : (m : Contents) (a width value : ℕ) → IsMemory m → a + width ≤ 2 ^ 32 → IsMemory (with_number m a width value)
stored_memory m a zero value memory fits = memory
stored_memory m a (suc width) value memory fits =
    stored_memory (with_byte m a (value % 256)) (a + 1) width (value / 256) (with_byte-memory m a (value % 256) memory (omega arith) (omega arith)) (omega arith)

-- every place of these bytes holds a byte
abbrev pub Fit : List ℕ → Type 0
Fit bytes = (at : ℕ) → slice_index bytes at < 256

fits_alike : {n m : ℕ} → n ≡ m → m < 256 → n < 256
fits_alike same fits = omega (arith, same, fits)

pub zeros_fit : (n : ℕ) → Fit (replicate n 0)
zeros_fit n at = ⊎_elim
    (λ below. fits_alike (get_or-replicate {A = ℕ} n at 0 0 below) (omega arith))
    (λ beyond. fits_alike (get_or_past {X = ℕ} (replicate n 0) at 0 (omega (arith, length-replicate {A = ℕ} n 0))) (omega arith))
    (cases_lt at n)
