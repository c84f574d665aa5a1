-- The words of a flat file have its bytes, and zeros behind them.
use Rattle.std.proofs.Common.{◌≡◌, ℕ, zero, suc, ◌+◌, ◌-◌, ◌*◌, ◌%◌, ◌^◌, ◌<◌, ◌≤◌, Bool, true, false, List, [], ◌∷◌, ◌++◌, length, map, get_or, slice_index, Result, Ok, Err, refl, sym, ap, ◌∙◌, ⊎_elim, arith}
use Rattle.std.proofs.lemmas.Bool.{cases_lt, lt-ltb, le-ltb, ltb-false}
use Rattle.std.proofs.lemmas.Bool.Decides.{nat_tests}
use Rattle.std.proofs.lemmas.List.{get_or_past}
use Rattle.std.proofs.lemmas.Nat.{le_bytes_4}
use Rattle.std.specs.Prelude.{nat_lt, if◌then◌else◌}
use Rattle.std.specs.List.{range_with_len, AllByRecursion}
use Rattle.std.specs.Int.{w32, to_le_bytes, div_ceil}
use Rattle.rd_base.specs.Results.{map_fault}
use Rattle.mem_plain.specs.Contents.{Contents, no_bytes, laid, is_among, contents_with}
use Rattle.image_reader.specs.Image.{Image, flat_at, too_large}
use Rattle.image_reader.specs.declared.fault.ImageFault.{ImageFault}
use Rattle.image_reader.specs.declared.fault.ImageFault.TheVariants.{ImageTooLarge}
use Rattle.rv_text.specs.Listing.{listing}
use Rattle.rv_text.specs.Assembly.{assembled}
use Rattle.transcript_text.specs.reader.InLimits.{AreBytes}
use Rattle.delegate.specs.AsmImage.{bytes_of, asm_words, asm_at}
use Rattle.delegate.specs.commands.List.{word_in_file, words_in_file}
use Rattle.delegate.specs.declared.loading.AsmImageFault.TheVariants as fault

-- the four bytes of a word of a file
abbrev quad : List ℕ → ℕ → List ℕ
quad file place = slice_index file place ∷ slice_index file (place + 1) ∷ slice_index file (place + 2) ∷ slice_index file (place + 3) ∷ []

quad-bytes : (file : List ℕ) → AreBytes file → (place i : ℕ) → get_or (quad file place) i 0 < 256
quad-bytes file bytes place zero = bytes place
quad-bytes file bytes place (suc zero) = bytes (place + 1)
quad-bytes file bytes place (suc (suc zero)) = bytes (place + 2)
quad-bytes file bytes place (suc (suc (suc zero))) = bytes (place + 3)
quad-bytes file bytes place (suc (suc (suc (suc i)))) = omega arith

word-bytes : (file : List ℕ) → AreBytes file → (place : ℕ) → to_le_bytes w32 (word_in_file file place) ≡ quad file place
word-bytes file bytes place = le_bytes_4 (quad file place) (word_in_file file place) refl (quad-bytes file bytes place) refl

word-small : (file : List ℕ) → AreBytes file → (place : ℕ) → word_in_file file place < 2 ^ 32
word-small file bytes place = omega (arith, bytes place, bytes (place + 1), bytes (place + 2), bytes (place + 3))

abbrev some_words : List ℕ → ℕ → ℕ → List ℕ
some_words file start n = map (λ k. word_in_file file (4 * k)) (range_with_len start n)

words-small : (file : List ℕ) → AreBytes file → (start n : ℕ) → AllByRecursion (λ w. w < 2 ^ 32) (some_words file start n)
words-small file bytes start zero = tt
words-small file bytes start (suc n) = (word-small file bytes (4 * start), words-small file bytes (start + 1) n)

bytes-cons : (file : List ℕ) → AreBytes file → (start n : ℕ) → bytes_of (some_words file start (suc n)) ≡ quad file (4 * start) ++ bytes_of (some_words file (start + 1) n)
bytes-cons file bytes start n = ap (λ b. b ++ bytes_of (map (λ k. word_in_file file (4 * k)) (range_with_len (start + 1) n))) (word-bytes file bytes (4 * start))

bytes-length : (file : List ℕ) → AreBytes file → (start n : ℕ) → length (bytes_of (some_words file start n)) ≡ 4 * n
bytes-length file bytes start zero = refl
bytes-length file bytes start (suc n) = let rest = bytes-length file bytes (start + 1) n in ap length (bytes-cons file bytes start n) ∙ omega arith

at-place : (file : List ℕ) (a b : ℕ) → a ≡ b → slice_index file a ≡ slice_index file b
at-place file a b e = ap (slice_index file) e

quad-at : (file : List ℕ) (start n : ℕ) (more : List ℕ) → ((j : ℕ) → j < 4 * n → slice_index more j ≡ slice_index file (4 * (start + 1) + j)) → (i : ℕ) → i < 4 * suc n
    → slice_index (quad file (4 * start) ++ more) i ≡ slice_index file (4 * start + i)
quad-at file start n more rest zero within = at-place file (4 * start) (4 * start + 0) (omega arith)
quad-at file start n more rest (suc zero) within = refl
quad-at file start n more rest (suc (suc zero)) within = refl
quad-at file start n more rest (suc (suc (suc zero))) within = refl
quad-at file start n more rest (suc (suc (suc (suc i)))) within = rest i (omega arith) ∙ at-place file (4 * (start + 1) + i) (4 * start + suc (suc (suc (suc i)))) (omega arith)

bytes-at : (file : List ℕ) → AreBytes file → (start n i : ℕ) → i < 4 * n → slice_index (bytes_of (some_words file start n)) i ≡ slice_index file (4 * start + i)
bytes-at file bytes start zero i within = absurd (omega arith)
bytes-at file bytes start (suc n) i within =
    ap (λ b. slice_index b i) (bytes-cons file bytes start n) ∙ quad-at file start n (bytes_of (some_words file (start + 1) n)) (λ j below. bytes-at file bytes (start + 1) n j below) i within

-- the bytes of the words of a file are those of the file, at each place
bytes-same : (file : List ℕ) → AreBytes file → (i : ℕ) → slice_index (bytes_of (words_in_file file)) i ≡ slice_index file i
bytes-same file bytes i =
    let n = div_ceil (length file) 4 in
    ⊎_elim
    (λ within. bytes-at file bytes 0 n i within ∙ at-place file (4 * 0 + i) i (omega arith))
    (λ past. get_or_past (bytes_of (words_in_file file)) i 0 (omega (arith, bytes-length file bytes 0 n)) ∙ sym (get_or_past file i 0 (omega arith)))
    (cases_lt i (4 * n))

-- laws of lower crates, as their functions state them
abbrev pub Alike : Type 0
Alike = (f g : ℕ → ℕ) → ((q : ℕ) → q < 2 ^ 32 → f q ≡ g q) → contents_with f ≡ contents_with g

abbrev pub Nothing : Type 0
Nothing = (f : ℕ → ℕ) → ((q : ℕ) → q < 2 ^ 32 → f q ≡ 0) → contents_with f ≡ no_bytes

abbrev pub Laid : Type 0
Laid = (f : ℕ → ℕ) (a : ℕ) (bytes : List ℕ) → a + length bytes ≤ 2 ^ 32 → laid (contents_with f) a bytes ≡ contents_with (λ q. if is_among a (length bytes) q then slice_index bytes (q - a) else f q)

abbrev pub ReadBack : Type 0
ReadBack = (words : List ℕ) → AllByRecursion (λ w. w < 2 ^ 32) words → assembled (listing words) ≡ Ok words

-- a byte behind an address, and 0 before it
among-same : (a q : ℕ) (xs : List ℕ) → (if is_among a (length xs) q then slice_index xs (q - a) else 0) ≡ (if nat_lt q a then 0 else slice_index xs (q - a))
among-same a q xs = ⊎_elim
    (λ below. rw (lt-ltb q a below) (grind (arith, nat_tests)))
    (λ from. ⊎_elim
    (λ within. grind (arith, nat_tests))
    (λ past. let none = get_or_past xs (q - a) 0 past in grind (arith, nat_tests, none))
    (cases_lt (q - a) (length xs)))
    (cases_lt q a)

memory-same : Alike → Nothing → Laid → (a : ℕ) (xs ys : List ℕ) → a + length xs ≤ 2 ^ 32 → a + length ys ≤ 2 ^ 32 → ((i : ℕ) → slice_index xs i ≡ slice_index ys i) → laid no_bytes a xs ≡ laid no_bytes a ys
memory-same alike nothing over a xs ys p q same =
    let empty : contents_with (λ k. 0) ≡ no_bytes = nothing (λ k. 0) (λ k below. refl) in
    ap (λ m. laid m a xs) (sym empty) ∙ over (λ k. 0) a xs p
    ∙ alike _ _ (λ k below. among-same a k xs ∙ ap (λ (x : ℕ). if nat_lt k a then 0 else x) (same (k - a)) ∙ sym (among-same a k ys))
    ∙ sym (over (λ k. 0) a ys q) ∙ ap (λ m. laid m a ys) empty

-- a flat file's image, by whether the file is too large
abbrev image_by : Bool → Contents → Result Image ImageFault
image_by large m = if large then Err ImageTooLarge else Ok (record { memory = m; entry = 0x10000 })

same-image : (a b : Contents) (t u : Bool) → t ≡ u → (t ≡ false → a ≡ b) → image_by t a ≡ image_by u b
same-image a b true u e same = ap (λ t. image_by t b) e
same-image a b false u e same = ap (image_by false) (same refl) ∙ ap (λ t. image_by t b) e

large-same : (m n : ℕ) → n ≤ m → m ≤ n + 3 → m % 4 ≡ 0 → nat_lt 4194304 m ≡ nat_lt 4194304 n
large-same m n low high whole = ⊎_elim
    (λ large. lt-ltb 4194304 m (omega arith) ∙ sym (lt-ltb 4194304 n large))
    (λ fits. le-ltb 4194304 m (omega arith) ∙ sym (le-ltb 4194304 n fits))
    (cases_lt 4194304 n)

small-length : (n : ℕ) → nat_lt 4194304 n ≡ false → 65536 + n ≤ 2 ^ 32
small-length n small = omega (arith, ltb-false _ _ small)

flat-same : Alike → Nothing → Laid → (file : List ℕ) → AreBytes file → flat_at (bytes_of (words_in_file file)) ≡ flat_at file
unfolding flat_at
flat-same alike nothing over file bytes =
    let long = bytes-length file bytes 0 (div_ceil (length file) 4) in
    let whole : length (bytes_of (words_in_file file)) % 4 ≡ 0 = omega (arith, long) in
    let large : too_large (bytes_of (words_in_file file)) ≡ too_large file = large-same (length (bytes_of (words_in_file file))) (length file) (omega (arith, long)) (omega (arith, long)) whole in
    same-image (laid no_bytes 0x10000 (bytes_of (words_in_file file))) (laid no_bytes 0x10000 file) (too_large (bytes_of (words_in_file file))) (too_large file) large
    (λ small. memory-same alike nothing over 0x10000 (bytes_of (words_in_file file)) file (small-length _ small) (small-length _ (sym large ∙ small)) (bytes-same file bytes))

pub listed-alike : ReadBack → Alike → Nothing → Laid → (file : List ℕ) → AreBytes file → length (listing (words_in_file file)) ≤ 16777216 → asm_at (listing (words_in_file file)) ≡ map_fault fault.Image (flat_at file)
unfolding asm_at asm_words
listed-alike back alike nothing over file bytes short =
    rw (le-ltb 16777216 (length (listing (words_in_file file))) short, back (words_in_file file) (words-small file bytes 0 (div_ceil (length file) 4)))
    (ap (map_fault fault.Image) (flat-same alike nothing over file bytes))
