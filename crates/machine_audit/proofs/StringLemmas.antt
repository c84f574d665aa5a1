-- The strings that are digested, of parts that consist of bytes, are some that a text can state.
use Rattle.std.proofs.Common.{◌≡◌, ℕ, zero, suc, ◌+◌, ◌*◌, ◌<◌, ◌≤◌, List, [], ◌∷◌, ◌++◌, length, replicate, slice_index, refl, subst, arith, length-append, Contains}
use Rattle.std.specs.Int.{byte_at, bytes_low_first}
use Rattle.std.specs.List.{flat_map}
use Rattle.byteorder.specs.Endian.{little_bytes}
use Rattle.rd_base.specs.declared.status.Status.{Status}
use Rattle.rd_base.specs.declared.status.Status.TheVariants.{Running, Exited, Trapped}
use Rattle.digest_core.specs.Text.{leaf_text, node_text, registers_text, status_byte, status_code, control_text, state_text, link_text, register_text, storage_text}
use Rattle.transcript_text.specs.reader.InLimits.{IsString}

-- so many bytes
abbrev pub IsBlock : ℕ → List ℕ → Type 0
IsBlock n xs = (length xs ≡ n) × ((k : ℕ) → slice_index xs k < 256)

bytes-both : (xs ys : List ℕ) → ((k : ℕ) → slice_index xs k < 256) → ((k : ℕ) → slice_index ys k < 256) → (k : ℕ) → slice_index (xs ++ ys) k < 256
bytes-both [] ys first last k = last k
bytes-both (x ∷ xs) ys first last zero = first zero
bytes-both (x ∷ xs) ys first last (suc k) = bytes-both xs ys (λ j. first (suc j)) last k

block-both : (m n : ℕ) (xs ys : List ℕ) → IsBlock m xs → IsBlock n ys → IsBlock (m + n) (xs ++ ys)
block-both m n xs ys one other = (omega (arith, length-append xs ys, one.0, other.0), bytes-both xs ys one.1 other.1)

bytes-more : (b : ℕ) (xs : List ℕ) → b < 256 → ((k : ℕ) → slice_index xs k < 256) → (k : ℕ) → slice_index (b ∷ xs) k < 256
bytes-more b xs small rest zero = small
bytes-more b xs small rest (suc k) = rest k

block-more : (n b : ℕ) (xs : List ℕ) → b < 256 → IsBlock n xs → IsBlock (suc n) (b ∷ xs)
block-more n b xs small rest = (omega (arith, rest.0), bytes-more b xs small rest.1)

byte-small : (i n : ℕ) → byte_at i n < 256
byte-small zero n = omega arith
byte-small (suc i) n = omega arith

block-low : (i n x : ℕ) → IsBlock n (bytes_low_first i n x)
block-low i zero x = (refl, λ k. omega arith)
block-low i (suc n) x = block-more n (byte_at i x) (bytes_low_first (suc i) n x) (byte-small i x) (block-low (suc i) n x)

block-number : (n x : ℕ) → IsBlock n (little_bytes n x)
block-number n x = block-low 0 n x

block-words : (n : ℕ) (xs : List ℕ) → length xs ≡ n → IsBlock (4 * n) (flat_map (little_bytes 4) xs)
block-words n [] count = (omega (arith, count), λ k. omega arith)
block-words zero (x ∷ xs) count = absurd (omega (arith, count))
block-words (suc n) (x ∷ xs) count =
    let rest = block-words n xs (omega (arith, count)) in
    let all = block-both 4 (4 * n) (little_bytes 4 x) (flat_map (little_bytes 4) xs) (block-number 4 x) rest in
    (omega (arith, all.0), all.1)

pub block-zeros : (n : ℕ) → IsBlock n (replicate n 0)
block-zeros zero = (refl, λ k. omega arith)
block-zeros (suc n) = block-more n 0 (replicate n 0) (omega arith) (block-zeros n)

-- a string of some bytes, and no more than 129
string-of : (n : ℕ) (xs : List ℕ) → 0 < n → n ≤ 129 → IsBlock n xs → IsString xs
string-of n xs some few is = (omega (arith, is.0), omega (arith, is.0), is.1)

-- each kind of string

pub leaf-string : (chunk : List ℕ) → IsBlock 32 chunk → IsString (leaf_text chunk)
leaf-string chunk is = string-of 33 (leaf_text chunk) (omega arith) (omega arith) (block-more 32 0 chunk (omega arith) is)

pub node-string : (left right : List ℕ) → IsBlock 32 left → IsBlock 32 right → IsString (node_text left right)
node-string left right one other =
    string-of 65 (node_text left right) (omega arith) (omega arith) (block-more 64 1 (left ++ right) (omega arith) (block-both 32 32 left right one other))

pub registers-string : (xs : List ℕ) → length xs ≡ 32 → IsString (registers_text xs)
unfolding registers_text
registers-string xs count =
    string-of 129 (2 ∷ flat_map (little_bytes 4) xs) (omega arith) (omega arith) (block-more 128 2 (flat_map (little_bytes 4) xs) (omega arith) (block-words 32 xs count))

status-small : (status : Status) → status_byte status < 256
status-small Running = omega arith
status-small (Exited code) = omega arith
status-small (Trapped code) = omega arith

pub control-string : (pc : ℕ) (status : Status) (out_len : ℕ) (chain : List ℕ) → IsBlock 32 chain → IsString (control_text pc status out_len chain)
unfolding control_text
control-string pc status out_len chain is =
    let last : IsBlock 40 (little_bytes 8 out_len ++ chain) = block-both 8 32 (little_bytes 8 out_len) chain (block-number 8 out_len) is in
    let code : IsBlock 44 (little_bytes 4 (status_code status) ++ (little_bytes 8 out_len ++ chain)) =
    block-both 4 40 (little_bytes 4 (status_code status)) (little_bytes 8 out_len ++ chain) (block-number 4 (status_code status)) last in
    let of_status : IsBlock 45 (status_byte status ∷ (little_bytes 4 (status_code status) ++ (little_bytes 8 out_len ++ chain))) =
    block-more 44 (status_byte status) (little_bytes 4 (status_code status) ++ (little_bytes 8 out_len ++ chain)) (status-small status) code in
    let first : IsBlock 49 (little_bytes 4 pc ++ (status_byte status ∷ (little_bytes 4 (status_code status) ++ (little_bytes 8 out_len ++ chain)))) =
    block-both 4 45 (little_bytes 4 pc) (status_byte status ∷ (little_bytes 4 (status_code status) ++ (little_bytes 8 out_len ++ chain))) (block-number 4 pc) of_status in
    string-of 50 (3 ∷ (little_bytes 4 pc ++ (status_byte status ∷ (little_bytes 4 (status_code status) ++ (little_bytes 8 out_len ++ chain))))) (omega arith) (omega arith)
    (block-more 49 3 (little_bytes 4 pc ++ (status_byte status ∷ (little_bytes 4 (status_code status) ++ (little_bytes 8 out_len ++ chain)))) (omega arith) first)

pub state-string : (memory registers control : List ℕ) → IsBlock 32 memory → IsBlock 32 registers → IsBlock 32 control → IsString (state_text memory registers control)
state-string memory registers control first second third =
    let two : IsBlock 64 (memory ++ registers) = block-both 32 32 memory registers first second in
    string-of 97 (4 ∷ ((memory ++ registers) ++ control)) (omega arith) (omega arith) (block-more 96 4 ((memory ++ registers) ++ control) (omega arith) (block-both 64 32 (memory ++ registers) control two third))

pub link-string : (chain : List ℕ) (byte : ℕ) → IsBlock 32 chain → byte < 256 → IsString (link_text chain byte)
link-string chain byte is small =
    let last : IsBlock 1 (byte ∷ []) = block-more 0 byte [] small (refl, λ k. omega arith) in
    string-of 34 (5 ∷ (chain ++ byte ∷ [])) (omega arith) (omega arith) (block-more 33 5 (chain ++ byte ∷ []) (omega arith) (block-both 32 1 chain (byte ∷ []) is last))

pub register-string : (value : ℕ) → IsString (register_text value)
register-string value = string-of 5 (register_text value) (omega arith) (omega arith) (block-more 4 7 (little_bytes 4 value) (omega arith) (block-number 4 value))

pub storage-string : (memory : List ℕ) (input_len : ℕ) (input : List ℕ) → IsBlock 32 memory → IsBlock 32 input → IsString (storage_text memory input_len input)
storage-string memory input_len input first last =
    let two : IsBlock 36 (memory ++ little_bytes 4 input_len) = block-both 32 4 memory (little_bytes 4 input_len) first (block-number 4 input_len) in
    string-of 69 (8 ∷ ((memory ++ little_bytes 4 input_len) ++ input)) (omega arith) (omega arith)
    (block-more 68 8 ((memory ++ little_bytes 4 input_len) ++ input) (omega arith) (block-both 36 32 (memory ++ little_bytes 4 input_len) input two last))

-- lists of them

abbrev pub AreStrings : List (List ℕ) → Type 0
AreStrings [] = Unit {0}
AreStrings (x ∷ xs) = IsString x × AreStrings xs

pub strings-both : (xs ys : List (List ℕ)) → AreStrings xs → AreStrings ys → AreStrings (xs ++ ys)
strings-both [] ys one other = other
strings-both (x ∷ xs) ys one other = (one.0, strings-both xs ys one.1 other)

pub string-among : (xs : List (List ℕ)) (x : List ℕ) → AreStrings xs → Contains xs x → IsString x
string-among [] x all (k, below, is) = absurd (omega (arith, below))
string-among (y ∷ ys) x all (zero, below, is) = subst IsString is all.0
string-among (y ∷ ys) x all (suc k, below, is) = string-among ys x all.1 (k, omega (arith, below), is)
