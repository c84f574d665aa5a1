-- Derived: strings have their lengths, and determine their parts. The laws in `laws` have the same as clauses.
use Rattle.std.proofs.Common.{◌≡◌, ℕ, suc, ◌*◌, ◌^◌, ◌<◌, List, [], ◌∷◌, ◌++◌, length, slice_index, refl, sym, ap, ◌∙◌, arith, length-append, append-nil}
use Rattle.std.specs.List.{flat_map}
use Rattle.byteorder.specs.Endian.{little_bytes, little_number}
use Rattle.byteorder.specs.Numbers.{little_number-reads_back, length-bytes_low_first}
use Rattle.rd_base.specs.declared.status.Status.{Status}
use Rattle.rd_base.specs.declared.status.Status.TheVariants.{Running, Exited, Trapped}
use Rattle.digest_core.specs.Text.{registers_text, status_byte, status_code, control_text, noise_text, register_text, storage_text}

-- a first element and the rest
pub cons_parts : (x y : ℕ) (xs ys : List ℕ) → x ∷ xs ≡ y ∷ ys → (x ≡ y) × (xs ≡ ys)
cons_parts x y xs ys same = (cc, cc)

-- a first part and the rest, if the first parts have one length
pub append_parts : (a b c d : List ℕ) → length a ≡ length b → a ++ c ≡ b ++ d → (a ≡ b) × (c ≡ d)
append_parts [] [] c d lengths same = (refl, same)
append_parts [] (y ∷ b) c d lengths same = absurd (omega arith)
append_parts (x ∷ a) [] c d lengths same = absurd (omega arith)
append_parts (x ∷ a) (y ∷ b) c d lengths same =
    let first = cons_parts x y (a ++ c) (b ++ d) same in
    let rest = append_parts a b c d (omega arith) first.1 in
    (cc, rest.1)

-- a number in this many bytes, and the rest
pub number_parts : (width x y : ℕ) (c d : List ℕ) → x < 256 ^ width → y < 256 ^ width → little_bytes width x ++ c ≡ little_bytes width y ++ d → (x ≡ y) × (c ≡ d)
number_parts width x y c d x_fits y_fits same =
    let number = sym (little_number-reads_back width x c x_fits) ∙ ap (little_number width) same ∙ little_number-reads_back width y d y_fits in
    let lengths = length-bytes_low_first 0 width x ∙ sym (length-bytes_low_first 0 width y) in
    (number, (append_parts (little_bytes width x) (little_bytes width y) c d lengths same).1)

-- numbers of four bytes, one after another
words-same : (xs ys : List ℕ) → ((r : ℕ) → slice_index xs r < 2 ^ 32) → ((r : ℕ) → slice_index ys r < 2 ^ 32) → flat_map (little_bytes 4) xs ≡ flat_map (little_bytes 4) ys → xs ≡ ys
words-same [] [] xs_fit ys_fit same = refl
words-same [] (y ∷ ys) xs_fit ys_fit same = cc
words-same (x ∷ xs) [] xs_fit ys_fit same = cc
words-same (x ∷ xs) (y ∷ ys) xs_fit ys_fit same =
    let first = number_parts 4 x y (flat_map (little_bytes 4) xs) (flat_map (little_bytes 4) ys) (xs_fit 0) (ys_fit 0) same in
    let rest = words-same xs ys (λ r. xs_fit (suc r)) (λ r. ys_fit (suc r)) first.1 in
    cc

length-words : (xs : List ℕ) → length (flat_map (little_bytes 4) xs) ≡ 4 * length xs
length-words [] = refl
length-words (x ∷ xs) = let rest = length-words xs in omega arith

pub length_registers_text : (xs : List ℕ) → length xs ≡ 32 → length (registers_text xs) ≡ 129
unfolding registers_text
length_registers_text xs count = omega (arith, length-words xs)

pub registers_text_same : (xs ys : List ℕ) → ((r : ℕ) → slice_index xs r < 2 ^ 32) → ((r : ℕ) → slice_index ys r < 2 ^ 32) → registers_text xs ≡ registers_text ys → xs ≡ ys
unfolding registers_text
registers_text_same xs ys xs_fit ys_fit same = words-same xs ys xs_fit ys_fit (cons_parts 2 2 _ _ same).1

status-same : (s t : Status) → status_byte s ≡ status_byte t → status_code s ≡ status_code t → s ≡ t
status-same Running Running byte code = refl
status-same Running (Exited e) byte code = absurd (omega arith)
status-same Running (Trapped e) byte code = absurd (omega arith)
status-same (Exited c) Running byte code = absurd (omega arith)
status-same (Exited c) (Exited e) byte code = ap Exited code
status-same (Exited c) (Trapped e) byte code = absurd (omega arith)
status-same (Trapped c) Running byte code = absurd (omega arith)
status-same (Trapped c) (Exited e) byte code = absurd (omega arith)
status-same (Trapped c) (Trapped e) byte code = ap Trapped code

pub length_control_text : (pc : ℕ) (status : Status) (out_len : ℕ) (chain : List ℕ) → length chain ≡ 32 → length (control_text pc status out_len chain) ≡ 50
unfolding control_text
length_control_text pc status out_len chain size = omega arith

pub control_text_same : (p q : ℕ) (s t : Status) (m n : ℕ) (c d : List ℕ) → p < 2 ^ 32 → q < 2 ^ 32 → status_code s < 2 ^ 32 → status_code t < 2 ^ 32 → m < 2 ^ 64 → n < 2 ^ 64
    → control_text p s m c ≡ control_text q t n d → (p ≡ q) × (s ≡ t) × (m ≡ n) × (c ≡ d)
unfolding control_text
control_text_same p q s t m n c d p_fits q_fits s_fits t_fits m_fits n_fits same =
    let pc = number_parts 4 p q _ _ p_fits q_fits (cons_parts 3 3 _ _ same).1 in
    let byte = cons_parts (status_byte s) (status_byte t) _ _ pc.1 in
    let code = number_parts 4 (status_code s) (status_code t) _ _ s_fits t_fits byte.1 in
    let out_len = number_parts 8 m n c d m_fits n_fits code.1 in
    (pc.0, status-same s t byte.0 code.0, out_len.0, out_len.1)

pub state_text_same : (m r c n s d : List ℕ) → length m ≡ length n → length r ≡ length s → (m ++ r) ++ c ≡ (n ++ s) ++ d → (m ≡ n) × (r ≡ s) × (c ≡ d)
state_text_same m r c n s d first second same =
    let both = append_parts (m ++ r) (n ++ s) c d (omega (arith, length-append m r, length-append n s)) same in
    let halves = append_parts m n r s first both.0 in
    (halves.0, halves.1, both.1)

pub noise_text_same : (p q m n r s : ℕ) → p < 2 ^ 32 → q < 2 ^ 32 → m < 2 ^ 32 → n < 2 ^ 32 → r < 2 ^ 32 → s < 2 ^ 32
    → noise_text p m r ≡ noise_text q n s → (p ≡ q) × (m ≡ n) × (r ≡ s)
noise_text_same p q m n r s p_fits q_fits m_fits n_fits r_fits s_fits same =
    let seed = number_parts 4 p q (little_bytes 4 m ++ little_bytes 4 r) (little_bytes 4 n ++ little_bytes 4 s) p_fits q_fits (cons_parts 6 6 _ _ same).1 in
    let dispute = number_parts 4 m n (little_bytes 4 r) (little_bytes 4 s) m_fits n_fits seed.1 in
    let round = number_parts 4 r s [] [] r_fits s_fits (append-nil (little_bytes 4 r) ∙ dispute.1 ∙ sym (append-nil (little_bytes 4 s))) in
    (seed.0, dispute.0, round.0)

pub register_text_same : (v w : ℕ) → v < 2 ^ 32 → w < 2 ^ 32 → register_text v ≡ register_text w → v ≡ w
register_text_same v w v_fits w_fits same = (number_parts 4 v w [] [] v_fits w_fits (ap (λ s. s ++ []) (cons_parts 7 7 _ _ same).1)).0

pub storage_text_same : (m n i j : List ℕ) (k l : ℕ) → length m ≡ length n → k < 2 ^ 32 → l < 2 ^ 32 → storage_text m k i ≡ storage_text n l j → (m ≡ n) × (k ≡ l) × (i ≡ j)
storage_text_same m n i j k l size k_fits l_fits same =
    let four = λ (q : ℕ). length-bytes_low_first 0 4 q in
    let k_four = four k in
    let l_four = four l in
    let outer = append_parts (m ++ little_bytes 4 k) (n ++ little_bytes 4 l) i j (omega (arith, length-append m (little_bytes 4 k), length-append n (little_bytes 4 l), k_four, l_four)) (cons_parts 8 8 _ _ same).1 in
    let inner = append_parts m n (little_bytes 4 k) (little_bytes 4 l) size outer.0 in
    let numbers = inner.1 in
    let rest = outer.1 in
    let both : little_bytes 4 k ++ i ≡ little_bytes 4 l ++ j = ap (λ b. b ++ i) numbers ∙ ap (λ r. little_bytes 4 l ++ r) rest in
    (inner.0, (number_parts 4 k l i j k_fits l_fits both).0, rest)
