-- Bytes that memory has, and keeps where what is stored or laid is apart from them.
use Rattle.std.proofs.Common.{◌≡◌, ◌⊎◌, ⊎_elim, ℕ, zero, suc, ◌+◌, ◌-◌, ◌/◌, ◌%◌, ◌^◌, ◌<◌, ◌≤◌, List, length, slice_index, cond, true, false, refl, sym, ap, ◌∙◌, arith}
use Rattle.std.specs.Prelude.{if◌then◌else◌}
use Rattle.std.proofs.lemmas.Bool.Decides.{nat_tests}
use Rattle.mem_plain.specs.Contents.{Contents, byte_at, number_at, with_number, laid, is_among}
use Rattle.mem_plain.specs.Page.{number_in}
use Rattle.rv_step.specs.ArithmeticLaws.{IsLoadedBack}
use Rattle.guests.specs.Guest.{HasBytes}

-- the laws of what is laid and stored, as `mem_plain` states them
abbrev pub LaidLaw : Type 0
LaidLaw = (m : Contents) (a : ℕ) (bytes : List ℕ) (q : ℕ) → byte_at (laid m a bytes) q ≡ (if is_among a (length bytes) q then slice_index bytes (q - a) else byte_at m q)

abbrev pub StoredLaw : Type 0
StoredLaw = (m : Contents) (a width value q : ℕ) → byte_at (with_number m a width value) q ≡ (if is_among a width q then value / 256 ^ (q - a) % 256 else byte_at m q)

-- and what is stored is loaded, as `rv_step` states it
abbrev pub BackLaw : Type 0
BackLaw = (m : Contents) (addr width value : ℕ) → IsLoadedBack m addr width value

pub record MemoryLaws : Type 0 where
  pub laid : LaidLaw
  pub stored : StoredLaw
  pub loaded_back : BackLaw

-- two stretches of memory have no address in common
abbrev pub Apart : ℕ → ℕ → ℕ → ℕ → Type 0
Apart a width b size = (a + width ≤ b) ⊎ (b + size ≤ a)

outside : (a width b size i : ℕ) → Apart a width b size → i < size → is_among a width (b + i) ≡ false
outside a width b size i apart below = ⊎_elim (λ before. grind (arith, nat_tests)) (λ behind. grind (arith, nat_tests)) apart

inside : (a width i : ℕ) → i < width → is_among a width (a + i) ≡ true
inside a width i below = grind (arith, nat_tests)

-- a number that is stored apart from a byte leaves it
pub stored-leaves : StoredLaw → (m : Contents) (a width value b size i : ℕ) → Apart a width b size → i < size → byte_at (with_number m a width value) (b + i) ≡ byte_at m (b + i)
stored-leaves law m a width value b size i apart below =
    law m a width value (b + i) ∙ ap (λ t. cond t (value / 256 ^ (b + i - a) % 256) (byte_at m (b + i))) (outside a width b size i apart below)

pub laid-leaves : LaidLaw → (m : Contents) (a : ℕ) (bytes : List ℕ) (b size i : ℕ) → Apart a (length bytes) b size → i < size → byte_at (laid m a bytes) (b + i) ≡ byte_at m (b + i)
laid-leaves law m a bytes b size i apart below =
    law m a bytes (b + i) ∙ ap (λ t. cond t (slice_index bytes (b + i - a)) (byte_at m (b + i))) (outside a (length bytes) b size i apart below)

-- so bytes stay, behind a store or bytes laid apart from them
pub stored-keeps : StoredLaw → (m : Contents) (a width value base : ℕ) (bytes : List ℕ) → Apart a width base (length bytes) → HasBytes m base bytes → HasBytes (with_number m a width value) base bytes
stored-keeps law m a width value base bytes apart has i below = stored-leaves law m a width value base (length bytes) i apart below ∙ has i below

pub laid-keeps : LaidLaw → (m : Contents) (a : ℕ) (laying : List ℕ) (base : ℕ) (bytes : List ℕ) → Apart a (length laying) base (length bytes) → HasBytes m base bytes → HasBytes (laid m a laying) base bytes
laid-keeps law m a laying base bytes apart has i below = laid-leaves law m a laying base (length bytes) i apart below ∙ has i below

-- bytes that are laid are there
pub laid-there : LaidLaw → (m : Contents) (a : ℕ) (bytes : List ℕ) → HasBytes (laid m a bytes) a bytes
laid-there law m a bytes i below =
    let place : a + i - a ≡ i = omega arith in
    law m a bytes (a + i) ∙ (ap (λ t. cond t (slice_index bytes (a + i - a)) (byte_at m (a + i))) (inside a (length bytes) i below) ∙ ap (slice_index bytes) place)

-- a number in memory is that of its bytes
pub number-there : (m : Contents) (base : ℕ) (bytes : List ℕ) (i width : ℕ) → HasBytes m base bytes → i + width ≤ length bytes → number_at m (base + i) width ≡ number_in bytes i width
number-there m base bytes i zero has within = refl
number-there m base bytes i (suc width) has within =
    let next : base + i + 1 ≡ base + (i + 1) = omega arith in
    let first = has i (omega arith) in
    let rest = ap (λ a. number_at m a width) next ∙ number-there m base bytes (i + 1) width has (omega arith) in
    rw (first, rest) refl

pub number-same : (m n : Contents) (a width : ℕ) → ((i : ℕ) → i < width → byte_at m (a + i) ≡ byte_at n (a + i)) → number_at m a width ≡ number_at n a width
number-same m n a zero same = refl
number-same m n a (suc width) same =
    let here : a + 0 ≡ a = omega arith in
    let first : byte_at m a ≡ byte_at n a = sym (ap (byte_at m) here) ∙ (same 0 (omega arith) ∙ ap (byte_at n) here) in
    let rest : number_at m (a + 1) width ≡ number_at n (a + 1) width = number-same m n (a + 1) width (λ i below.
    let shift : a + 1 + i ≡ a + suc i = omega arith in
    ap (byte_at m) shift ∙ (same (suc i) (omega arith) ∙ ap (byte_at n) (sym shift))) in
    rw (first, rest) refl
