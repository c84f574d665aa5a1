-- Zeros that are stored where every byte is 0 change nothing.
use Rattle.std.proofs.Common.{◌≡◌, ℕ, zero, suc, ◌+◌, ◌/◌, ◌%◌, ◌^◌, ◌<◌, ◌≤◌, None, cond, ltb, true, false, refl, sym, ap, ◌∙◌, ⊎_elim, arith}
use Rattle.std.specs.FinMap.{get}
use Rattle.std.proofs.lemmas.Bool.{cases_eq, eq-eqb, ne_eqb}
use Rattle.mem_plain.specs.Contents.{Contents, byte_at, with_byte, with_number, IsUsed}
use Rattle.mem_plain.specs.Memory.{IsMemory}
use Rattle.mem_plain.specs.Kept.{AreZeros}
use Rattle.mem_plain.proofs.ContentsLemmas.{kept, get-with_byte, get-tabulated, same_contents}

-- nothing is kept of a byte that is 0
none_kept : (m : Contents) (a : ℕ) → IsMemory m → byte_at m a ≡ 0 → get m a ≡ None
none_kept m a memory zero' =
    ap (λ n. get n a) (sym memory.whole)
    ∙ (get-tabulated (byte_at m) (2 ^ 32) a
    ∙ (ap (λ b. cond (ltb a (2 ^ 32)) (kept b) None) zero' ∙ elim (ltb a (2 ^ 32)) as (λ t. cond t (kept 0) None ≡ None) [ true ↦ refl | false ↦ refl ]))

zero_byte : (m : Contents) (a : ℕ) → IsMemory m → byte_at m a ≡ 0 → with_byte m a 0 ≡ m
zero_byte m a memory zero' = same_contents _ _ (λ q.
    get-with_byte m a 0 q ∙ ⊎_elim
    (λ same. rw (eq-eqb q a same) (sym (none_kept m a memory zero') ∙ ap (get m) (sym same)))
    (λ apart. rw (ne_eqb q a apart) refl)
    (cases_eq q a))

zeros_over : (m : Contents) (a width value : ℕ) → IsMemory m → ((k : ℕ) → a ≤ k → k < a + width → byte_at m k ≡ 0) → AreZeros width value → with_number m a width value ≡ m
zeros_over m a zero value memory zeros are = refl
zeros_over m a (suc width) value memory zeros are =
    ap (λ b. with_number (with_byte m a b) (a + 1) width (value / 256)) are.0
    ∙ (ap (λ n. with_number n (a + 1) width (value / 256)) (zero_byte m a memory (zeros a (omega arith) (omega arith)))
    ∙ zeros_over m (a + 1) width (value / 256) memory (λ k from below. zeros k (omega (arith, from)) (omega (arith, below))) are.1)

-- no byte of a page that isn't used is another than 0
pub unused_byte : (m : Contents) (page a : ℕ) → ¬ IsUsed m page → a / 4096 ≡ page → byte_at m a ≡ 0
unused_byte m page a none at = ⊎_elim (λ is. is) (λ other. absurd (none (a, at, other))) (cases_eq (byte_at m a) 0)

-- zeros that are stored in a page that isn't used
pub zeros_stored : (m : Contents) (a width value : ℕ) → IsMemory m → a % 4096 + width ≤ 4096 → ¬ IsUsed m (a / 4096) → AreZeros width value → with_number m a width value ≡ m
zeros_stored m a width value memory fits none are = zeros_over m a width value memory (λ k from below. unused_byte m (a / 4096) k none (omega (arith, from, below, fits))) are
