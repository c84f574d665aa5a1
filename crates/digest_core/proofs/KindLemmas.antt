-- The kind of a string by its length.
use Rattle.std.proofs.Common.{◌≡◌, ℕ, List, [], ◌∷◌, ◌++◌, length, refl, sym, ap, ◌∙◌, arith, length-append}
use Rattle.std.specs.Prelude.{◌==◌, if◌then◌else◌}
use Rattle.byteorder.specs.Endian.{little_bytes}
use Rattle.byteorder.specs.Numbers.{length-bytes_low_first}
use Rattle.digest_core.specs.TextLaws.{length_registers_text, length_control_text}
use Rattle.digest_core.specs.Kinds.{Kind, IsOfKind, size_of}
use Rattle.digest_core.specs.Kinds.Kind.{leaf, node, registers, control, state, link, noise, register, storage}

pub size-of_kind : (k : Kind) (s : List ℕ) → IsOfKind k s → length s ≡ size_of k
size-of_kind leaf s (chunk, size, is) = ap length is ∙ omega arith
size-of_kind node s (l, r, l_size, r_size, is) = ap length is ∙ omega (arith, length-append l r)
size-of_kind registers s (xs, size, is) = ap length is ∙ length_registers_text xs size
size-of_kind control s (pc, status, out_len, chain, size, is) = ap length is ∙ length_control_text pc status out_len chain size
size-of_kind state s (m, r, c, m_size, r_size, c_size, is) = ap length is ∙ omega (arith, length-append (m ++ r) c, length-append m r)
size-of_kind link s (chain, byte, size, is) = ap length is ∙ omega (arith, length-append chain (byte ∷ []))
size-of_kind noise s (seed, dispute, round, is) =
    ap length is ∙ omega (
      arith,
      length-append (little_bytes 4 seed ++ little_bytes 4 dispute) (little_bytes 4 round),
      length-append (little_bytes 4 seed) (little_bytes 4 dispute),
      length-bytes_low_first 0 4 seed,
      length-bytes_low_first 0 4 dispute,
      length-bytes_low_first 0 4 round,
    )
size-of_kind register s (value, is) = ap length is ∙ omega (arith, length-bytes_low_first 0 4 value)
size-of_kind storage s (m, len, i, m_size, i_size, is) =
    ap length is ∙ omega (arith, length-append (m ++ little_bytes 4 len) i, length-append m (little_bytes 4 len), length-bytes_low_first 0 4 len)

-- the kind that a length names
kind-of_size : ℕ → Kind
kind-of_size n =
    if n == 33 then leaf
    else if n == 65 then node
    else if n == 129 then registers
    else if n == 50 then control
    else if n == 97 then state
    else if n == 34 then link
    else if n == 13 then noise
    else if n == 5 then register
    else storage

back : (k : Kind) → kind-of_size (size_of k) ≡ k
unfolding kind-of_size
back leaf = refl
back node = refl
back registers = refl
back control = refl
back state = refl
back link = refl
back noise = refl
back register = refl
back storage = refl

pub same-size : (k l : Kind) → size_of k ≡ size_of l → k ≡ l
same-size k l same = sym (back k) ∙ (ap kind-of_size same ∙ back l)

pub same-kind : (k l : Kind) (s : List ℕ) → IsOfKind k s → IsOfKind l s → k ≡ l
same-kind k l s first second = same-size k l (sym (size-of_kind k s first) ∙ size-of_kind l s second)
