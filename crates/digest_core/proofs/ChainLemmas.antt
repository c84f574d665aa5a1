-- The chain of an output, from its last byte.
use Rattle.std.proofs.Common.{◌≡◌, ℕ, List, [], ◌∷◌, ◌++◌, length, replicate, refl}
use Rattle.digest_core.specs.Text.{link_text}
use Rattle.digest_core.specs.Chain.{chain_after, chain_of}

after-more : (digest : List ℕ → List ℕ) (chain output : List ℕ) (byte : ℕ) → chain_after digest chain (output ++ byte ∷ []) ≡ digest (link_text (chain_after digest chain output) byte)
unfolding chain_after
after-more digest chain [] byte = refl
after-more digest chain (x ∷ output) byte = after-more digest (digest (link_text chain x)) output byte

length-after : (digest : List ℕ → List ℕ) → ((bytes : List ℕ) → length (digest bytes) ≡ 32) → (chain output : List ℕ) → length chain ≡ 32 → length (chain_after digest chain output) ≡ 32
unfolding chain_after
length-after digest is_digest chain [] size = size
length-after digest is_digest chain (x ∷ output) size = length-after digest is_digest (digest (link_text chain x)) output (is_digest _)

pub chain_of_none : (digest : List ℕ → List ℕ) → chain_of digest [] ≡ replicate 32 0
unfolding chain_of chain_after
chain_of_none digest = refl

pub chain_of_more : (digest : List ℕ → List ℕ) (output : List ℕ) (byte : ℕ) → chain_of digest (output ++ byte ∷ []) ≡ digest (link_text (chain_of digest output) byte)
unfolding chain_of
chain_of_more digest output byte = after-more digest (replicate 32 0) output byte

pub length_chain_of : (digest : List ℕ → List ℕ) → ((bytes : List ℕ) → length (digest bytes) ≡ 32) → (output : List ℕ) → length (chain_of digest output) ≡ 32
unfolding chain_of
length_chain_of digest is_digest output = length-after digest is_digest (replicate 32 0) output refl
