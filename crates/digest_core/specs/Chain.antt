-- To believe: the chain, which commits to an output byte by byte.
use Rattle.std.specs.Prelude.{ℕ, List, [], ◌∷◌, replicate}
use Rattle.digest_core.specs.Text.{link_text}

-- the chain after more bytes: each byte makes one link
unfoldable pub chain_after : (List ℕ → List ℕ) → List ℕ → List ℕ → List ℕ
chain_after digest chain [] = chain
chain_after digest chain (byte ∷ bytes) = chain_after digest (digest (link_text chain byte)) bytes

-- the chain of an output: 32 zero bytes for no byte, and from there on a link for each
unfoldable pub chain_of : (List ℕ → List ℕ) → List ℕ → List ℕ
chain_of digest output = chain_after digest (replicate 32 0) output
