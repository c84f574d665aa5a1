-- To believe: the strings that a claim opens, and what a collision of two claims is.
use Rattle.std.specs.Prelude.{◌≡◌, ◌≢◌, ℕ, List, [], ◌∷◌, replicate, Bool, ◌&&◌, not, Option, Some, None, Contains, bytes_eq, if◌then◌else◌}
use Rattle.rd_base.specs.declared.claim.Claim.{Claim}
use Rattle.digest_core.specs.Text.{link_text}
use Rattle.out_chain.specs.Root.{control_text_of, claim_text, root_of_claim}

-- the link strings of more bytes, after this chain
unfoldable pub links_after : (List ℕ → List ℕ) → List ℕ → List ℕ → List (List ℕ)
links_after digest chain [] = []
links_after digest chain (byte ∷ bytes) = link_text chain byte ∷ links_after digest (digest (link_text chain byte)) bytes

-- the link strings of an output, from its first byte on
unfoldable pub links_of : (List ℕ → List ℕ) → List ℕ → List (List ℕ)
links_of digest output = links_after digest (replicate 32 0) output

-- the strings that a claim opens: its state string, its control string and the link strings of its output
abbrev pub opened_by_claim : (List ℕ → List ℕ) → Claim → List (List ℕ)
opened_by_claim digest claim =
    claim_text digest claim ∷ control_text_of claim.ctl ∷ links_of digest claim.output

-- two strings differ and have one digest
abbrev pub collides : (List ℕ → List ℕ) → List ℕ → List ℕ → Bool
collides digest x y = not (bytes_eq x y) && bytes_eq (digest x) (digest y)

-- the first such two strings, each at the same place of its list
unfoldable pub first_collision : (List ℕ → List ℕ) → List (List ℕ) → List (List ℕ) → Option (List ℕ × List ℕ)
first_collision digest [] ys = None
first_collision digest (x ∷ xs) [] = None
first_collision digest (x ∷ xs) (y ∷ ys) = if collides digest x y then Some (x, y) else first_collision digest xs ys

-- the collision of two claims of one root: the first such two strings among those that they open
unfoldable pub claim_collision : (List ℕ → List ℕ) → Claim → Claim → Option (List ℕ × List ℕ)
claim_collision digest first second =
    if bytes_eq (root_of_claim digest first) (root_of_claim digest second)
    then first_collision digest (opened_by_claim digest first) (opened_by_claim digest second)
    else None

-- two different strings of one digest, the first opened by the first claim, the second by the second
pub record IsClaimCollision (digest : List ℕ → List ℕ) (first second : Claim) (pair : List ℕ × List ℕ) : Type 0 where
  pub differ : pair.0 ≢ pair.1
  pub one_digest : digest pair.0 ≡ digest pair.1
  pub first_opened : Contains (opened_by_claim digest first) pair.0
  pub second_opened : Contains (opened_by_claim digest second) pair.1

-- a link string of one output and a different link string of another one have one digest
pub record LinksSplit (digest : List ℕ → List ℕ) (output other : List ℕ) : Type 0 where
  pub first : List ℕ
  pub second : List ℕ
  pub of_first : Contains (links_of digest output) first
  pub of_second : Contains (links_of digest other) second
  pub differ : first ≢ second
  pub one_digest : digest first ≡ digest second
