-- A tree behind a memory.
use Rattle.std.proofs.Common.{◌≡◌, ◌⊎◌, ℕ, ◌/◌, List, ◌∷◌, [], get_or, Option, None, false, sym, subst, ◌∙◌, ⊎_elim}
use Rattle.mem_plain.specs.Contents.{Contents, byte_at, has_page}
use Rattle.mem_tree.specs.Tree.{SameBut}
use Rattle.checkpoint_run.specs.NamedPages.{IsNamed}

-- a memory that is changed in the pages named alone is the tree's but for the touched pages, once both were touched
pub same_more : (pages : List (Option ℕ)) (before between after : List ℕ) (old m n : Contents)
    → ((p : ℕ) → IsNamed p pages → IsNamed p (get_or pages 0 None ∷ []) ⊎ IsNamed p (get_or pages 1 None ∷ []))
    → ((p : ℕ) → has_page between p ≡ false → IsNamed p (get_or pages 0 None ∷ []) → ⊥) → ((p : ℕ) → has_page between p ≡ false → has_page before p ≡ false)
    → ((p : ℕ) → has_page after p ≡ false → IsNamed p (get_or pages 1 None ∷ []) → ⊥) → ((p : ℕ) → has_page after p ≡ false → has_page between p ≡ false)
    → ((q : ℕ) → ¬ IsNamed (q / 4096) pages → byte_at n q ≡ byte_at m q) → SameBut before old m → SameBut after old n
same_more pages before between after old m n either named-1 others-1 named-2 others-2 elsewhere same p none a at =
    let none-1 = others-2 p none in
    same p (others-1 p none-1) a at
    ∙ sym (elsewhere a (λ named. ⊎_elim (named-1 p none-1) (named-2 p none) (either p (subst (λ q. IsNamed q pages) at named))))
