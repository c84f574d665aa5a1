-- The slots of a proof's ways.
use Rattle.std.proofs.Common.{◌≡◌, ◌⊎◌, inl, inr, ⊎_elim, ℕ, zero, suc, ◌<◌, ◌≤◌, List, [], ◌∷◌, length, get_or, slice_get, slice_index, Option, Some, None, refl, sym, ap, ◌∙◌, arith}
use Rattle.std.specs.Option.{option_or}
use Rattle.rd_base.specs.declared.opened.InOpening.{InOpening}
use Rattle.rd_base.specs.declared.opened.Opening.{Opening}
use Rattle.rd_base.specs.declared.opened.RegOpening.{RegOpening}
use Rattle.out_chain.specs.Collision.{first_collision}
use Rattle.open_proof.specs.Openings.{chunk_ways, register_way, each_way, register_ways, input_ways}
use Rattle.open_proof.specs.Ways.{Way, way_texts}
use Rattle.open_proof.specs.Collision.{ways_collision}
use Rattle.open_proof.specs.Slots.{there, first_three, slot_collision, slots_collision}
use Rattle.open_proof.specs.declared.facts.HeldInput.{HeldInput}
use Rattle.open_proof.specs.declared.facts.HeldRegisters.{HeldRegisters}
use Rattle.open_proof.specs.declared.facts.HeldRegisters.TheVariants.{Whole, Opened}

-- the first of at most one, and the first three of at most three
pub chunk_alone : (root : List ℕ) (chunk : Option Opening) (address : Option ℕ) → there (slice_get (chunk_ways root chunk address) 0 ∷ []) ≡ chunk_ways root chunk address
chunk_alone root (Some o) (Some addr) = refl
chunk_alone root (Some o) None = refl
chunk_alone root None address = refl

pub input_alone : (tree : Option HeldInput) (input : Option InOpening) (byte : Option ℕ) → there (slice_get (input_ways tree input byte) 0 ∷ []) ≡ input_ways tree input byte
input_alone (Some t) (Some o) (Some k) = refl
input_alone (Some t) (Some o) None = refl
input_alone (Some t) None byte = refl
input_alone None input byte = refl

pub three_there : (ws : List Way) → length ws ≤ 3 → there (first_three ws) ≡ ws
three_there [] few = refl
three_there (a ∷ []) few = refl
three_there (a ∷ b ∷ []) few = refl
three_there (a ∷ b ∷ c ∷ []) few = refl
three_there (a ∷ b ∷ c ∷ d ∷ ws) few = absurd (omega arith)

-- an opened register by its place among those that are named
pub each_at : (root rs : List ℕ) (os : List RegOpening) (k : ℕ) (o : RegOpening) → k < length rs → k < length os
    → Some (register_way root (slice_index rs k) (get_or os k o)) ≡ slice_get (each_way root rs os) k
each_at root [] os k o named there = absurd (omega arith)
each_at root (r ∷ rs) [] k o named there = absurd (omega arith)
each_at root (r ∷ rs) (p ∷ os) zero o named there = refl
each_at root (r ∷ rs) (p ∷ os) (suc k) o named there = each_at root rs os k o (omega arith) (omega arith)

pub each_none : (root rs : List ℕ) (os : List RegOpening) (k : ℕ) → (length rs ≤ k) ⊎ (length os ≤ k) → None ≡ slice_get (each_way root rs os) k
each_none root [] os k behind = refl
each_none root (r ∷ rs) [] k behind = refl
each_none root (r ∷ rs) (p ∷ os) zero behind = absurd (omega arith)
each_none root (r ∷ rs) (p ∷ os) (suc k) behind = each_none root rs os k (⊎_elim (λ h. inl (omega arith)) (λ h. inr (omega arith)) behind)

-- at most as many ways as names
pub each_few : (root rs : List ℕ) (os : List RegOpening) → length (each_way root rs os) ≤ length rs
each_few root [] os = omega arith
each_few root (r ∷ rs) [] = omega arith
each_few root (r ∷ rs) (o ∷ os) = let rest = each_few root rs os in omega arith

pub named_few : (rs : List ℕ) (regs : HeldRegisters) → length rs ≤ 3 → length (register_ways rs regs) ≤ 3
named_few rs (Whole xs) few = omega arith
named_few rs (Opened root named) few = let each = each_few root.0 rs named in omega arith

-- ---- the collision of two proofs' slots is that of their ways

module _ {A : Type 0} where
  first-none : (a : Option A) → option_or a None ≡ a
  first-none (Some x) = refl
  first-none None = refl

-- of a slot each
slot-collide : (digest : List ℕ → List ℕ) (v w : Option Way) → slot_collision digest v w ≡ ways_collision digest (there (v ∷ [])) (there (w ∷ []))
slot-collide digest (Some v) (Some w) = sym (first-none (first_collision digest (way_texts digest v) (way_texts digest w)))
slot-collide digest (Some v) None = refl
slot-collide digest None w = refl

-- of at most this many ways each, which fill their slots from the first on
padded : ℕ → List Way → List (Option Way)
padded zero ws = []
padded (suc n) [] = None ∷ padded n []
padded (suc n) (w ∷ ws) = Some w ∷ padded n ws

none-collide : (digest : List ℕ → List ℕ) (n : ℕ) (ws : List Way) → slots_collision digest (padded n []) (padded n ws) ≡ None
unfolding padded
none-collide digest zero ws = refl
none-collide digest (suc n) [] = none-collide digest n []
none-collide digest (suc n) (w ∷ ws) = none-collide digest n ws

collide-none : (digest : List ℕ → List ℕ) (n : ℕ) (vs : List Way) → slots_collision digest (padded n vs) (padded n []) ≡ None
unfolding padded
collide-none digest zero vs = refl
collide-none digest (suc n) [] = collide-none digest n []
collide-none digest (suc n) (v ∷ vs) = collide-none digest n vs

padded-collide : (digest : List ℕ → List ℕ) (n : ℕ) (vs ws : List Way) → length vs ≤ n → length ws ≤ n → slots_collision digest (padded n vs) (padded n ws) ≡ ways_collision digest vs ws
unfolding padded
padded-collide digest n [] ws few less = none-collide digest n ws
padded-collide digest n (v ∷ vs) [] few less = collide-none digest n (v ∷ vs)
padded-collide digest zero (v ∷ vs) (w ∷ ws) few less = absurd (omega arith)
padded-collide digest (suc n) (v ∷ vs) (w ∷ ws) few less =
    ap (option_or (first_collision digest (way_texts digest v) (way_texts digest w))) (padded-collide digest n vs ws (omega arith) (omega arith))

three-padded : (ws : List Way) → length ws ≤ 3 → first_three ws ≡ padded 3 ws
unfolding padded
three-padded [] few = refl
three-padded (a ∷ []) few = refl
three-padded (a ∷ b ∷ []) few = refl
three-padded (a ∷ b ∷ c ∷ []) few = refl
three-padded (a ∷ b ∷ c ∷ d ∷ ws) few = absurd (omega arith)

three-collide : (digest : List ℕ → List ℕ) (vs ws : List Way) → length vs ≤ 3 → length ws ≤ 3 → slots_collision digest (first_three vs) (first_three ws) ≡ ways_collision digest vs ws
three-collide digest vs ws few less =
    ap (λ (l : List (Option Way)). slots_collision digest l (first_three ws)) (three-padded vs few)
    ∙ (ap (slots_collision digest (padded 3 vs)) (three-padded ws less) ∙ padded-collide digest 3 vs ws few less)

-- slots that hold the ways of two proofs
module _ (digest : List ℕ → List ℕ) where
  pub slot_met : (v w : Option Way) (vs ws : List Way) → there (v ∷ []) ≡ vs → there (w ∷ []) ≡ ws → slot_collision digest v w ≡ ways_collision digest vs ws
  slot_met v w vs ws first second = slot-collide digest v w ∙ (ap (λ (l : List Way). ways_collision digest l (there (w ∷ []))) first ∙ ap (ways_collision digest vs) second)

  pub slots_met : (xs ys : List (Option Way)) (vs ws : List Way) → xs ≡ first_three vs → ys ≡ first_three ws → length vs ≤ 3 → length ws ≤ 3 → slots_collision digest xs ys ≡ ways_collision digest vs ws
  slots_met xs ys vs ws first second few less =
      ap (λ (l : List (Option Way)). slots_collision digest l ys) first
      ∙ (ap (slots_collision digest (first_three vs)) second ∙ three-collide digest vs ws few less)
