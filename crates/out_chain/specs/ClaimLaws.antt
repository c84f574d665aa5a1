-- Derived: what holds of sound claims and of their collisions. `claims_of_one_root` has the same as clauses.
use Rattle.std.proofs.Common.{◌≡◌, ◌≢◌, ◌↔◌, ◌⊎◌, inl, inr, ⊎_elim, ℕ, suc, ◌^◌, ◌<◌, List, [], ◌∷◌, ◌++◌, length, replicate, Option, Some, None, Bool, true, false, ◌&&◌, not, eqb, ltb, refl, sym, ap, ◌∙◌, subst, arith, true≢false, Contains}
use Rattle.std.specs.Prelude.{bytes_eq, if◌then◌else◌}
use Rattle.std.proofs.lemmas.Slice.Eq.{bytes_eq-Decides}
use Rattle.std.proofs.lemmas.Bool.Decides.{Decides-eqb, Decides-ltb}
use Rattle.std.proofs.lemmas.Bool.{and_parts}
use Rattle.rd_base.specs.declared.claim.Claim.{Claim}
use Rattle.digest_core.specs.Text.{link_text, status_code}
use Rattle.digest_core.specs.TextLaws.{cons_parts, append_parts, control_text_same, state_text_same}
use Rattle.digest_core.specs.Chain.{chain_after, chain_of}
use Rattle.out_chain.specs.declared.checking.ClaimCheck.TheVariants.{Sound, WrongLength, WrongChain}
use Rattle.out_chain.specs.Root.{control_text_of, claim_text, root_of_claim}
use Rattle.out_chain.specs.Soundness.{claim_check, says_sound, is_claim_in_range, is_sound}
use Rattle.out_chain.specs.Collision.{links_after, links_of, opened_by_claim, collides, first_collision, claim_collision, IsClaimCollision, LinksSplit}

-- the test for a collision, both ways
pub collides-true : (digest : List ℕ → List ℕ) (x y : List ℕ) → collides digest x y ≡ true → (x ≢ y) × (digest x ≡ digest y)
collides-true digest x y test = go (bytes_eq x y) (bytes_eq (digest x) (digest y)) refl refl test
  where
    go : (a b : Bool) → bytes_eq x y ≡ a → bytes_eq (digest x) (digest y) ≡ b → (not a && b) ≡ true → (x ≢ y) × (digest x ≡ digest y)
    go true b e f t = absurd (true≢false (sym t))
    go false true e f t = (λ same. true≢false (sym ((bytes_eq-Decides x y).1 same) ∙ e), (bytes_eq-Decides (digest x) (digest y)).0 f)
    go false false e f t = absurd (true≢false (sym t))

pub collides-false : (digest : List ℕ → List ℕ) (x y : List ℕ) → collides digest x y ≡ false → digest x ≡ digest y → x ≡ y
collides-false digest x y test one = go (bytes_eq x y) (bytes_eq (digest x) (digest y)) refl ((bytes_eq-Decides (digest x) (digest y)).1 one) test
  where
    go : (a b : Bool) → bytes_eq x y ≡ a → b ≡ true → (not a && b) ≡ false → x ≡ y
    go true b e f t = (bytes_eq-Decides x y).0 e
    go false true e f t = absurd (true≢false t)
    go false false e f t = absurd (true≢false (sym f))

collides-same : (digest : List ℕ → List ℕ) (x : List ℕ) → collides digest x x ≡ false
collides-same digest x = ap (λ a. not a && bytes_eq (digest x) (digest x)) ((bytes_eq-Decides x x).1 refl)

pub collision-cons : (digest : List ℕ → List ℕ) (x y : List ℕ) (xs ys : List (List ℕ))
    → first_collision digest (x ∷ xs) (y ∷ ys) ≡ (if collides digest x y then Some (x, y) else first_collision digest xs ys)
unfolding first_collision
collision-cons digest x y xs ys = refl

-- if nothing collides, strings of one digest at the head are one, and nothing collides behind them
pub collision-none : (digest : List ℕ → List ℕ) (x y : List ℕ) (xs ys : List (List ℕ)) → first_collision digest (x ∷ xs) (y ∷ ys) ≡ None
    → (digest x ≡ digest y → x ≡ y) × (first_collision digest xs ys ≡ None)
collision-none digest x y xs ys none = go (collides digest x y) refl (sym (collision-cons digest x y xs ys) ∙ none)
  where
    go : (t : Bool) → collides digest x y ≡ t → (if t then Some (x, y) else first_collision digest xs ys) ≡ None
        → (digest x ≡ digest y → x ≡ y) × (first_collision digest xs ys ≡ None)
    go true e n = absurd cc
    go false e n = (collides-false digest x y e, n)

pub collision_of_same : (digest : List ℕ → List ℕ) (xs : List (List ℕ)) → first_collision digest xs xs ≡ None
unfolding first_collision
collision_of_same digest [] = refl
collision_of_same digest (x ∷ xs) = ap (λ t. if t then Some (x, x) else first_collision digest xs xs) (collides-same digest x) ∙ collision_of_same digest xs

pub contains-head : (x : List ℕ) (xs : List (List ℕ)) → Contains (x ∷ xs) x
contains-head x xs = (0, omega arith, refl)

pub contains-tail : (x y : List ℕ) (xs : List (List ℕ)) → Contains xs x → Contains (y ∷ xs) x
contains-tail x y xs (k, below, is) = (suc k, omega arith, is)

-- two strings that collide, each in its list
pub first-collides : (digest : List ℕ → List ℕ) (xs ys : List (List ℕ)) (pair : List ℕ × List ℕ) → first_collision digest xs ys ≡ Some pair
    → (pair.0 ≢ pair.1) × (digest pair.0 ≡ digest pair.1) × Contains xs pair.0 × Contains ys pair.1
unfolding first_collision
first-collides digest [] ys pair some = absurd cc
first-collides digest (x ∷ xs) [] pair some = absurd cc
first-collides digest (x ∷ xs) (y ∷ ys) pair some = go (collides digest x y) refl some (first-collides digest xs ys pair)
  where
    go : (t : Bool) → collides digest x y ≡ t → (if t then Some (x, y) else first_collision digest xs ys) ≡ Some pair
        → (first_collision digest xs ys ≡ Some pair → (pair.0 ≢ pair.1) × (digest pair.0 ≡ digest pair.1) × Contains xs pair.0 × Contains ys pair.1)
        → (pair.0 ≢ pair.1) × (digest pair.0 ≡ digest pair.1) × Contains (x ∷ xs) pair.0 × Contains (y ∷ ys) pair.1
    go true e s below =
        let here : (x, y) ≡ pair = cc in
        let both = collides-true digest x y e in
        subst (λ (p : List ℕ × List ℕ). (p.0 ≢ p.1) × (digest p.0 ≡ digest p.1) × Contains (x ∷ xs) p.0 × Contains (y ∷ ys) p.1) here (both.0, both.1, contains-head x xs, contains-head y ys)
    go false e s below =
        let found = below s in
        (found.0, found.1, contains-tail pair.0 x xs found.2, contains-tail pair.1 y ys found.3)

-- outputs of one length and one chain, of which no links collide, are one
links-collide : (digest : List ℕ → List ℕ) → ((bytes : List ℕ) → length (digest bytes) ≡ 32) → (xs ys c d : List ℕ) → length c ≡ length d → length xs ≡ length ys
    → chain_after digest c xs ≡ chain_after digest d ys → first_collision digest (links_after digest c xs) (links_after digest d ys) ≡ None → (c ≡ d) × (xs ≡ ys)
unfolding chain_after links_after
links-collide digest is_digest [] [] c d sizes lengths chains none = (chains, refl)
links-collide digest is_digest [] (y ∷ ys) c d sizes lengths chains none = absurd (omega arith)
links-collide digest is_digest (x ∷ xs) [] c d sizes lengths chains none = absurd (omega arith)
links-collide digest is_digest (x ∷ xs) (y ∷ ys) c d sizes lengths chains none =
    let head = collision-none digest (link_text c x) (link_text d y) _ _ none in
    let rest = links-collide digest is_digest xs ys (digest (link_text c x)) (digest (link_text d y)) (is_digest _ ∙ sym (is_digest _)) (omega arith) chains head.1 in
    let text = cons_parts 5 5 (c ++ x ∷ []) (d ++ y ∷ []) (head.0 rest.0) in
    let parts = append_parts c d (x ∷ []) (y ∷ []) sizes text.1 in
    let byte = cons_parts x y [] [] parts.1 in
    (parts.0, cc)

-- outputs of one length and one chain are one, or links of them collide
pub outputs_bound : (digest : List ℕ → List ℕ) → ((bytes : List ℕ) → length (digest bytes) ≡ 32) → (output other : List ℕ) → length output ≡ length other
    → chain_of digest output ≡ chain_of digest other → (output ≡ other) ⊎ LinksSplit digest output other
unfolding chain_of links_of
outputs_bound digest is_digest output other lengths chains = go (first_collision digest (links_of digest output) (links_of digest other)) refl
  where
    go : (found : Option (List ℕ × List ℕ)) → first_collision digest (links_of digest output) (links_of digest other) ≡ found → (output ≡ other) ⊎ LinksSplit digest output other
    go None none = inl (links-collide digest is_digest output other (replicate 32 0) (replicate 32 0) refl lengths chains none).1
    go (Some pair) some =
        let are = first-collides digest (links_of digest output) (links_of digest other) pair some in
        inr (record { first = pair.0; second = pair.1; of_first = are.2; of_second = are.3; differ = are.0; one_digest = are.1 })

-- what a sound claim has
record IsSoundClaim (digest : List ℕ → List ℕ) (claim : Claim) : Type 0 where
  mem_size : length claim.mem.0 ≡ 32
  regs_size : length claim.regs.0 ≡ 32
  pc_fits : claim.ctl.pc < 2 ^ 32
  code_fits : status_code claim.ctl.status < 2 ^ 32
  length_fits : claim.ctl.out_len < 2 ^ 64
  counted : claim.ctl.out_len ≡ length claim.output
  chained : claim.ctl.chain.0 ≡ chain_of digest claim.output

check-parts : (digest : List ℕ → List ℕ) (claim : Claim) → says_sound (claim_check digest claim) ≡ true
    → (claim.ctl.out_len ≡ length claim.output) × (claim.ctl.chain.0 ≡ chain_of digest claim.output)
check-parts digest claim test = go (eqb claim.ctl.out_len (length claim.output)) (bytes_eq claim.ctl.chain.0 (chain_of digest claim.output)) refl refl test
  where
    go : (a b : Bool) → eqb claim.ctl.out_len (length claim.output) ≡ a → bytes_eq claim.ctl.chain.0 (chain_of digest claim.output) ≡ b
        → says_sound (if a then (if b then Sound else WrongChain) else WrongLength) ≡ true
        → (claim.ctl.out_len ≡ length claim.output) × (claim.ctl.chain.0 ≡ chain_of digest claim.output)
    go true true e f t = ((Decides-eqb _ _).0 e, (bytes_eq-Decides _ _).0 f)
    go true false e f t = absurd (true≢false (sym t))
    go false b e f t = absurd (true≢false (sym t))

sound-parts : (digest : List ℕ → List ℕ) (claim : Claim) → is_sound digest claim ≡ true → IsSoundClaim digest claim
unfolding is_sound
sound-parts digest claim test =
    let whole = and_parts (is_claim_in_range claim) (says_sound (claim_check digest claim)) test in
    let length_fits = and_parts _ (ltb claim.ctl.out_len (2 ^ 64)) whole.0 in
    let code_fits = and_parts _ (ltb (status_code claim.ctl.status) (2 ^ 32)) length_fits.0 in
    let pc_fits = and_parts _ (ltb claim.ctl.pc (2 ^ 32)) code_fits.0 in
    let chain_size = and_parts _ (eqb (length claim.ctl.chain.0) 32) pc_fits.0 in
    let sizes = and_parts (eqb (length claim.mem.0) 32) (eqb (length claim.regs.0) 32) chain_size.0 in
    let checked = check-parts digest claim whole.1 in
    record {
      mem_size = (Decides-eqb _ _).0 sizes.0;
      regs_size = (Decides-eqb _ _).0 sizes.1;
      pc_fits = (Decides-ltb _ _).0 pc_fits.1;
      code_fits = (Decides-ltb _ _).0 code_fits.1;
      length_fits = (Decides-ltb _ _).0 length_fits.1;
      counted = checked.0;
      chained = checked.1;
    }

claim-same : (x y : Claim) → x.mem.0 ≡ y.mem.0 → x.regs.0 ≡ y.regs.0 → x.ctl.pc ≡ y.ctl.pc → x.ctl.status ≡ y.ctl.status
    → x.ctl.out_len ≡ y.ctl.out_len → x.ctl.chain.0 ≡ y.ctl.chain.0 → x.output ≡ y.output → x ≡ y
claim-same x y mem regs pc status out_len chain output =
    λ i. record {
      mem = record { 0 = mem i };
      regs = record { 0 = regs i };
      ctl = record { pc = pc i; status = status i; out_len = out_len i; chain = record { 0 = chain i } };
      output = output i;
    }

-- the first collision of two claims of one root
collision-of-one-root : (digest : List ℕ → List ℕ) (x y : Claim) → root_of_claim digest x ≡ root_of_claim digest y
    → claim_collision digest x y ≡ first_collision digest (opened_by_claim digest x) (opened_by_claim digest y)
unfolding claim_collision
collision-of-one-root digest x y roots =
    ap (λ t. if t then first_collision digest (opened_by_claim digest x) (opened_by_claim digest y) else None) ((bytes_eq-Decides _ _).1 roots)

-- two sound claims of one root without a collision are equal
pub claims_without_collision : (digest : List ℕ → List ℕ) → ((bytes : List ℕ) → length (digest bytes) ≡ 32) → (x y : Claim)
    → is_sound digest x ≡ true → is_sound digest y ≡ true → root_of_claim digest x ≡ root_of_claim digest y → claim_collision digest x y ≡ None → x ≡ y
unfolding chain_of links_of
claims_without_collision digest is_digest x y x_sound y_sound roots none =
    let a = sound-parts digest x x_sound in
    let b = sound-parts digest y y_sound in
    let state = collision-none digest (claim_text digest x) (claim_text digest y) _ _ (sym (collision-of-one-root digest x y roots) ∙ none) in
    let text = cons_parts 4 4 _ _ (state.0 roots) in
    let parts = state_text_same x.mem.0 x.regs.0 (digest (control_text_of x.ctl)) y.mem.0 y.regs.0 (digest (control_text_of y.ctl)) (a.mem_size ∙ sym b.mem_size) (a.regs_size ∙ sym b.regs_size) text.1 in
    let below = collision-none digest (control_text_of x.ctl) (control_text_of y.ctl) _ _ state.1 in
    let fields = control_text_same x.ctl.pc y.ctl.pc x.ctl.status y.ctl.status x.ctl.out_len y.ctl.out_len x.ctl.chain.0 y.ctl.chain.0 a.pc_fits b.pc_fits a.code_fits b.code_fits a.length_fits b.length_fits (below.0 parts.2) in
    let links = links-collide digest is_digest x.output y.output (replicate 32 0) (replicate 32 0) refl (sym a.counted ∙ fields.2 ∙ b.counted) (sym a.chained ∙ fields.3 ∙ b.chained) below.1 in
    claim-same x y parts.0 parts.1 fields.0 fields.1 fields.2 fields.3 links.1

-- what is called a collision of two claims is one
pub claims_collide : (digest : List ℕ → List ℕ) (x y : Claim) (pair : List ℕ × List ℕ) → claim_collision digest x y ≡ Some pair → IsClaimCollision digest x y pair
unfolding claim_collision
claims_collide digest x y pair some = go (bytes_eq (root_of_claim digest x) (root_of_claim digest y)) some
  where
    go : (t : Bool) → (if t then first_collision digest (opened_by_claim digest x) (opened_by_claim digest y) else None) ≡ Some pair → IsClaimCollision digest x y pair
    go true s =
        let found = first-collides digest (opened_by_claim digest x) (opened_by_claim digest y) pair s in
        record { differ = found.0; one_digest = found.1; first_opened = found.2; second_opened = found.3 }
    go false s = absurd cc

-- claims of two roots have none, and neither have equal claims
pub no_collision_of_two_roots : (digest : List ℕ → List ℕ) (x y : Claim) → root_of_claim digest x ≢ root_of_claim digest y → claim_collision digest x y ≡ None
unfolding claim_collision
no_collision_of_two_roots digest x y apart = go (bytes_eq (root_of_claim digest x) (root_of_claim digest y)) refl
  where
    go : (t : Bool) → bytes_eq (root_of_claim digest x) (root_of_claim digest y) ≡ t
        → (if t then first_collision digest (opened_by_claim digest x) (opened_by_claim digest y) else None) ≡ None
    go true e = absurd (apart ((bytes_eq-Decides _ _).0 e))
    go false e = refl

pub no_collision_of_equal : (digest : List ℕ → List ℕ) (x : Claim) → claim_collision digest x x ≡ None
no_collision_of_equal digest x = collision-of-one-root digest x x refl ∙ collision_of_same digest (opened_by_claim digest x)

-- sound claims have none if and only if their roots differ or they are equal
pub no_collision_exactly : (digest : List ℕ → List ℕ) → ((bytes : List ℕ) → length (digest bytes) ≡ 32) → (x y : Claim)
    → is_sound digest x ≡ true → is_sound digest y ≡ true → (claim_collision digest x y ≡ None) ↔ ((root_of_claim digest x ≢ root_of_claim digest y) ⊎ (x ≡ y))
no_collision_exactly digest is_digest x y x_sound y_sound = (
  λ none. go none (bytes_eq (root_of_claim digest x) (root_of_claim digest y)) refl,
  λ either. ⊎_elim
      (λ apart. no_collision_of_two_roots digest x y apart)
      (λ same. subst (λ (z : Claim). claim_collision digest x z ≡ None) same (no_collision_of_equal digest x))
      either,
)
  where
    go : claim_collision digest x y ≡ None → (t : Bool) → bytes_eq (root_of_claim digest x) (root_of_claim digest y) ≡ t → (root_of_claim digest x ≢ root_of_claim digest y) ⊎ (x ≡ y)
    go none true e = inr (claims_without_collision digest is_digest x y x_sound y_sound ((bytes_eq-Decides _ _).0 e) none)
    go none false e = inl (λ same. true≢false (sym ((bytes_eq-Decides _ _).1 same) ∙ e))
