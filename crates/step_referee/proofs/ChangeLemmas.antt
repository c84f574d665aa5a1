-- The changed way makes the root after a step, and takes its digests.
use Rattle.std.proofs.Common.{◌≡◌, ℕ, ◌*◌, List, [], ◌∷◌, Option, Some, None, true, false, cond, slice_index, eqb, refl}
use Rattle.rd_base.specs.declared.opened.Opening.{Opening}
use Rattle.rd_base.specs.declared.opened.RegOpening.{RegOpening}
use Rattle.rv_step.specs.declared.effect.Effect.TheVariants.{Store}
use Rattle.open_proof.specs.Held.{mem_after}
use Rattle.open_proof.specs.Next.{root_changed}
use Rattle.open_proof.specs.Openings.{register_way}
use Rattle.open_proof.specs.Ways.{way_text}
use Rattle.open_proof.specs.Slots.{digest_after, digests_after, changed_chunk, changed_register}
use Rattle.step_referee.specs.Ticks.{chunk_count, changed_digests}

pub stored-digest : (digest : List ℕ → List ℕ) (operand : Option Opening) (mem : List ℕ) (addr width value : ℕ)
    → digest_after digest mem (changed_chunk mem operand addr width value) ≡ mem_after digest operand mem (Store addr width value)
stored-digest digest (Some o) mem addr width value = refl
stored-digest digest None mem addr width value = refl

pub stored-digests : (operand : Option Opening) (mem : List ℕ) (addr width value : ℕ) → digests_after (changed_chunk mem operand addr width value) ≡ 28 * chunk_count operand
stored-digests (Some o) mem addr width value = refl
stored-digests None mem addr width value = refl

pub changed_digest : (digest : List ℕ → List ℕ) (root rs : List ℕ) (os : List RegOpening) (before after : List ℕ)
    → digest_after digest root (changed_register root rs os before after) ≡ root_changed digest root rs os before after
changed_digest digest root [] os before after = refl
changed_digest digest root (r ∷ rs) [] before after = refl
changed_digest digest root (r ∷ rs) (o ∷ os) before after =
    let other = register_way root r (record o { value = slice_index after r }) in
    elim (eqb (slice_index before r) (slice_index after r)) as (λ b. digest_after digest root (cond b (changed_register root rs os before after) (Some other)) ≡ cond b (root_changed digest root rs os before after) (digest (way_text digest other 5))) [
      | true ↦ changed_digest digest root rs os before after
      | false ↦ refl
    ]

pub changed_ticks : (root rs : List ℕ) (os : List RegOpening) (before after : List ℕ) → digests_after (changed_register root rs os before after) ≡ changed_digests rs os before after
changed_ticks root [] os before after = refl
changed_ticks root (r ∷ rs) [] before after = refl
changed_ticks root (r ∷ rs) (o ∷ os) before after =
    let other = register_way root r (record o { value = slice_index after r }) in
    elim (eqb (slice_index before r) (slice_index after r)) as (λ b. digests_after (cond b (changed_register root rs os before after) (Some other)) ≡ cond b (changed_digests rs os before after) 6) [
      | true ↦ changed_ticks root rs os before after
      | false ↦ refl
    ]
