-- To believe, for laws that speak of proofs which no program holds: digests, chunks and paths have their lengths, and numbers
-- are within the ranges of their types.
use Rattle.std.specs.Prelude.{ℕ, ◌^◌, ◌==◌, nat_lt, List, [], ◌∷◌, length, Bool, true, ◌&&◌, Option, Some, None}
use Rattle.rd_base.specs.declared.status.Ctl.{Ctl}
use Rattle.rd_base.specs.declared.digest.Digest32.{Digest32}
use Rattle.rd_base.specs.declared.opened.Opening.{Opening}
use Rattle.digest_core.specs.Text.{status_code}
use Rattle.rd_base.specs.declared.opened.InOpening.{InOpening}
use Rattle.rd_base.specs.declared.opened.RegOpening.{RegOpening}
use Rattle.rd_base.specs.declared.proof.Proof.{Proof}
use Rattle.open_proof.specs.Facts.{facts_of}
use Rattle.open_proof.specs.declared.facts.Facts.{Facts}
use Rattle.open_proof.specs.declared.facts.HeldInput.{HeldInput}
use Rattle.open_proof.specs.declared.facts.HeldRegisters.{HeldRegisters}
use Rattle.open_proof.specs.declared.facts.HeldRegisters.TheVariants.{Whole, Opened}

-- each number is a word of 32 bits
unfoldable pub are_words : List ℕ → Bool
are_words [] = true
are_words (x ∷ xs) = nat_lt x (2 ^ 32) && are_words xs

-- each digest has 32 bytes
unfoldable pub are_digests : List Digest32 → Bool
are_digests [] = true
are_digests (d ∷ ds) = (length d.0 == 32) && are_digests ds

abbrev pub is_opening_in_range : Option Opening → Bool
is_opening_in_range (Some o) = (length o.chunk == 32) && (length o.path.0 == 27) && are_digests o.path.0
is_opening_in_range None = true

abbrev pub is_ctl_in_range : Ctl → Bool
is_ctl_in_range ctl =
    nat_lt ctl.pc (2 ^ 32) && nat_lt (status_code ctl.status) (2 ^ 32) && nat_lt ctl.out_len (2 ^ 64) && (length ctl.chain.0 == 32)

abbrev pub is_input_in_range : Option InOpening → Bool
is_input_in_range (Some o) = (length o.chunk == 32) && (length o.path.0 == 15) && are_digests o.path.0
is_input_in_range None = true

abbrev pub are_openings_in_range : List RegOpening → Bool
are_openings_in_range [] = true
are_openings_in_range (o ∷ os) = nat_lt o.value (2 ^ 32) && (length o.path.0 == 5) && are_digests o.path.0 && are_openings_in_range os

abbrev pub are_registers_in_range : HeldRegisters → Bool
are_registers_in_range (Whole xs) = (length xs == 32) && are_words xs
are_registers_in_range (Opened root named) = (length root.0 == 32) && are_openings_in_range named

abbrev pub is_tree_in_range : Option HeldInput → Bool
is_tree_in_range (Some t) = nat_lt t.len (2 ^ 32) && (length t.root.0 == 32)
is_tree_in_range None = true

-- as in each proof that a program holds
unfoldable pub are_facts_in_range : Facts → Bool
are_facts_in_range facts =
    (length facts.mem.0 == 32) && is_tree_in_range facts.input_tree && are_registers_in_range facts.regs && is_ctl_in_range facts.ctl
    && is_opening_in_range facts.fetch && is_opening_in_range facts.operand && is_input_in_range facts.input

abbrev pub is_in_range : Proof → Bool
is_in_range proof = are_facts_in_range (facts_of proof)
