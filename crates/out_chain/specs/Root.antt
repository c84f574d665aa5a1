-- To believe: the root of a state, from the digests of its memory and of its registers and from its control fields.
use Rattle.std.specs.Prelude.{ℕ, List}
use Rattle.rd_base.specs.declared.status.Ctl.{Ctl}
use Rattle.rd_base.specs.declared.claim.Claim.{Claim}
use Rattle.digest_core.specs.Text.{control_text, state_text}

-- the control string of control fields
abbrev pub control_text_of : Ctl → List ℕ
control_text_of ctl = control_text ctl.pc ctl.status ctl.out_len ctl.chain.0

-- the state string that is made of these parts
abbrev pub parts_text : (List ℕ → List ℕ) → List ℕ → List ℕ → Ctl → List ℕ
parts_text digest memory registers ctl = state_text memory registers (digest (control_text_of ctl))

-- the root of the state that has these parts: the digest of its state string
abbrev pub parts_root : (List ℕ → List ℕ) → List ℕ → List ℕ → Ctl → List ℕ
parts_root digest memory registers ctl = digest (parts_text digest memory registers ctl)

-- the state string of the state that a claim names
abbrev pub claim_text : (List ℕ → List ℕ) → Claim → List ℕ
claim_text digest claim = parts_text digest claim.mem.0 claim.regs.0 claim.ctl

-- the root of the state that a claim names
abbrev pub root_of_claim : (List ℕ → List ℕ) → Claim → List ℕ
root_of_claim digest claim = digest (claim_text digest claim)
