-- To believe: the claim that is true of a state, in the state's version.
use Rattle.std.specs.Prelude.{ℕ, List}
use Rattle.rd_base.specs.declared.claim.Claim.{Claim}
use Rattle.rv_step.specs.State.{State}
use Rattle.state_commit.specs.StateRoot.{ctl_of, registers_digest, storage_digest}

-- the digests of what the state stores and of its registers, as its version has them, its control fields and its output
abbrev pub plain_claim : (List ℕ → List ℕ) → State → Claim
plain_claim digest s = record {
  mem = record { 0 = storage_digest digest s.version s };
  regs = record { 0 = registers_digest digest s.version s.regs };
  ctl = ctl_of digest s;
  output = s.output;
}
