-- To believe: when a claim agrees with itself.
use Rattle.std.specs.Prelude.{ℕ, ◌^◌, ◌==◌, nat_lt, List, length, Bool, true, false, ◌&&◌, bytes_eq, if◌then◌else◌}
use Rattle.rd_base.specs.declared.claim.Claim.{Claim}
use Rattle.digest_core.specs.Text.{status_code}
use Rattle.digest_core.specs.Chain.{chain_of}
use Rattle.out_chain.specs.declared.checking.ClaimCheck.{ClaimCheck}
use Rattle.out_chain.specs.declared.checking.ClaimCheck.TheVariants.{Sound, WrongLength, WrongChain}

-- the output's length is that of the control fields, and then its chain is
abbrev pub claim_check : (List ℕ → List ℕ) → Claim → ClaimCheck
claim_check digest claim =
    if claim.ctl.out_len == length claim.output
    then (if bytes_eq claim.ctl.chain.0 (chain_of digest claim.output) then Sound else WrongChain)
    else WrongLength

-- the answer that is `Sound`
abbrev pub says_sound : ClaimCheck → Bool
says_sound Sound = true
says_sound WrongLength = false
says_sound WrongChain = false

-- digests have 32 bytes and numbers are within the ranges of their types, as in each claim that a program holds
abbrev pub is_claim_in_range : Claim → Bool
is_claim_in_range claim =
    length claim.mem.0 == 32 && length claim.regs.0 == 32 && length claim.ctl.chain.0 == 32
    && nat_lt claim.ctl.pc (2 ^ 32) && nat_lt (status_code claim.ctl.status) (2 ^ 32) && nat_lt claim.ctl.out_len (2 ^ 64)

-- a claim is sound
unfoldable pub is_sound : (List ℕ → List ℕ) → Claim → Bool
is_sound digest claim = is_claim_in_range claim && says_sound (claim_check digest claim)
