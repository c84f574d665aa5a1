-- To believe. What a caller gets of the bytes of a claim: a status, and the root of the claim, by SHA-256.
use Rattle.std.specs.Prelude.{ℕ, List, Result, Ok, Err, if◌then◌else◌}
use Rattle.sha2.specs.Sha256.{sha256}
use Rattle.rd_base.specs.declared.answer.Answer.{Answer}
use Rattle.rd_base.specs.declared.answer.Answer.TheVariants.{Claim}
use Rattle.out_chain.specs.Root.{root_of_claim}
use Rattle.out_chain.specs.Soundness.{is_sound}
use Rattle.proof_wire.specs.declared.fault.WireFault.{WireFault}

-- of an answer: 0 of a sound claim, 1 of another claim, 3 of what is no claim
abbrev pub status_of_claim : Answer → ℕ
status_of_claim (Claim claim) = if is_sound sha256 claim then 0 else 1
status_of_claim other = 3

-- the root of a sound claim, or else what was there before
abbrev pub claimed_root_or_before : Answer → List ℕ → List ℕ
claimed_root_or_before (Claim claim) before = if is_sound sha256 claim then root_of_claim sha256 claim else before
claimed_root_or_before other before = before

-- of the answer that bytes spell; no bytes that spell none are a claim
abbrev pub status_of_reading : Result Answer WireFault → ℕ
status_of_reading (Ok answer) = status_of_claim answer
status_of_reading (Err fault) = 3

abbrev pub root_of_reading : Result Answer WireFault → List ℕ → List ℕ
root_of_reading (Ok answer) before = claimed_root_or_before answer before
root_of_reading (Err fault) before = before
