-- Derived: what bytes are read as, field by field, or the first fault. What is read is tied to the wire forms by the
-- clauses of `decode`, and the fault to lengths and places by the law `faults_by_places`.
use Rattle.std.specs.Prelude.{◌≡◌, ℕ, zero, suc, List, [], ◌∷◌, length, take, drop, ◌/◌, ◌%◌, Option, Some, None, Result, Ok, Err, Bool, true, false, nat_lt, ◌==◌, ◌||◌, if◌then◌else◌}
use Rattle.std.specs.Int.{w32, w64, from_le_bytes}
use Rattle.rd_base.specs.declared.digest.Digest32.{Digest32}
use Rattle.rd_base.specs.declared.status.Status.{Status}
use Rattle.rd_base.specs.declared.status.Status.TheVariants.{Running, Exited, Trapped}
use Rattle.rd_base.specs.declared.status.Ctl.{Ctl}
use Rattle.rd_base.specs.declared.claim.Claim.{Claim}
use Rattle.rd_base.specs.declared.opened.Opening.{Opening}
use Rattle.rd_base.specs.declared.opened.RegOpening.{RegOpening}
use Rattle.rd_base.specs.declared.opened.InOpening.{InOpening}
use Rattle.rd_base.specs.declared.proof.StepProof.{StepProof}
use Rattle.rd_base.specs.declared.proof.StepProof2.{StepProof2}
use Rattle.rd_base.specs.declared.proof.StepProof3.{StepProof3}
use Rattle.rd_base.specs.declared.proof.Proof.{Proof}
use Rattle.rd_base.specs.declared.proof.Proof.TheVariants.{V1, V2, V3}
use Rattle.rd_base.specs.declared.answer.Answer.{Answer}
use Rattle.rd_base.specs.declared.answer.Answer.TheVariants as answers
use Rattle.rd_base.specs.Results.{◌>>=◌}
use Rattle.proof_wire.specs.declared.fault.WireFault.{WireFault}
use Rattle.proof_wire.specs.declared.fault.WireFault.TheVariants.{Short, BadTag, BadStatus, TrailingBytes, BadLength}

-- a result, its value seen by view, is exactly what the definition gives
abbrev pub IsExactly : {X Y E : Type 0} → (X → Y) → Result X E → Result Y E → Type 0
IsExactly view (Ok x) reading = reading ≡ Ok (view x)
IsExactly view (Err e) reading = reading ≡ Err e

-- a value, and the bytes behind it, or a fault
abbrev pub Read : Type 0 → Type 0
Read A = Result (A × List ℕ) WireFault

-- bytes of which there are this many at least
abbrev pub at_least : ℕ → List ℕ → Result (List ℕ) WireFault
at_least size bytes = if nat_lt (length bytes) size then Err Short else Ok bytes

-- this many bytes
abbrev pub block_ahead : ℕ → List ℕ → Read (List ℕ)
block_ahead size bytes = if nat_lt (length bytes) size then Err Short else Ok (take size bytes, drop size bytes)

unfoldable pub byte_ahead : List ℕ → Read ℕ
byte_ahead [] = Err Short
byte_ahead (b ∷ bytes) = Ok (b, bytes)

unfoldable pub word_ahead : List ℕ → Read ℕ
word_ahead bytes = do
  front ← block_ahead 4 bytes
  Ok (from_le_bytes w32 front.0, front.1)

unfoldable pub double_word_ahead : List ℕ → Read ℕ
double_word_ahead bytes = do
  front ← block_ahead 8 bytes
  Ok (from_le_bytes w64 front.0, front.1)

unfoldable pub digest_ahead : List ℕ → Read Digest32
digest_ahead bytes = do
  front ← block_ahead 32 bytes
  Ok (record { 0 = front.0 }, front.1)

-- this many values, each read as the first is
unfoldable pub each_ahead : {A : Type 0} → (List ℕ → Read A) → ℕ → List ℕ → Read (List A)
each_ahead read zero bytes = Ok ([], bytes)
each_ahead read (suc count) bytes = do
  first ← read bytes
  others ← each_ahead read count first.1
  Ok (first.0 ∷ others.0, others.1)

-- a status: its byte is at most 2, and the code of one that is running is 0
abbrev pub status_of : ℕ → ℕ → Result Status WireFault
status_of byte code =
    if byte == 0 then (if code == 0 then Ok Running else Err BadStatus)
    else if byte == 1 then Ok (Exited code)
    else if byte == 2 then Ok (Trapped code)
    else Err BadStatus

unfoldable pub status_ahead : List ℕ → Read Status
status_ahead bytes = do
  byte ← byte_ahead bytes
  code ← word_ahead byte.1
  status ← status_of byte.0 code.0
  Ok (status, code.1)

unfoldable pub control_ahead : List ℕ → Read Ctl
control_ahead bytes = do
  pc ← word_ahead bytes
  status ← status_ahead pc.1
  out_len ← double_word_ahead status.1
  chain ← digest_ahead out_len.1
  Ok (record { pc = pc.0; status = status.0; out_len = out_len.0; chain = chain.0 }, chain.1)

unfoldable pub registers_ahead : List ℕ → Read (List ℕ)
registers_ahead bytes = do
  others ← each_ahead word_ahead 31 bytes
  Ok (0 ∷ others.0, others.1)

unfoldable pub opening_ahead : List ℕ → Read Opening
opening_ahead bytes = do
  whole ← at_least 896 bytes
  chunk ← block_ahead 32 whole
  path ← each_ahead digest_ahead 27 chunk.1
  Ok (record { chunk = chunk.0; path = record { 0 = path.0 } }, path.1)

unfoldable pub register_opening_ahead : List ℕ → Read RegOpening
register_opening_ahead bytes = do
  whole ← at_least 164 bytes
  value ← word_ahead whole
  path ← each_ahead digest_ahead 5 value.1
  Ok (record { value = value.0; path = record { 0 = path.0 } }, path.1)

unfoldable pub input_opening_ahead : List ℕ → Read InOpening
input_opening_ahead bytes = do
  whole ← at_least 512 bytes
  chunk ← block_ahead 32 whole
  path ← each_ahead digest_ahead 15 chunk.1
  Ok (record { chunk = chunk.0; path = record { 0 = path.0 } }, path.1)

-- a value if there is one
unfoldable pub optional_ahead : {A : Type 0} → (List ℕ → Read A) → Bool → List ℕ → Read (Option A)
optional_ahead read false bytes = Ok (None, bytes)
optional_ahead read true bytes = do
  found ← read bytes
  Ok (Some found.0, found.1)

-- a number that isn't above the largest
abbrev pub at_most : ℕ → ℕ → Result ℕ WireFault
at_most largest n = if nat_lt largest n then Err BadTag else Ok n

-- whether flag 1, 2 or 4 is among these
abbrev pub has_flag : ℕ → ℕ → Bool
has_flag number flags = flags / number % 2 == 1

-- an output whose length is this number
abbrev pub output_ahead : ℕ → List ℕ → Read (List ℕ)
output_ahead size bytes = if nat_lt 4294967295 size then Err BadLength else block_ahead size bytes

-- a claim behind its tag: 121 bytes, and the output
unfoldable pub claim_ahead : List ℕ → Read Claim
claim_ahead bytes = do
  whole ← at_least 121 bytes
  mem ← digest_ahead whole
  regs ← digest_ahead mem.1
  ctl ← control_ahead regs.1
  size ← double_word_ahead ctl.1
  output ← output_ahead size.0 size.1
  Ok (record { mem = mem.0; regs = regs.0; ctl = ctl.0; output = output.0 }, output.1)

-- how many roots there are: 1 to 15
abbrev pub root_count : ℕ → Result ℕ WireFault
root_count n = if n == 0 then Err BadTag else at_most 15 n

-- several roots behind their tag
unfoldable pub roots_ahead : List ℕ → Read (List Digest32)
roots_ahead bytes = do
  number ← byte_ahead bytes
  count ← root_count number.0
  each_ahead digest_ahead count number.1

-- a proof of version 1 behind its tag: 206 bytes, and the openings
unfoldable pub step_proof_ahead : List ℕ → Read StepProof
step_proof_ahead bytes = do
  whole ← at_least 206 bytes
  mem ← digest_ahead whole
  regs ← registers_ahead mem.1
  ctl ← control_ahead regs.1
  byte ← byte_ahead ctl.1
  flags ← at_most 3 byte.0
  fetch ← optional_ahead opening_ahead (has_flag 1 flags) byte.1
  operand ← optional_ahead opening_ahead (has_flag 2 flags) fetch.1
  Ok (record { mem = mem.0; regs = regs.0; ctl = ctl.0; fetch = fetch.0; operand = operand.0 }, operand.1)

-- a proof of version 2 behind its tag: 115 bytes, and the openings
unfoldable pub step_proof_2_ahead : List ℕ → Read StepProof2
step_proof_2_ahead bytes = do
  whole ← at_least 115 bytes
  mem ← digest_ahead whole
  regs ← digest_ahead mem.1
  ctl ← control_ahead regs.1
  byte ← byte_ahead ctl.1
  number ← byte_ahead byte.1
  flags ← at_most 3 byte.0
  count ← at_most 3 number.0
  fetch ← optional_ahead opening_ahead (has_flag 1 flags) number.1
  named ← each_ahead register_opening_ahead count fetch.1
  operand ← optional_ahead opening_ahead (has_flag 2 flags) named.1
  Ok (record { mem = mem.0; regs = regs.0; ctl = ctl.0; fetch = fetch.0; named = named.0; operand = operand.0 }, operand.1)

-- a proof of version 3 behind its tag: 151 bytes, and the openings
unfoldable pub step_proof_3_ahead : List ℕ → Read StepProof3
step_proof_3_ahead bytes = do
  whole ← at_least 151 bytes
  mem ← digest_ahead whole
  input_len ← word_ahead mem.1
  input_root ← digest_ahead input_len.1
  regs ← digest_ahead input_root.1
  ctl ← control_ahead regs.1
  byte ← byte_ahead ctl.1
  number ← byte_ahead byte.1
  flags ← at_most 7 byte.0
  count ← at_most 3 number.0
  fetch ← optional_ahead opening_ahead (has_flag 1 flags) number.1
  named ← each_ahead register_opening_ahead count fetch.1
  operand ← optional_ahead opening_ahead (has_flag 2 flags) named.1
  input ← optional_ahead input_opening_ahead (has_flag 4 flags) operand.1
  Ok (record { mem = mem.0; input_len = input_len.0; input_root = input_root.0; regs = regs.0; ctl = ctl.0; fetch = fetch.0; named = named.0; operand = operand.0; input = input.0 }, input.1)

-- an answer at the front: its tag, and what follows it
unfoldable pub answer_ahead : List ℕ → Read Answer
answer_ahead [] = Err Short
answer_ahead (tag ∷ bytes) =
    if tag == 1 then claim_ahead bytes >>= (λ claim. Ok (answers.Claim claim.0, claim.1))
    else if tag == 2 then digest_ahead bytes >>= (λ root. Ok (answers.Root root.0, root.1))
    else if tag == 3 then step_proof_ahead bytes >>= (λ proof. Ok (answers.Step (V1 proof.0), proof.1))
    else if tag == 4 then step_proof_2_ahead bytes >>= (λ proof. Ok (answers.Step (V2 proof.0), proof.1))
    else if tag == 5 then roots_ahead bytes >>= (λ roots. Ok (answers.Roots roots.0, roots.1))
    else if tag == 6 then step_proof_3_ahead bytes >>= (λ proof. Ok (answers.Step (V3 proof.0), proof.1))
    else Err BadTag

-- an answer, and nothing behind it
unfoldable pub answer_in : List ℕ → Result Answer WireFault
answer_in bytes = do
  answer ← answer_ahead bytes
  if length answer.1 == 0 then Ok answer.0 else Err TrailingBytes

-- the step among the answers, and no other
abbrev pub only_step : Result Answer WireFault → Result Proof WireFault
only_step (Ok (answers.Step proof)) = Ok proof
only_step (Ok other) = Err BadTag
only_step (Err fault) = Err fault

-- the step that is read of bytes: bytes with the tag of another answer have none
abbrev pub step_in : List ℕ → Result Proof WireFault
step_in [] = Err Short
step_in (tag ∷ bytes) = if tag == 3 || tag == 4 || tag == 6 then only_step (answer_in (tag ∷ bytes)) else Err BadTag
