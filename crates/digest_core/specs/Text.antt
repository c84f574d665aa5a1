-- To believe: the byte strings that are digested, one definition for each kind. A string begins with the byte of its
-- kind; a number is written with its least byte first. A digest has 32 bytes, and so has a chunk of memory.
use Rattle.std.specs.Prelude.{ℕ, List, [], ◌∷◌, ◌++◌}
use Rattle.std.specs.List.{flat_map}
use Rattle.byteorder.specs.Endian.{little_bytes}
use Rattle.rd_base.specs.declared.status.Status.{Status}
use Rattle.rd_base.specs.declared.status.Status.TheVariants.{Running, Exited, Trapped}

-- leaf: 0, and a chunk of memory or of the input
abbrev pub leaf_text : List ℕ → List ℕ
leaf_text chunk = 0 ∷ chunk

-- node: 1, and the digests of the left and of the right child
abbrev pub node_text : List ℕ → List ℕ → List ℕ
node_text left right = 1 ∷ left ++ right

-- registers: 2, and what x0 to x31 hold, four bytes each
unfoldable pub registers_text : List ℕ → List ℕ
registers_text registers = 2 ∷ flat_map (little_bytes 4) registers

-- the byte of a status: 0 running, 1 exited, 2 trapped
abbrev pub status_byte : Status → ℕ
status_byte Running = 0
status_byte (Exited code) = 1
status_byte (Trapped code) = 2

-- the code of a status, which is 0 while the machine runs
abbrev pub status_code : Status → ℕ
status_code Running = 0
status_code (Exited code) = code
status_code (Trapped code) = code

-- control: 3, the pc in four bytes, the status in one and its code in four, the output's length in eight, and its chain
unfoldable pub control_text : ℕ → Status → ℕ → List ℕ → List ℕ
control_text pc status out_len chain =
    3 ∷ little_bytes 4 pc ++ status_byte status ∷ little_bytes 4 (status_code status) ++ little_bytes 8 out_len ++ chain

-- state: 4, the memory digest (the root of memory, in version 3 the digest of the storage string), the registers digest (that of the
-- registers string, in versions 2 and 3 the root of the registers' tree), and the digest of the control string
abbrev pub state_text : List ℕ → List ℕ → List ℕ → List ℕ
state_text memory registers control = 4 ∷ memory ++ registers ++ control

-- link: 5, the chain of an output, and the next byte of the output
abbrev pub link_text : List ℕ → ℕ → List ℕ
link_text chain byte = 5 ∷ chain ++ byte ∷ []

-- noise: 6, and three numbers of four bytes each; nobody opens it
abbrev pub noise_text : ℕ → ℕ → ℕ → List ℕ
noise_text seed dispute round = 6 ∷ little_bytes 4 seed ++ little_bytes 4 dispute ++ little_bytes 4 round

-- register leaf: 7, and what the register holds in four bytes
abbrev pub register_text : ℕ → List ℕ
register_text value = 7 ∷ little_bytes 4 value

-- storage: 8, the root of memory, the input's length in four bytes, and the root of the input
abbrev pub storage_text : List ℕ → ℕ → List ℕ → List ℕ
storage_text memory input_len input = 8 ∷ memory ++ little_bytes 4 input_len ++ input
