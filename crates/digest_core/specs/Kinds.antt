-- To believe: the kinds of strings that are digested, what a string of each kind is, and how long it is. A further kind is one line
-- in each of these definitions.
use Rattle.std.specs.Prelude.{◌≡◌, ℕ, List, length}
use Rattle.rd_base.specs.declared.status.Status.{Status}
use Rattle.digest_core.specs.Text.{leaf_text, node_text, registers_text, control_text, state_text, link_text, noise_text, register_text, storage_text}

pub data Kind : Type 0 where
  leaf : Kind
  node : Kind
  registers : Kind
  control : Kind
  state : Kind
  link : Kind
  noise : Kind
  register : Kind
  storage : Kind

-- a string has a kind if it is made of parts of these sizes: a digest and a chunk have 32 bytes
abbrev pub IsOfKind : Kind → List ℕ → Type 0
IsOfKind leaf s = (chunk : List ℕ) × (length chunk ≡ 32) × (s ≡ leaf_text chunk)
IsOfKind node s = (left : List ℕ) × (right : List ℕ) × (length left ≡ 32) × (length right ≡ 32) × (s ≡ node_text left right)
IsOfKind registers s = (xs : List ℕ) × (length xs ≡ 32) × (s ≡ registers_text xs)
IsOfKind control s = (pc : ℕ) × (status : Status) × (out_len : ℕ) × (chain : List ℕ) × (length chain ≡ 32) × (s ≡ control_text pc status out_len chain)
IsOfKind state s =
    (memory : List ℕ) × (file : List ℕ) × (ctl : List ℕ) × (length memory ≡ 32) × (length file ≡ 32) × (length ctl ≡ 32) × (s ≡ state_text memory file ctl)
IsOfKind link s = (chain : List ℕ) × (byte : ℕ) × (length chain ≡ 32) × (s ≡ link_text chain byte)
IsOfKind noise s = (seed : ℕ) × (dispute : ℕ) × (round : ℕ) × (s ≡ noise_text seed dispute round)
IsOfKind register s = (value : ℕ) × (s ≡ register_text value)
IsOfKind storage s = (memory : List ℕ) × (input_len : ℕ) × (input : List ℕ) × (length memory ≡ 32) × (length input ≡ 32) × (s ≡ storage_text memory input_len input)

-- how many bytes a string of each kind has
abbrev pub size_of : Kind → ℕ
size_of leaf = 33
size_of node = 65
size_of registers = 129
size_of control = 50
size_of state = 97
size_of link = 34
size_of noise = 13
size_of register = 5
size_of storage = 69
