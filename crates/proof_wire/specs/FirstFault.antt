-- To believe. Which fault comes first, by how many bytes there are and by the bytes at their places. The tag is at place 0.
use Rattle.std.specs.Prelude.{ℕ, ◌+◌, ◌*◌, ◌/◌, ◌%◌, Bool, ◌&&◌, nat_le, ◌==◌, List, [], ◌∷◌, length, slice_index, take, drop, Option, Some, None, if◌then◌else◌}
use Rattle.std.specs.Int.{w32, w64, from_le_bytes}
use Rattle.proof_wire.specs.declared.fault.WireFault.{WireFault}
use Rattle.proof_wire.specs.declared.fault.WireFault.TheVariants.{Short, BadTag, BadStatus, TrailingBytes, BadLength}

-- a test that bytes pass, or else their fault
pub record Test : Type 0 where
  pub passes : Bool
  pub fault : WireFault

-- the fault of the first test that isn't passed
unfoldable pub first_fault : List Test → Option WireFault
first_fault [] = None
first_fault (t ∷ ts) = if t.passes then first_fault ts else Some t.fault

-- the number of four bytes from a place on
abbrev pub word_from : ℕ → List ℕ → ℕ
word_from place bytes = from_le_bytes w32 (take 4 (drop place bytes))

-- the number of eight bytes from a place on
abbrev pub double_word_from : ℕ → List ℕ → ℕ
double_word_from place bytes = from_le_bytes w64 (take 8 (drop place bytes))

-- there are this many bytes
abbrev pub is_whole : ℕ → List ℕ → Test
is_whole size bytes = record { passes = nat_le size (length bytes); fault = Short }

-- there are no more
abbrev pub is_all : ℕ → List ℕ → Test
is_all size bytes = record { passes = nat_le (length bytes) size; fault = TrailingBytes }

-- the byte at a place is in a range
abbrev pub is_within : ℕ → ℕ → ℕ → List ℕ → Test
is_within place least most bytes = record {
  passes = nat_le least (slice_index bytes place) && nat_le (slice_index bytes place) most;
  fault = BadTag;
}

-- the status byte at a place is 0 to 2, and if it is 0 the four bytes of the code behind it are 0
abbrev pub is_status : ℕ → List ℕ → Test
is_status place bytes = record {
  passes = if slice_index bytes place == 0 then word_from (place + 1) bytes == 0 else nat_le (slice_index bytes place) 2;
  fault = BadStatus;
}

-- the length of an output, eight bytes from a place on, is at most 4,294,967,295
abbrev pub is_length : ℕ → List ℕ → Test
is_length place bytes = record { passes = nat_le (double_word_from place bytes) 4294967295; fault = BadLength }

-- there are this many bytes, and no more
abbrev pub ends : ℕ → List ℕ → List Test
ends size bytes = is_whole size bytes ∷ is_all size bytes ∷ []

-- a claim: 122 bytes, its status at 69, its output's length at 114
abbrev pub claim_tests : List ℕ → List Test
claim_tests bytes = is_whole 122 bytes ∷ is_status 69 bytes ∷ is_length 114 bytes ∷ ends (122 + double_word_from 114 bytes) bytes

-- a root: 33 bytes
abbrev pub root_tests : List ℕ → List Test
root_tests bytes = ends 33 bytes

-- several roots: 2 bytes, their count at 1
abbrev pub roots_tests : List ℕ → List Test
roots_tests bytes = is_whole 2 bytes ∷ is_within 1 1 15 bytes ∷ ends (2 + 32 * slice_index bytes 1) bytes

-- how many bytes the chunks of memory have that flags name, the fetched one and the data
abbrev pub chunk_bytes : ℕ → ℕ
chunk_bytes flags = 896 * (flags % 2 + flags / 2 % 2)

-- a proof of version 1: 207 bytes, its status at 161, its flags at 206
abbrev pub step_tests : List ℕ → List Test
step_tests bytes =
    is_whole 207 bytes ∷ is_status 161 bytes ∷ is_within 206 0 3 bytes ∷ ends (207 + chunk_bytes (slice_index bytes 206)) bytes

-- a proof of version 2: 116 bytes, its status at 69, its flags at 114, the count of registers at 115
abbrev pub step_2_tests : List ℕ → List Test
step_2_tests bytes =
    is_whole 116 bytes ∷ is_status 69 bytes ∷ is_within 114 0 3 bytes ∷ is_within 115 0 3 bytes
    ∷ ends (116 + chunk_bytes (slice_index bytes 114) + 164 * slice_index bytes 115) bytes

-- a proof of version 3: 152 bytes, its status at 105, its flags at 150, the count of registers at 151
abbrev pub step_3_tests : List ℕ → List Test
step_3_tests bytes =
    is_whole 152 bytes ∷ is_status 105 bytes ∷ is_within 150 0 7 bytes ∷ is_within 151 0 3 bytes
    ∷ ends (152 + chunk_bytes (slice_index bytes 150) + 164 * slice_index bytes 151 + 512 * (slice_index bytes 150 / 4 % 2)) bytes

-- the tests of bytes with this tag
abbrev pub tests_by_tag : ℕ → List ℕ → List Test
tests_by_tag tag bytes =
    if tag == 1 then claim_tests bytes
    else if tag == 2 then root_tests bytes
    else if tag == 3 then step_tests bytes
    else if tag == 4 then step_2_tests bytes
    else if tag == 5 then roots_tests bytes
    else step_3_tests bytes

-- the tests of an answer's bytes, in their order
abbrev pub tests_of : List ℕ → List Test
tests_of bytes = is_whole 1 bytes ∷ is_within 0 1 6 bytes ∷ tests_by_tag (slice_index bytes 0) bytes
