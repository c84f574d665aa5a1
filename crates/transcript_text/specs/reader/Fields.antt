-- To believe. The fields of a line: each is read at the front, and the bytes behind it are left.
use Rattle.std.specs.Prelude.{ℕ, ◌+◌, ◌-◌, ◌*◌, min, nat_lt, nat_le, Bool, not, ◌&&◌, ◌==◌, List, [], ◌∷◌, length, Option, Some, None, Result, Ok, Err, if◌then◌else◌}
use Rattle.std.specs.List.{list_all}
use Rattle.std.specs.Char.{is_ascii_digit}
use Rattle.std.specs.Option.{ok_or, option_map_or}
use Rattle.hex.specs.Hex.{decode_of}
use Rattle.rd_base.specs.declared.answer.Answer.{Answer}
use Rattle.rd_base.specs.declared.digest.Digest32.{Digest32}
use Rattle.rd_base.specs.Results.{◌>>=◌, map_fault}
use Rattle.proof_wire.specs.Reading.{answer_in}
use Rattle.digest_core.specs.declared.name.DigestName.{DigestName}
use Rattle.digest_core.specs.Name.{digest_text, digest_names}
use Rattle.transcript_text.specs.declared.reader.fault.LineFault.{LineFault}
use Rattle.transcript_text.specs.declared.reader.fault.LineFault.TheVariants.{NoForm}

-- a field, and the bytes behind it, or no form
abbrev pub ReadField : Type 0 → Type 0
ReadField A = Result (A × List ℕ) LineFault

-- the bytes behind a word, if they begin with it
abbrev pub behind_word : List ℕ → List ℕ → Option (List ℕ)
behind_word [] bytes = Some bytes
behind_word (w ∷ ws) [] = None
behind_word (w ∷ ws) (b ∷ bs) = if b == w then behind_word ws bs else None

-- what is read behind a word, if the bytes begin with it, and else the other
abbrev pub behind_or : {A : Type 0} → List ℕ → List ℕ → (List ℕ → A) → A → A
behind_or word bytes read other = option_map_or read (behind_word word bytes) other

abbrev pub skip_word : List ℕ → List ℕ → Result (List ℕ) LineFault
skip_word word bytes = ok_or (behind_word word bytes) NoForm

-- NUMBERS: decimal digits, of which the first is 0 only in the number 0. One that needs more than 32 bits is read as 2^32, which is
-- beyond each limit.

-- a number with one more digit
abbrev pub with_digit : ℕ → ℕ → ℕ
with_digit n b = min (10 * n + (b - 48)) 4294967296

-- the digits at the front, after those of the number so far
abbrev pub digits_at : ℕ → List ℕ → ℕ × List ℕ
digits_at n [] = (n, [])
digits_at n (b ∷ bs) = if is_ascii_digit b then digits_at (with_digit n b) bs else (n, b ∷ bs)

unfoldable pub decimal_at : List ℕ → ReadField ℕ
decimal_at [] = Err NoForm
decimal_at (b ∷ bs) = if b == 48 then Ok (0, bs) else if is_ascii_digit b then Ok (digits_at (b - 48) bs) else Err NoForm

-- a number of at most 32 bits
unfoldable pub small_number_at : List ℕ → ReadField ℕ
small_number_at bytes = do
  n ← decimal_at bytes
  if nat_lt n.0 4294967296 then Ok n else Err NoForm

-- a number behind a word
unfoldable pub number_after : List ℕ → List ℕ → ReadField ℕ
number_after word bytes = skip_word word bytes >>= decimal_at

-- HEXADECIMAL DIGITS of lower case, in pairs, to the end of the line

-- none of `A` to `F`
abbrev pub is_lower : ℕ → Bool
is_lower c = not (nat_le 65 c && nat_le c 70)

abbrev pub are_lower : List ℕ → Bool
are_lower digits = list_all is_lower digits

unfoldable pub bytes_in_hex : List ℕ → Result (List ℕ) LineFault
bytes_in_hex digits = if are_lower digits then map_fault (λ e. NoForm) (decode_of digits) else Err NoForm

-- at least one byte
unfoldable pub some_bytes_in_hex : List ℕ → Result (List ℕ) LineFault
some_bytes_in_hex digits = do
  bytes ← bytes_in_hex digits
  if length bytes == 0 then Err NoForm else Ok bytes

-- 32 bytes
unfoldable pub digest_in_hex : List ℕ → Result Digest32 LineFault
digest_in_hex digits = do
  bytes ← bytes_in_hex digits
  if length bytes == 32 then Ok (record { 0 = bytes }) else Err NoForm

-- an answer in its wire form
unfoldable pub answer_in_hex : List ℕ → Result Answer LineFault
answer_in_hex digits = do
  bytes ← bytes_in_hex digits
  map_fault (λ e. NoForm) (answer_in bytes)

-- THE NAME OF A DIGEST

-- the first of these with whose name the bytes begin
abbrev pub name_among : List DigestName → List ℕ → ReadField DigestName
name_among [] bytes = Err NoForm
name_among (d ∷ ds) bytes = behind_or (digest_text d) bytes (λ rest. Ok (d, rest)) (name_among ds bytes)

unfoldable pub name_at : List ℕ → ReadField DigestName
name_at bytes = name_among digest_names bytes
