-- To believe. The image of an assembly text: the flat one of its words, four bytes each, the least first.
use Rattle.std.specs.Prelude.{ℕ, List, length, nat_lt, Result, Err, if◌then◌else◌}
use Rattle.std.specs.List.{flat_map}
use Rattle.std.specs.Int.{w32, to_le_bytes}
use Rattle.rd_base.specs.Results.{◌>>=◌, map_fault}
use Rattle.image_reader.specs.Image.{Image, flat_at}
use Rattle.image_reader.specs.declared.fault.ImageFault.TheVariants.{ImageTooLarge}
use Rattle.rv_text.specs.Assembly.{assembled}
use Rattle.delegate.specs.declared.loading.AsmImageFault.{AsmImageFault}
use Rattle.delegate.specs.declared.loading.AsmImageFault.TheVariants as fault

-- the bytes of words, in their order
abbrev pub bytes_of : List ℕ → List ℕ
bytes_of words = flat_map (to_le_bytes w32) words

-- the flat image of words
abbrev pub words_at : List ℕ → Result Image AsmImageFault
words_at words = map_fault fault.Image (flat_at (bytes_of words))

-- the words of a text. A text of more bytes than are assembled is an image that is too large
unfoldable pub asm_words : List ℕ → Result (List ℕ) AsmImageFault
asm_words text = if nat_lt 16777216 (length text) then Err (fault.Image ImageTooLarge) else map_fault fault.Text (assembled text)

-- the image of a text
unfoldable pub asm_at : List ℕ → Result Image AsmImageFault
asm_at text = asm_words text >>= words_at
