-- To believe. `list`: the listing of the image of the case that is read, a line for each of its words.
use Rattle.std.specs.Prelude.{ℕ, ◌+◌, ◌*◌, List, [], ◌∷◌, length, map, slice_index, Result, Ok, Err}
use Rattle.std.specs.List.{range_with_len}
use Rattle.std.specs.Int.{w32, from_le_bytes, div_ceil}
use Rattle.rd_base.specs.Results.{◌>>=◌}
use Rattle.case_reader.specs.declared.case.Format.{Format}
use Rattle.case_reader.specs.declared.case.Format.TheVariants.{Flat, Elf, Asm}
use Rattle.case_reader.specs.declared.fault.Key.TheVariants as key
use Rattle.case_reader.specs.declared.fault.CaseFault.TheVariants.{OutOfRange}
use Rattle.rv_text.specs.Listing.{listing}
use Rattle.delegate.specs.AsmImage.{words_at, asm_words}
use Rattle.delegate.specs.Loading.{case_or_refusal, image_by}
use Rattle.delegate.specs.Refusal.{case_refusal, asm_refusal, or_refusal}
use Rattle.delegate.specs.declared.response.Subject.TheVariants.{Whole}
use Rattle.delegate.specs.declared.response.Response.{Response}
use Rattle.delegate.specs.declared.response.Answered.TheVariants.{Done}

-- the word whose first byte, the least, is at this place. Bytes behind the end are 0.
abbrev pub word_in_file : List ℕ → ℕ → ℕ
word_in_file bytes place = from_le_bytes w32 (slice_index bytes place ∷ slice_index bytes (place + 1) ∷ slice_index bytes (place + 2) ∷ slice_index bytes (place + 3) ∷ [])

-- the words of bytes, four bytes each; the last one is filled with zeros
abbrev pub words_in_file : List ℕ → List ℕ
words_in_file bytes = map (λ k. word_in_file bytes (4 * k)) (range_with_len 0 (div_ceil (length bytes) 4))

-- the words of an image, which breaks no rule: of a flat file its own, and of an assembly text those that it is assembled to. The other format
-- has no listing.
abbrev pub words_by : Format → List ℕ → Result (List ℕ) Response
words_by Flat file = do
  image ← image_by Whole Flat file
  Ok (words_in_file file)
words_by Asm text = or_refusal (asm_refusal Whole) (asm_words text >>= (λ words. words_at words >>= (λ image. Ok words)))
words_by Elf file = Err (case_refusal Whole (OutOfRange key.Format))

unfoldable pub list_response : List ℕ → Result Response Response
list_response bytes = do
  c ← case_or_refusal bytes
  words ← words_by c.format c.image
  Ok (record { answered = Done; text = listing words })
