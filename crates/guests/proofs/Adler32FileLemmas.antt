-- The file of the Adler-32 program: it is loaded, and memory then has the program.
use Rattle.std.proofs.Common.{◌≡◌, ℕ, ◌+◌, ◌-◌, ◌^◌, ◌<◌, List, [], ◌∷◌, ◌++◌, length, slice_index, cond, Result, Ok, true, refl, sym, ap, subst, ◌∙◌, arith}
use Rattle.std.proofs.Math.ListN.{get_or-append}
use Rattle.std.proofs.lemmas.List.{get_or-append-add}
use Rattle.std.specs.Prelude.{IfOk}
use Rattle.std.proofs.lemmas.Result.{IfOk-at_ok}
use Rattle.image_reader.specs.declared.fault.ImageFault.{ImageFault}
use Rattle.std.proofs.lemmas.Bool.Decides.{nat_tests}
use Rattle.mem_plain.specs.Contents.{byte_at, contents_with}
use Rattle.rv_step.specs.Step.{state_at}
use Rattle.rv_step.specs.Loaded.{started}
use Rattle.image_reader.specs.declared.header.ProgramHeader.{ProgramHeader}
use Rattle.image_reader.specs.Image.{Image}
use Rattle.image_reader.specs.Elf.{elf_at, header_in, header_at, program_header_at, loads_in, loads_from, checked_in, byte_of_loads, covers}
use Rattle.guests.specs.Guest.{HasBytes, HasPutOut}
use Rattle.guests.specs.Adler32.{adler32_of}
use Rattle.guests.specs.Adler32File.{adler32_headers, adler32_program, adler32_sections, adler32_file, ProgramComputesAdler32, FileComputesAdler32}

abbrev pub load : ProgramHeader
load = record { p_type = 1; p_offset = 0x74; p_vaddr = 0x10000; p_filesz = 192; p_memsz = 192 }

abbrev pub adler32_image : Image
adler32_image = record { memory = contents_with (byte_of_loads adler32_file (load ∷ [])); entry = 0x10000 }

pub loads : elf_at adler32_file ≡ Ok adler32_image
unfolding elf_at header_in header_at program_header_at loads_in loads_from checked_in adler32_headers adler32_program adler32_sections
loads = refl

-- the law of a loaded file's bytes, as `image_reader` states it
abbrev pub BytesLaw : Type 0
BytesLaw = (file : List ℕ) (loads : List ProgramHeader) (a : ℕ) → a < 2 ^ 32 → byte_at (contents_with (byte_of_loads file loads)) a ≡ byte_of_loads file loads a

sizes : (length adler32_headers ≡ 116) × (length adler32_program ≡ 192)
unfolding adler32_headers adler32_program
sizes = (refl, refl)

covered : (i : ℕ) → i < 192 → covers load (0x10000 + i) ≡ true
covered i below = grind (arith, nat_tests)

image-has : BytesLaw → HasBytes adler32_image.memory 0x10000 adler32_program
image-has law i below =
    let size = sizes.1 in
    let front = sizes.0 in
    let place : 0x74 + (0x10000 + i - 0x10000) ≡ length adler32_headers + i = omega (arith, front) in
    law adler32_file (load ∷ []) (0x10000 + i) (omega (arith, size, below))
    ∙ (ap (λ t. cond t (slice_index adler32_file (0x74 + (0x10000 + i - 0x10000))) 0) (covered i (omega (arith, size, below)))
    ∙ (ap (slice_index adler32_file) place
    ∙ (get_or-append-add adler32_headers (adler32_program ++ adler32_sections) i 0 ∙ get_or-append adler32_program adler32_sections 0 i below)))

pub file_computes : BytesLaw → ProgramComputesAdler32 → FileComputesAdler32
file_computes law computes image input is short small steps enough =
    let P : Image → Type 0 = λ (v : Image). HasPutOut (adler32_of input) (state_at (started 3 v.memory v.entry input) steps) in
    IfOk-at_ok P is (subst (λ (r : Result Image ImageFault). IfOk r P) (sym loads) (computes adler32_image.memory input (image-has law) short small steps enough))
