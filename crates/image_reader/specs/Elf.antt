-- To believe: the image of an ELF32 executable, or the first rule that the file breaks (TIS ELF 1.2). Fields have the names of
-- that text. Sums are sums of whole numbers: none wraps.
use Rattle.std.specs.Prelude.{ℕ, zero, suc, ◌+◌, ◌-◌, ◌*◌, ◌%◌, ◌^◌, ◌==◌, ◌&&◌, ◌||◌, List, [], ◌∷◌, length, take, drop, slice_index, nat_le, nat_lt, Bool, false, not, Result, Ok, Err, if◌then◌else◌}
use Rattle.std.specs.List.{list_any, starts_with}
use Rattle.byteorder.specs.Endian.{little_number}
use Rattle.mem_plain.specs.Contents.{contents_with}
use Rattle.image_reader.specs.declared.header.Header.{Header}
use Rattle.image_reader.specs.declared.header.ProgramHeader.{ProgramHeader}
use Rattle.image_reader.specs.declared.fault.ImageFault.{ImageFault}
use Rattle.image_reader.specs.declared.fault.ImageFault.TheVariants.{Short, NotElf32Le, NotExecutable, NotRiscv, BadTable, SegmentOutsideFile, FileLargerThanMemory, SegmentPastEnd, SegmentsOverlap, EntryMisaligned, ImageTooLarge}
use Rattle.rd_base.specs.Results.{◌>>=◌}
use Rattle.image_reader.specs.Image.{Image, too_large}

-- the number in this many bytes of a file from an offset on, the least byte first ('Data Encoding')
abbrev pub field_at : ℕ → List ℕ → ℕ → ℕ
field_at width file offset = little_number width (drop offset file)

-- the fields of a file's header that are read ('ELF Header')
unfoldable pub header_at : List ℕ → Header
header_at file = record {
  e_type = field_at 2 file 16;
  e_machine = field_at 2 file 18;
  e_entry = field_at 4 file 24;
  e_phoff = field_at 4 file 28;
  e_phentsize = field_at 2 file 42;
  e_phnum = field_at 2 file 44;
}

-- the fields that are read of the program header at an offset ('Program Header')
unfoldable pub program_header_at : List ℕ → ℕ → ProgramHeader
program_header_at file offset = record {
  p_type = field_at 4 file offset;
  p_offset = field_at 4 file (offset + 4);
  p_vaddr = field_at 4 file (offset + 8);
  p_filesz = field_at 4 file (offset + 16);
  p_memsz = field_at 4 file (offset + 20);
}

-- how a 32-bit little-endian file of version 1 begins ('ELF Identification')
abbrev pub ident : List ℕ
ident = 0x7f ∷ 0x45 ∷ 0x4c ∷ 0x46 ∷ 1 ∷ 1 ∷ 1 ∷ []

-- the header of a file, once rule 11 and then rules 1 to 4 are tested: its size, 52 bytes of a header, how it begins,
-- that it is an executable (ET_EXEC, 2) and for RISC-V (EM_RISCV, 243) ('ELF Header', 'ELF Identification')
unfoldable pub header_in : List ℕ → Result Header ImageFault
header_in file =
    if too_large file then Err ImageTooLarge
    else if nat_lt (length file) 52 then Err Short
    else if not (starts_with (λ a b. a == b) file ident) then Err NotElf32Le
    else if not ((header_at file).e_type == 2) then Err NotExecutable
    else if not ((header_at file).e_machine == 243) then Err NotRiscv
    else Ok (header_at file)

-- the loads among this many program headers of 32 bytes, which follow one another from an offset on: those of the
-- type PT_LOAD, 1 ('Program Header')
unfoldable pub loads_from : List ℕ → ℕ → ℕ → List ProgramHeader
loads_from file offset zero = []
loads_from file offset (suc count) =
    if (program_header_at file offset).p_type == 1
    then program_header_at file offset ∷ loads_from file (offset + 32) count
    else loads_from file (offset + 32) count

-- whether the program headers haven't 32 bytes each, or reach beyond the end of the file (rule 5)
abbrev pub is_bad_table : ℕ → Header → Bool
is_bad_table file_bytes header = not (header.e_phentsize == 32) || nat_lt file_bytes (header.e_phoff + 32 * header.e_phnum)

-- the loads of a file; rule 5 is tested first, if there are program headers ('ELF Header')
unfoldable pub loads_in : List ℕ → Header → Result (List ProgramHeader) ImageFault
loads_in file header =
    if header.e_phnum == 0 then Ok []
    else if is_bad_table (length file) header then Err BadTable
    else Ok (loads_from file header.e_phoff header.e_phnum)

-- whether a load's part of the file isn't empty and reaches beyond the end of the file (rule 6)
abbrev pub is_outside_file : ℕ → ProgramHeader → Bool
is_outside_file file_bytes load = nat_lt 0 load.p_filesz && nat_lt file_bytes (load.p_offset + load.p_filesz)

-- whether a load has more bytes in the file than in memory (rule 7)
abbrev pub has_larger_file : ProgramHeader → Bool
has_larger_file load = nat_lt load.p_memsz load.p_filesz

-- whether a load reaches beyond the last address (rule 8)
abbrev pub is_past_end : ProgramHeader → Bool
is_past_end load = nat_lt (2 ^ 32) (load.p_vaddr + load.p_memsz)

-- whether a load has an address: where it begins and p_memsz bytes on
abbrev pub occupies : ProgramHeader → ℕ → Bool
occupies load a = nat_le load.p_vaddr a && nat_lt a (load.p_vaddr + load.p_memsz)

-- whether two loads share an address: the first address of one that isn't empty is the other's too
abbrev pub share : ProgramHeader → ProgramHeader → Bool
share x y = (nat_lt 0 x.p_memsz && occupies y x.p_vaddr) || (nat_lt 0 y.p_memsz && occupies x y.p_vaddr)

-- whether any two of these loads share an address (rule 9)
abbrev pub some_share : List ProgramHeader → Bool
some_share [] = false
some_share (load ∷ loads) = list_any (share load) loads || some_share loads

-- whether a load has no address, as it has no bytes in memory
abbrev pub has_no_bytes : ProgramHeader → Bool
has_no_bytes load = load.p_memsz == 0

-- rules 6 to 9, each over all loads before the next (6 and 7: 'Program Header'; 8 and 9 are ours)
unfoldable pub checked_in : ℕ → List ProgramHeader → Result (Unit {0}) ImageFault
checked_in file_bytes loads =
    if list_any (is_outside_file file_bytes) loads then Err SegmentOutsideFile
    else if list_any has_larger_file loads then Err FileLargerThanMemory
    else if list_any is_past_end loads then Err SegmentPastEnd
    else if some_share loads then Err SegmentsOverlap
    else Ok tt

-- a load's part of the file
abbrev pub part_of : List ℕ → ProgramHeader → List ℕ
part_of file load = take load.p_filesz (drop load.p_offset file)

-- whether the part of a load that the file has covers an address
abbrev pub covers : ProgramHeader → ℕ → Bool
covers load a = nat_le load.p_vaddr a && nat_lt a (load.p_vaddr + load.p_filesz)

-- the byte of the file that a load has at an address which it covers
abbrev pub byte_of_load : List ℕ → ProgramHeader → ℕ → ℕ
byte_of_load file load a = slice_index file (load.p_offset + (a - load.p_vaddr))

-- the byte that a file's loads have at an address: that of the load which covers it, and 0 if none does. By rules 7 and 9 at most
-- one does ('Program Loading')
abbrev pub byte_of_loads : List ℕ → List ProgramHeader → ℕ → ℕ
byte_of_loads file [] a = 0
byte_of_loads file (load ∷ loads) a = if covers load a then byte_of_load file load a else byte_of_loads file loads a

-- the image of an ELF32 executable, or the first rule that it breaks; rule 10, of the entry, is the last
unfoldable pub elf_at : List ℕ → Result Image ImageFault
elf_at file = do
  header ← header_in file
  loads ← loads_in file header
  checked ← checked_in (length file) loads
  if not (header.e_entry % 4 == 0) then Err EntryMisaligned else Ok (record { memory = contents_with (byte_of_loads file loads); entry = header.e_entry })
