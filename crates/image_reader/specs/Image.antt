-- To believe: what a file is loaded as, and a flat file's image.
use Rattle.std.specs.Prelude.{ℕ, List, length, nat_lt, Bool, Result, Ok, Err, if◌then◌else◌}
use Rattle.mem_plain.specs.Contents.{Contents, no_bytes, laid}
use Rattle.image_reader.specs.declared.fault.ImageFault.{ImageFault}
use Rattle.image_reader.specs.declared.fault.ImageFault.TheVariants.{ImageTooLarge}
use Rattle.image_reader.specs.declared.loading.Loaded.{Loaded}

-- the bytes of memory, and the address at which the program is entered
pub record Image : Type 0 where
  pub memory : Contents
  pub entry : ℕ

-- what was loaded, as an image
abbrev pub loaded_of : Loaded → Image
loaded_of loaded = record { memory = loaded.mem; entry = loaded.entry }

-- whether a file is too large (rule 11)
abbrev pub too_large : List ℕ → Bool
too_large file = nat_lt 4194304 (length file)

-- the image of a flat file: its bytes from the base on, where it is entered
unfoldable pub flat_at : List ℕ → Result Image ImageFault
flat_at file =
    if too_large file then Err ImageTooLarge
    else Ok (record { memory = laid no_bytes 0x10000 file; entry = 0x10000 })
