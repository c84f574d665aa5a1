-- To believe: the numbers of the rules of images.
use Rattle.std.specs.Prelude.{ℕ, Option, Some, None}
use Rattle.image_reader.specs.declared.fault.ImageFault.{ImageFault}
use Rattle.image_reader.specs.declared.fault.ImageFault.TheVariants.{Short, NotElf32Le, NotExecutable, NotRiscv, BadTable, SegmentOutsideFile, FileLargerThanMemory, SegmentPastEnd, SegmentsOverlap, EntryMisaligned, ImageTooLarge, Memory}

-- the number of the rule that is broken, and none if memory ran out
abbrev pub image_rule : ImageFault → Option ℕ
image_rule Short = Some 1
image_rule NotElf32Le = Some 2
image_rule NotExecutable = Some 3
image_rule NotRiscv = Some 4
image_rule BadTable = Some 5
image_rule SegmentOutsideFile = Some 6
image_rule FileLargerThanMemory = Some 7
image_rule SegmentPastEnd = Some 8
image_rule SegmentsOverlap = Some 9
image_rule EntryMisaligned = Some 10
image_rule ImageTooLarge = Some 11
image_rule Memory = None
