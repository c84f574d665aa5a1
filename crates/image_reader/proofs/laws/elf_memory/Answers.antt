use Rattle.image_reader.specs.Elf.{byte_of_loads}
use Rattle.image_reader.proofs.OverlapLemmas.{byte_of-whichever}
use Rattle.image_reader.proofs.laws.elf_memory.Goals as goal

pub returns-clause-bytes : goal.returns-clause-bytes
returns-clause-bytes c = λ file loads a below. c.contents_of_a_function.ensures.inside (byte_of_loads file loads) a below

pub returns-clause-whichever : goal.returns-clause-whichever
returns-clause-whichever c = byte_of-whichever
