use Rattle.guests.proofs.Adler32Lemmas.{program_computes}
use Rattle.guests.proofs.Adler32FileLemmas.{adler32_image, loads, file_computes}
use Rattle.guests.proofs.laws.adler32_is_computed.Goals as goal

pub returns-clause-program : goal.returns-clause-program
returns-clause-program c = program_computes

pub returns-clause-loads : goal.returns-clause-loads
returns-clause-loads c = (adler32_image, loads)

pub returns-clause-file : goal.returns-clause-file
returns-clause-file c = file_computes c.elf_memory.ensures.bytes program_computes
