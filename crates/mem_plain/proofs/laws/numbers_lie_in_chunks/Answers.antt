use Rattle.mem_plain.proofs.ChunkLemmas.{chunk-number, chunk-stored, chunk-elsewhere}
use Rattle.mem_plain.proofs.laws.numbers_lie_in_chunks.Goals as goal

pub returns-clause-read : goal.returns-clause-read
returns-clause-read c = chunk-number

pub returns-clause-stored : goal.returns-clause-stored
returns-clause-stored c = chunk-stored

pub returns-clause-elsewhere : goal.returns-clause-elsewhere
returns-clause-elsewhere c = chunk-elsewhere
