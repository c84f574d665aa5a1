use Rattle.mem_plain.proofs.MemoryLemmas.{same_memory, made_memory, stored_memory}
use Rattle.mem_plain.proofs.laws.memories_are_their_bytes.Goals as goal

pub returns-clause-same : goal.returns-clause-same
returns-clause-same c = same_memory

pub returns-clause-made : goal.returns-clause-made
returns-clause-made c = made_memory

pub returns-clause-stored : goal.returns-clause-stored
returns-clause-stored c = stored_memory
