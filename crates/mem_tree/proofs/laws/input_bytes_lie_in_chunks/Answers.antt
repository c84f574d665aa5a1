use Rattle.mem_tree.proofs.LeafLemmas.{chunk-size, chunk-byte}
use Rattle.mem_tree.proofs.laws.input_bytes_lie_in_chunks.Goals as goal

pub returns : goal.returns
returns c = record { size = chunk-size; byte = chunk-byte }
