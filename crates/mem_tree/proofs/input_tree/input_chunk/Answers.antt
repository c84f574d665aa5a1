use Rattle.std.proofs.Common.{rules}
use Rattle.mem_tree.proofs.LeafLemmas.{chunk-filled}
use Rattle.mem_tree.proofs.input_tree.input_chunk.Goals as goal

pub returns : goal.returns
returns c = chunk-filled c.args.input.now c.args.k c.bytes.chunk c.bytes.invariant.0 (search rules)
