use Rattle.std.proofs.Common.{◌∙◌, sym}
use Rattle.mem_tree.proofs.PageLemmas.{page_chunk-is}
use Rattle.mem_tree.proofs.page.chunk_of.Goals as goal

pub returns : goal.returns
returns c = c.chunk.ensures ∙ sym (page_chunk-is c.args.of.now.mem.now c.args.of.now.page c.args.j)
