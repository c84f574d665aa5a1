use Rattle.std.proofs.Common.{subst}
use Rattle.mem_plain.specs.Memory.{IsMemory}
use Rattle.mem_plain.specs.Pages.{page_in}
use Rattle.mem_plain.proofs.PagesLemmas.{pages_memory}
use Rattle.mem_plain.proofs.memory.PlainMem.is_memory.Goals as goal

pub returns : goal.returns
returns c = subst IsMemory c.self.view_is (pages_memory (page_in c.self.inside.pages.tables.items))
