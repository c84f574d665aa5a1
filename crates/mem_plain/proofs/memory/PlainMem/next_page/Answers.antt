use Rattle.std.proofs.Common.{◌^◌, ℕ, Option, Some, None, ⊎_elim}
use Rattle.std.proofs.lemmas.Bool.{cases_lt}
use Rattle.mem_plain.specs.Contents.{Contents, IsNextUsed, IsNextUsedBelow}
use Rattle.mem_plain.specs.Memory.{IsMemory}
use Rattle.mem_plain.proofs.UsedLemmas.{none_beyond}
use Rattle.mem_plain.proofs.memory.PlainMem.next_page.Goals as goal

-- beyond the last page none is used
of-all : (m : Contents) (from : ℕ) (o : Option ℕ) → IsMemory m → IsNextUsedBelow m from (2 ^ 20) o → IsNextUsed m from o
of-all m from (Some page) memory is = is.0
of-all m from None memory is = λ q after. ⊎_elim (λ below. is q after below) (λ beyond. none_beyond m memory q beyond) (cases_lt q (2 ^ 20))

pub returns-clause-next : goal.returns-clause-next
returns-clause-next c = of-all c.args.self.now c.args.from c.next_page_below.result c.is_memory.ensures c.next_page_below.ensures.next
