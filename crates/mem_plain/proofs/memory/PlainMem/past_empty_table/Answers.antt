use Rattle.std.proofs.Common.{sym, subst, ◌∙◌}
use Rattle.mem_plain.specs.Contents.{IsUsed}
use Rattle.mem_plain.proofs.UsedLemmas.{unused_table}
use Rattle.mem_plain.proofs.memory.PlainMem.past_empty_table.Goals as goal

pub returns-else-has_table-clause-unused : goal.returns-else-has_table-clause-unused
returns-else-has_table-clause-unused c q after before =
    subst (λ m. ¬ IsUsed m q) c.self.view_is (unused_table c.self.inside.pages.tables.items c.args.number (sym c.has_table.ensures ∙ c.if-has_table.false) q after before)
