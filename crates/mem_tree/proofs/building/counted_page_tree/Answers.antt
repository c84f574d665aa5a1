use Rattle.std.proofs.Common.{true≢false, sym, ◌∙◌}
use Rattle.mem_tree.proofs.PageLemmas.{unused-page}
use Rattle.mem_tree.proofs.building.counted_page_tree.Goals as goal

pub returns-then-not-is_used : goal.returns-then-not-is_used
returns-then-not-is_used g c = record { made = tt; page_of = unused-page c.args.of.now.mem.now c.args.of.now.page (λ used. true≢false (sym (c.is_used.ensures.1 used) ∙ c.if-not-is_used.true)) }
