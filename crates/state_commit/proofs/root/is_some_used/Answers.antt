use Rattle.std.proofs.Common.{◌+◌, sym, ◌∙◌}
use Rattle.state_commit.proofs.ScratchLemmas.{none-used}
use Rattle.state_commit.proofs.root.is_some_used.Goals as goal

pub returns : goal.returns
returns c = λ none. none-used c.args.mem.now c.args.first (c.args.first + c.args.width) c.next_page_below.result (sym c.is_some.ensures ∙ none) c.next_page_below.ensures.next
