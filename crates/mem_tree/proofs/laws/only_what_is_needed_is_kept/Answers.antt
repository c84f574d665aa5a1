use Rattle.mem_tree.proofs.KeptLemmas.{page-needed, upper-needed}
use Rattle.mem_tree.proofs.laws.only_what_is_needed_is_kept.Goals as goal

pub returns-clause-pages : goal.returns-clause-pages
returns-clause-pages c = page-needed

pub returns-clause-upper : goal.returns-clause-upper
returns-clause-upper c = upper-needed
