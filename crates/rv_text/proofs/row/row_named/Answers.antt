use Rattle.rv_text.proofs.RowLemmas.{row-fits}
use Rattle.rv_text.proofs.row.row_named.Goals as goal

pub returns-clause-fits : goal.returns-clause-fits
returns-clause-fits c = rw c.first_row.ensures (row-fits c.args.name.now)
