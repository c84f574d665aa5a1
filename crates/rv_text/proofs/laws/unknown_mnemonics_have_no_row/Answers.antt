use Rattle.rv_text.proofs.meaning.UnknownLemmas.{unknown}
use Rattle.rv_text.proofs.laws.unknown_mnemonics_have_no_row.Goals as goal

pub returns : goal.returns
returns c = unknown
