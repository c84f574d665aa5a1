use Rattle.rv_text.specs.Lines.{word_in}
use Rattle.rv_text.specs.Causes.{HasFault}
use Rattle.rv_text.proofs.meaning.CauseLemmas.{statement-judged, is-least}
use Rattle.rv_text.proofs.laws.least_fault_counts.Goals as goal

pub returns : goal.returns
returns c = λ distances text k. is-least (HasFault distances text) (word_in distances text) k (statement-judged distances text)
