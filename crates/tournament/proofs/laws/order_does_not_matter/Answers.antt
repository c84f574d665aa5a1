use Rattle.tournament.proofs.StageLemmas as stage
use Rattle.tournament.proofs.order.JournalLemmas as journal
use Rattle.tournament.proofs.laws.order_does_not_matter.Goals as goal

pub returns : goal.returns
returns c = record { settled = stage.one_record c.bisection_laws.ensures; moves = journal.order_does_not_matter c.bisection_laws.ensures }
