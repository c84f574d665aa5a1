use Rattle.tournament.proofs.safety.TrueMoveLemmas as lemmas
use Rattle.tournament.proofs.laws.true_moves_are_true_answers.Goals as goal

pub returns : goal.returns
returns c = record { answers = lemmas.true_moves_are_true_answers c.bisection_laws.ensures; safe = lemmas.true_moves_are_safe c.bisection_laws.ensures }
