use Rattle.bisect_game.proofs.RoundLemmas.{rounds_narrow, proof_round_closes}
use Rattle.bisect_game.proofs.TruthLemmas.{true_answers_fit}
use Rattle.bisect_game.proofs.RightLemmas.{invariant_is_kept, true_proofs_prove}
use Rattle.bisect_game.proofs.FewLemmas.{rounds_are_few}
use Rattle.bisect_game.proofs.HeldLemmas.{settled_is_held}
use Rattle.bisect_game.proofs.PlayedLemmas.{played_over_answers}
use Rattle.bisect_game.proofs.laws.bisection_laws.Goals as goal

pub returns : goal.returns
returns c = record { narrow = rounds_narrow; proof = proof_round_closes; invariant = invariant_is_kept; fits = true_answers_fit; proofs = true_proofs_prove; few = rounds_are_few; held = settled_is_held; played = played_over_answers }
