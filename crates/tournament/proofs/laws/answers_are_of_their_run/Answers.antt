use Rattle.tournament.proofs.safety.TrueMoveLemmas.{posts-of-a-run}
use Rattle.tournament.proofs.safety.TruthfulLemmas.{scripts-of-a-run}
use Rattle.tournament.proofs.laws.answers_are_of_their_run.Goals as goal

pub returns : goal.returns
returns c = record { posts = posts-of-a-run c.bisection_laws.ensures; scripts = scripts-of-a-run c.bisection_laws.ensures }
