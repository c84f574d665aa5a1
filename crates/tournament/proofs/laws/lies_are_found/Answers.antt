use Rattle.tournament.proofs.safety.LieLemmas as lemmas
use Rattle.tournament.proofs.laws.lies_are_found.Goals as goal

pub returns : goal.returns
returns c = record {
  part = lemmas.disputes-end-where-runs-part c.bisection_laws.ensures c.disputes_end_where_runs_part.ensures.ends;
  found = lemmas.lies-are-found c.bisection_laws.ensures c.disputes_end_where_runs_part.ensures.ends c.disputes_end_where_runs_part.ensures.lie;
  scripts = lemmas.lies-of-scripts-are-found c.bisection_laws.ensures c.disputes_end_where_runs_part.ensures.ends c.disputes_end_where_runs_part.ensures.lie c.legal_moves_are_posts.ensures c.answers_are_of_their_run.ensures.scripts;
}
