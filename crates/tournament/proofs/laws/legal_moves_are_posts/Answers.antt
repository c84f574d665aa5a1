use Rattle.tournament.proofs.few.SpareLemmas.{legal-lists-are-posts}
use Rattle.tournament.proofs.laws.legal_moves_are_posts.Goals as goal

pub returns : goal.returns
returns c = legal-lists-are-posts
