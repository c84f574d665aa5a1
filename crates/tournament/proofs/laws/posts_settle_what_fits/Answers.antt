use Rattle.tournament.proofs.PostLemmas as lemmas
use Rattle.tournament.proofs.laws.posts_settle_what_fits.Goals as goal

pub returns : goal.returns
returns c = lemmas.posts_settle
