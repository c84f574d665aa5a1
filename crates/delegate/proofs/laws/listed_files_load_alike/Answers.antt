use Rattle.delegate.proofs.ListedLemmas.{listed-alike}
use Rattle.delegate.proofs.laws.listed_files_load_alike.Goals as goal

pub returns : goal.returns
returns c = listed-alike c.listing_is_read_back.ensures c.contents_of_a_function.ensures.alike c.contents_of_a_function.ensures.nothing c.contents_of_a_function.ensures.laid
