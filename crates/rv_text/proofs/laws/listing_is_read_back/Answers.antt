use Rattle.rv_text.proofs.read_back.ListingLemmas.{assembled-listing}
use Rattle.rv_text.proofs.laws.listing_is_read_back.Goals as goal

pub returns : goal.returns
returns c = assembled-listing c.one_reading.ensures.reading
