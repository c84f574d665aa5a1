use Rattle.std.proofs.Common.{◌≡◌, ◌++◌, drop, string_bytes}
use Rattle.rv_text.specs.Listing.{listing}
use Rattle.rv_text.proofs.listing.list_text.Given as goal

abbrev pub invariant-loop-word : goal.invariant-loop-word
invariant-loop-word l = string_bytes l.text ++ listing (drop l.word-index l.words) ≡ listing l.words
