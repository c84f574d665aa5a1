use Rattle.std.proofs.Common.{◌≡◌, ◌++◌, ◌+◌, drop, string_bytes}
use Rattle.transcript_text.specs.MoveLists.{moves_of_claims}
use Rattle.transcript_text.specs.FullLines.{moves_text, AreWritten}
use Rattle.transcript_text.proofs.refereed.add_claim_moves.Given as goal

abbrev pub invariant-claims : goal.invariant-claims
invariant-claims l = record {
  text : string_bytes l.text ++ moves_text (moves_of_claims (l.i + 1) (drop l.i l.claims)) ≡ string_bytes l.fn.text ++ moves_text (moves_of_claims 1 l.claims);
  written : AreWritten (moves_of_claims (l.i + 1) (drop l.i l.claims)) → AreWritten (moves_of_claims 1 l.claims);
}
