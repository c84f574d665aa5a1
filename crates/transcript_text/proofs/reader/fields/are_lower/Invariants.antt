use Rattle.std.proofs.Common.{◌≡◌, drop}
use Rattle.transcript_text.specs.reader.Fields.{are_lower}
use Rattle.transcript_text.proofs.reader.fields.are_lower.Given as goal

abbrev pub invariant-digits : goal.invariant-digits
invariant-digits l = are_lower l.digits ≡ are_lower (drop l.digit-index l.digits)
