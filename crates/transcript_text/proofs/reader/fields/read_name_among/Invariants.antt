use Rattle.std.proofs.Common.{◌≡◌, drop}
use Rattle.transcript_text.specs.reader.Fields.{name_among}
use Rattle.transcript_text.proofs.reader.fields.read_name_among.Given as goal

abbrev pub invariant-names : goal.invariant-names
invariant-names l = name_among l.names l.bytes ≡ name_among (drop l.name-index l.names) l.bytes
