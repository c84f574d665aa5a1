use Rattle.std.proofs.Common.{◌≡◌, ◌≤◌, drop}
use Rattle.transcript_text.specs.reader.Fields.{digits_at}
use Rattle.transcript_text.proofs.reader.fields.read_digits.Given as goal

abbrev pub invariant-digits : goal.invariant-digits
invariant-digits l = record {
  is : digits_at l.so_far l.bytes ≡ digits_at l.number (drop l.i l.bytes);
  small : l.number ≤ 4294967296;
}
