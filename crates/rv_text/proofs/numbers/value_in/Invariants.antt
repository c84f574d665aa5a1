use Rattle.std.proofs.Common.{◌≡◌, ◌≤◌, drop}
use Rattle.std.specs.Str.Parse.{digits_value, digits_value_after}
use Rattle.rv_text.specs.Capped.{capped}
use Rattle.rv_text.proofs.numbers.value_in.Given as goal

abbrev pub invariant-digits : goal.invariant-digits
invariant-digits l = record { same : capped (digits_value_after l.base l.n (drop l.c-index l.digits)) ≡ capped (digits_value l.base l.digits); most : l.n ≤ 4294967296 }
