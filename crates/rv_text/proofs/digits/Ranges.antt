-- Ranges of operands.
use Rattle.std.proofs.Common.{◌≡◌, true, ℤ, pos}
use Rattle.std.proofs.lemmas.Bool.{false≢true}
use Rattle.rv_text.specs.Fields.{within, is_in, is_register}
use Rattle.rv_text.specs.declared.field.Field.{Field}
use Rattle.rv_text.specs.declared.field.Field.TheVariants.{Rd, Rs1, Rs2}

-- a register's number is in the range of each field where registers stand
pub register-range : (f : Field) (z : ℤ) → is_register f ≡ true → within (pos 0) (pos 31) z ≡ true → is_in f z ≡ true
register-range Rd z h k = k
register-range Rs1 z h k = k
register-range Rs2 z h k = k
register-range _ z h k = elim (false≢true h) [ ]

pub ruleset register_rules = register-range
