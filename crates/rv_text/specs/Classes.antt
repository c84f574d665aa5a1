-- Derived: the classes of characters, as the code names them.
use Rattle.std.specs.Prelude.{ℕ, Bool}
use Rattle.std.specs.Char.{is_ascii_digit, is_ascii_hexdigit}
use Rattle.rv_text.specs.Characters.{is_blank, is_of_name, is_of_mnemonic, is_of_operand, is_of_code, is_of_line}
use Rattle.rv_text.specs.declared.class.Class.{Class}
use Rattle.rv_text.specs.declared.class.Class.TheVariants.{Blank, Decimal, Hexadecimal, Name, Mnemonic, Operand, Code, Line}

abbrev pub is_of : Class → ℕ → Bool
is_of Blank c = is_blank c
is_of Decimal c = is_ascii_digit c
is_of Hexadecimal c = is_ascii_hexdigit c
is_of Name c = is_of_name c
is_of Mnemonic c = is_of_mnemonic c
is_of Operand c = is_of_operand c
is_of Code c = is_of_code c
is_of Line c = is_of_line c
