-- To believe: numbers and registers as they are written.
use Rattle.std.specs.Prelude.{ℕ, ◌==◌, ◌&&◌, ◌||◌, Bool, false, not, if◌then◌else◌, List, [], ◌∷◌, drop, ℤ, pos, neg_ℤ, Option, Some, None, option_map, option_and_then, nat_lt}
use Rattle.std.specs.List.{list_all}
use Rattle.std.specs.Char.{is_ascii_digit, is_ascii_hexdigit}
use Rattle.std.specs.Str.Parse.{digits_value}
use Rattle.rv_text.specs.Characters.{begins, is_empty}

-- decimal digits, of which the first is 0 only if it is the only one
abbrev pub is_natural : List ℕ → Bool
is_natural [] = false
is_natural (c ∷ cs) = list_all is_ascii_digit (c ∷ cs) && (not (c == 48) || is_empty cs)

-- the number that they are
abbrev pub natural_of_text : List ℕ → Option ℕ
natural_of_text text = if is_natural text then Some (digits_value 10 text) else None

-- one or more hexadecimal digits, of either case, as a number
abbrev pub hex_of_text : List ℕ → Option ℕ
hex_of_text text = if not (is_empty text) && list_all is_ascii_hexdigit text then Some (digits_value 16 text) else None

-- `x`
abbrev pub is_x : ℕ → Bool
is_x c = c == 120

-- a number: decimal with an optional `-` before it, or `0x` and hexadecimal digits
abbrev pub number_of_text : List ℕ → Option ℤ
number_of_text [] = None
number_of_text (c ∷ cs) =
    if c == 45 then option_map (λ n. neg_ℤ (pos n)) (natural_of_text cs)
    else if (c == 48) && begins is_x cs then option_map pos (hex_of_text (drop 1 cs))
    else option_map pos (natural_of_text (c ∷ cs))

-- the number of a register
abbrev pub below_32 : ℕ → Option ℤ
below_32 n = if nat_lt n 32 then Some (pos n) else None

-- a register: `x0` to `x31`
abbrev pub register_of_text : List ℕ → Option ℤ
register_of_text [] = None
register_of_text (c ∷ cs) = if is_x c then option_and_then below_32 (natural_of_text cs) else None
