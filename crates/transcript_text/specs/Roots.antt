-- To believe. The lines of the roots of states. Numbers are decimal, roots hexadecimal in lower case, and each line ends with a line feed.
use Rattle.std.specs.Prelude.{ℕ, zero, suc, List, [], ◌++◌, codes, decimal}
use Rattle.hex.specs.Hex.{encode_lower}

-- the line of a root, with its number
abbrev pub root_line : ℕ → List ℕ → List ℕ
root_line number root = decimal number ++ (codes " " ++ (encode_lower root ++ codes "\n"))

-- the lines of the first roots, the first of which has the number 0
abbrev pub root_lines : (ℕ → List ℕ) → ℕ → List ℕ
root_lines root zero = []
root_lines root (suc number) = root_lines root number ++ root_line number (root number)
