-- To believe: the words of a text, or its fault. The first pass tests each line by itself and gives each label its place. The second pass
-- reads the lines again, with the distances to these places, and gives the words.
use Rattle.std.specs.Prelude.{ℕ, ◌+◌, ◌-ℤ◌, if◌then◌else◌, List, [], ◌∷◌, pos, bytes_eq, Option, Some, None, option_map, is_some, Result, Ok, Err}
use Rattle.rd_base.specs.Results.{◌>>=◌, map_fault}
use Rattle.rv_text.specs.Characters.{source_lines}
use Rattle.rv_text.specs.Operands.{Distances}
use Rattle.rv_text.specs.Lines.{code_in, label_in, statement_in, word_in}
use Rattle.rv_text.specs.Faults.{fault}
use Rattle.rv_text.specs.declared.fault.FaultKind.{FaultKind}
use Rattle.rv_text.specs.declared.fault.FaultKind.TheVariants.{DefinedTwice}
use Rattle.rv_text.specs.declared.fault.AsmFault.{AsmFault}

-- the places that names stand for, in bytes from the first word
abbrev pub Names : Type 0
Names = List ℕ → Option ℕ

abbrev pub no_names : Names
no_names name = None

abbrev pub with_name : Names → List ℕ → ℕ → Names
with_name names name place other = if bytes_eq name other then Some place else names other

-- the place that a name stands for minus this place, in bytes
abbrev pub distances_from : Names → ℕ → Distances
distances_from names here name = option_map (λ there. pos there -ℤ pos here) (names name)

-- in the first pass, which doesn't know places yet, each name has the distance 0, which is in every target's range
abbrev pub near : Distances
near name = Some (pos 0)

-- the next word's place, after this line's
abbrev pub place_after : ℕ → Option ℕ → ℕ
place_after place (Some w) = place + 4
place_after place None = place

-- THE FIRST PASS: forms, mnemonics, registers, written numbers, and names defined twice

-- what is known before a line: the names so far, and the next word's place
pub record Pass : Type 0 where
  pub names : Names
  pub place : ℕ

abbrev pub pass : Names → ℕ → Pass
pass names place = record { names = names; place = place }

abbrev pub with_label : Names → Option (List ℕ) → ℕ → Result Names FaultKind
with_label names (Some name) place = if is_some (names name) then Err DefinedTwice else Ok (with_name names name place)
with_label names None place = Ok names

abbrev pub after_line : Pass → List ℕ → Result Pass FaultKind
after_line p line =
    word_in near (statement_in (code_in line)) >>= λ w. with_label p.names (label_in (code_in line)) p.place >>= λ names.
    Ok (pass names (place_after p.place w))

abbrev pub first_pass : ℕ → Pass → List (List ℕ) → Result Pass AsmFault
first_pass n p [] = Ok p
first_pass n p (l ∷ ls) = map_fault (fault n) (after_line p l) >>= λ q. first_pass (n + 1) q ls

-- THE SECOND PASS: names that nothing defines, and distances out of range

abbrev pub with_word : Option ℕ → List ℕ → List ℕ
with_word (Some w) ws = w ∷ ws
with_word None ws = ws

abbrev pub word_of_line : Names → ℕ → List ℕ → Result (Option ℕ) FaultKind
word_of_line names place line = word_in (distances_from names place) (statement_in (code_in line))

abbrev pub second_pass : ℕ → Names → ℕ → List (List ℕ) → Result (List ℕ) AsmFault
second_pass n names place [] = Ok []
second_pass n names place (l ∷ ls) = map_fault (fault n) (word_of_line names place l) >>= λ w. second_pass (n + 1) names (place_after place w) ls >>= λ ws. Ok (with_word w ws)

-- lines count from 1, places from 0
unfoldable pub assembled : List ℕ → Result (List ℕ) AsmFault
assembled text = first_pass 1 (pass no_names 0) (source_lines text) >>= λ p. second_pass 1 p.names 0 (source_lines text)
