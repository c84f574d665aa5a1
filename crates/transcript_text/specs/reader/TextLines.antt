-- To believe. The lines of a text.
use Rattle.std.specs.Prelude.{ℕ, ◌==◌, List, [], ◌∷◌, Option, Some, None, if◌then◌else◌}

-- a text by its lines
pub data Lines : Type 0 where
  -- the bytes behind the last line feed
  tail : List ℕ → Lines
  -- a line, without its line feed, and the lines behind it
  line : List ℕ → Lines → Lines

abbrev pub begun_with : ℕ → Lines → Lines
begun_with b (tail t) = tail (b ∷ t)
begun_with b (line l ls) = line (b ∷ l) ls

-- each byte 10 ends a line
abbrev pub lines_of : List ℕ → Lines
lines_of [] = tail []
lines_of (b ∷ bs) = if b == 10 then line [] (lines_of bs) else begun_with b (lines_of bs)

abbrev pub cut_front : ℕ → Option (List ℕ × List ℕ) → Option (List ℕ × List ℕ)
cut_front b None = None
cut_front b (Some x) = Some (b ∷ x.0, x.1)

-- the bytes before the first byte of this value, and those behind it
abbrev pub cut_at : ℕ → List ℕ → Option (List ℕ × List ℕ)
cut_at c [] = None
cut_at c (b ∷ bs) = if b == c then Some ([], bs) else cut_front b (cut_at c bs)
