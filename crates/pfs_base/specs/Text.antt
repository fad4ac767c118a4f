-- Printed lines.
use Rattle.std.specs.Prelude.{ℕ, zero, suc, List, [], ◌∷◌, ◌++◌, map, decimal}
use Rattle.std.specs.List.{join_with_byte}

-- the text and byte 10, which ends a line
abbrev pub with_line_end : List ℕ → List ℕ
with_line_end text = text ++ 10 ∷ []

-- the numbers in decimal digits, with single spaces between them
abbrev pub spaced : List ℕ → List ℕ
spaced numbers = join_with_byte 32 (map decimal numbers)

-- a number at a place of a line of numbers, with a space before it unless it is the first
abbrev pub entry : ℕ → ℕ → List ℕ
entry zero number = decimal number
entry (suc place) number = 32 ∷ decimal number

-- a line: a name, a space and a number
abbrev pub named_number : List ℕ → ℕ → List ℕ
named_number name number = with_line_end (name ++ 32 ∷ decimal number)

-- a line: a number between two texts
abbrev pub number_between : List ℕ → ℕ → List ℕ → List ℕ
number_between before number after = with_line_end (before ++ decimal number ++ after)
