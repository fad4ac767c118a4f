-- The kinds of bytes of an instance file, the lines of a text and their kinds, and the numbers on a line.
use Rattle.std.specs.Prelude.{ℕ, Bool, not, ◌&&◌, ◌||◌, ◌==◌, nat_le, List, [], ◌∷◌, ◌++◌, map, filter, if◌then◌else◌}
use Rattle.std.specs.List.{list_any, slice_split}
use Rattle.std.specs.Str.Parse.{digits_value}
use Rattle.pfs_base.specs.Lists.{is_empty, last_of, all_but_last}

-- '0' to '9'
abbrev pub is_digit : ℕ → Bool
is_digit b = nat_le 48 b && nat_le b 57

-- space, tab, carriage return
abbrev pub is_blank : ℕ → Bool
is_blank b = b == 32 || b == 9 || b == 13

abbrev pub is_line_end : ℕ → Bool
is_line_end b = b == 10

-- every byte of another kind
abbrev pub is_word_byte : ℕ → Bool
is_word_byte b = not (is_digit b || is_blank b || is_line_end b)

-- the parts of a list that an element which passes the test ends
unfoldable pub ended_parts : (ℕ → Bool) → List ℕ → List (List ℕ)
ended_parts passes bytes = all_but_last (slice_split passes bytes)

-- the part of a list after the last element that passes the test
unfoldable pub open_part : (ℕ → Bool) → List ℕ → List ℕ
open_part passes bytes = last_of [] (slice_split passes bytes)

-- the lines that a byte 10 ends, without it
abbrev pub ended_lines : List ℕ → List (List ℕ)
ended_lines text = ended_parts is_line_end text

-- what follows the last byte 10
abbrev pub open_line : List ℕ → List ℕ
open_line text = open_part is_line_end text

-- the lines of a text: those that a byte 10 ends, and what follows the last byte 10, if it isn't empty
unfoldable pub lines : List ℕ → List (List ℕ)
unfolding ended_parts open_part
lines text = ended_lines text ++ (if is_empty (open_line text) then [] else open_line text ∷ [])

-- The kinds of a line: plain if it has no digit, mixed if it has a digit and a word byte, and else a number line.
abbrev pub is_mixed : List ℕ → Bool
is_mixed line = list_any is_digit line && list_any is_word_byte line

abbrev pub is_number_line : List ℕ → Bool
is_number_line line = list_any is_digit line && not (list_any is_word_byte line)

abbrev pub is_no_digit : ℕ → Bool
is_no_digit byte = not (is_digit byte)

-- the values of runs of digits, in decimal; empty runs are left out
abbrev pub values : List (List ℕ) → List ℕ
values runs = map (digits_value 10) (filter (λ run. not (is_empty run)) runs)

-- the numbers on a line: the values of its longest runs of digits
unfoldable pub numbers : List ℕ → List ℕ
numbers line = values (slice_split is_no_digit line)

-- the numbers on a line that a byte after them has ended
unfoldable pub ended_numbers : List ℕ → List ℕ
unfolding ended_parts
ended_numbers line = values (ended_parts is_no_digit line)

-- the digits at the end of a text, which no byte has ended
abbrev pub last_digits : List ℕ → List ℕ
last_digits text = open_part is_no_digit text
