-- Lines and numbers of a text: one byte more, and where lines begin and end.
use Rattle.pfs_layout.proofs.Words.{◌≡◌, ℕ, Bool, not, List, [], ◌∷◌, ◌++◌, map, refl, ◌∙◌, ap, if◌then◌else◌, inl, inr}
use Rattle.pfs_layout.proofs.Words.{arith, cases_Bool, map-append, digits_value, is_empty, last_of, all_but_last, true}
use Rattle.pfs_layout.proofs.Words.{all_and_last, ended_parts, open_part, is_no_digit, numbers, ended_numbers, false}
use Rattle.pfs_layout.proofs.Words.{last_digits, length, sym, ◌⊎◌, append_assoc, append-nil, lines, length-append}
use Rattle.pfs_layout.proofs.Words.{nil_from_length, is_line_end, ended_lines, open_line, All, drop, take, get_or}
use Rattle.pfs_layout.proofs.Words.{cases_lt, common_steps, ◌+◌}
use Rattle.std.specs.List.{slice_split, position_or_len}
use Rattle.std.proofs.lemmas.List.Elements.{filter-append}
use Rattle.pfs_base.proofs.Published.Lists.{all_but_last-push, last_of-push}
use Rattle.pfs_layout.specs.Lines.{values}
use Rattle.std.proofs.lemmas.List.Splits.{slice_split_none, slice_split_at}
use Rattle.std.proofs.lemmas.List.Sums.{split_at_first, fails_before_first, passes_at_first}

-- a list of parts that isn't empty
pub record HasLines (parts : List (List ℕ)) : Type 0 where
  pub first : List ℕ
  pub more : List (List ℕ)
  pub is : parts ≡ first ∷ more

pub split_some : (p : ℕ → Bool) (xs : List ℕ) → HasLines (slice_split p xs)
split_some p [] = record { first = []; more = []; is = refl }
split_some p (x ∷ xs) =
    let s = split_some p xs in
    elim (cases_Bool (p x)) [
      | inl breaks ↦ record { first = []; more = slice_split p xs; is = rw breaks }
      | inr stays ↦ record { first = x ∷ s.first; more = s.more; is = rw (stays, s.is) }
    ]

pub split_is : (p : ℕ → Bool) (xs : List ℕ) → slice_split p xs ≡ ended_parts p xs ++ open_part p xs ∷ []
unfolding ended_parts open_part
split_is p xs = let s = split_some p xs in rw s.is (all_and_last [] s.first s.more)

-- one more element is added to the last part, or ends it
split-push : (p : ℕ → Bool) (xs : List ℕ) (b : ℕ)
    → slice_split p (xs ++ b ∷ []) ≡ (if p b then slice_split p xs ++ [] ∷ []
    else all_but_last (slice_split p xs) ++ (last_of [] (slice_split p xs) ++ b ∷ []) ∷ [])
split-push p [] b = refl
split-push p (x ∷ xs) b = let s = split_some p xs in rw (split-push p xs b, s.is) (grind arith)

pub ended_parts-push : (p : ℕ → Bool) (xs : List ℕ) (b : ℕ)
    → ended_parts p (xs ++ b ∷ []) ≡ (if p b then ended_parts p xs ++ open_part p xs ∷ [] else ended_parts p xs)
unfolding ended_parts
ended_parts-push p xs b = grind (arith, split-push, split_is, all_but_last-push {A = List ℕ})

pub open_part-push : (p : ℕ → Bool) (xs : List ℕ) (b : ℕ)
    → open_part p (xs ++ b ∷ []) ≡ (if p b then [] else open_part p xs ++ b ∷ [])
unfolding open_part
open_part-push p xs b = grind (arith, split-push, last_of-push {A = List ℕ})

-- the numbers on a line are those that were ended and the unfinished one, if there is one
pub numbers_is : (line : List ℕ) → numbers line ≡ ended_numbers line ++ values (last_digits line ∷ [])
unfolding numbers ended_numbers
numbers_is line =
    ap values (split_is is_no_digit line)
    ∙ ap (map (digits_value 10)) (filter-append (λ run. not (is_empty run)) (ended_parts is_no_digit line) _)
    ∙ map-append (digits_value 10) _ _

-- a byte that isn't a digit ends the number
pub ended_numbers-push : (line : List ℕ) (b : ℕ)
    → ended_numbers (line ++ b ∷ []) ≡ (if is_no_digit b then numbers line else ended_numbers line)
unfolding numbers ended_numbers
ended_numbers-push line b = grind (arith, ended_parts-push, split_is)

-- ---- where lines begin and end

-- no byte of the line is a line end
abbrev pub IsOpen : List ℕ → Type 0
IsOpen line = All (λ b. is_line_end b ≡ false) line

-- what follows the last line end, if it isn't empty
abbrev pub last_line : List ℕ → List (List ℕ)
last_line line = if is_empty line then [] else line ∷ []

pub lines-parts : (text : List ℕ) → lines text ≡ ended_lines text ++ last_line (open_line text)
unfolding lines
lines-parts text = refl

pub lines-open : (line : List ℕ) → IsOpen line → lines line ≡ last_line line
unfolding lines ended_parts open_part
lines-open line none = rw (slice_split_none is_line_end line none)

-- a line, its line end and the rest
module _ (line : List ℕ) (c : ℕ) (rest : List ℕ) (none : IsOpen line) (ends : is_line_end c ≡ true) where
  pub lines-line : lines (line ++ c ∷ rest) ≡ line ∷ lines rest
  unfolding lines ended_parts open_part
  lines-line =
      let s = split_some is_line_end rest in rw (slice_split_at is_line_end line c rest none ends, s.is)

  pub open_line-line : open_line (line ++ c ∷ rest) ≡ open_line rest
  unfolding open_part
  open_line-line =
      let s = split_some is_line_end rest in rw (slice_split_at is_line_end line c rest none ends, s.is)

-- a prefix of the text has these lines
pub record LinesFront (text : List ℕ) (some : List (List ℕ)) : Type 0 where
  pub front : List ℕ
  pub rest : List ℕ
  pub whole : text ≡ front ++ rest
  pub are : lines front ≡ some
  pub ended : (open_line front ≡ []) ⊎ (rest ≡ [])

pub front_of_lines : (text : List ℕ) (some more : List (List ℕ)) → lines text ≡ some ++ more → LinesFront text some
unfolding lines ended_parts open_part
front_of_lines text [] more e = record { front = []; rest = text; whole = refl; are = refl; ended = inl refl }
front_of_lines text (line ∷ some) more e =
    let at : ℕ = position_or_len is_line_end text in
    let shorter = front_of_lines (drop (at + 1) text) some more in
    elim (cases_lt at (length text)) [
      | inr none ↦
          let unended : IsOpen text = λ k d h. fails_before_first is_line_end text k d (omega arith) in
          let only : last_line text ≡ line ∷ (some ++ more) = rw (lines-open text unended) at e in
          elim (cases_Bool (is_empty text)) [
            | inl empty ↦ let no_line = rw empty at only in absurd (cc)
            | inr filled ↦
                let one = rw filled at only in
                let nothing = nil_from_length some (omega (arith, ap length one, length-append some more)) in
                let same : text ≡ line = cc in
                record {
                  front = text;
                  rest = [];
                  whole = sym (append-nil text);
                  are = rw (lines-open text unended, filled, nothing, same);
                  ended = inr refl;
                }
          ]
      | inl within ↦
          let first : List ℕ = take at text in
          let c : ℕ = get_or text at 0 in
          let is : text ≡ first ++ c ∷ drop (at + 1) text = split_at_first is_line_end text 0 within in
          let none : IsOpen first = λ k d h.
          let fails = fails_before_first is_line_end text k d (grind (arith, common_steps)) in
          grind (arith, common_steps) in
          let ends = passes_at_first is_line_end text 0 within in
          let parts = sym (lines-line first c (drop (at + 1) text) none ends) ∙ ap lines (sym is) ∙ e in
          let f = shorter (cc) in
          let same : first ≡ line = cc in
          record {
            front = first ++ c ∷ f.front;
            rest = f.rest;
            whole = is ∙ rw (append_assoc first (c ∷ f.front) f.rest, ← f.whole) refl;
            are = rw (lines-line first c f.front none ends, f.are, same);
            ended = rw (open_line-line first c f.front none ends) f.ended;
          }
    ]
