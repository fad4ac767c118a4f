-- A byte has a fault exactly where the numbers so far are no longer due, or a line of a body is mixed.
use Rattle.pfs_layout.proofs.Words.{◌≡◌, ℕ, ◌+◌, ◌-◌, ◌<◌, ◌≤◌, Bool, true, false, not, ◌&&◌, ◌||◌, List, [], ◌∷◌, ◌++◌}
use Rattle.pfs_layout.proofs.Words.{length, Option, Some, None, if◌then◌else◌, inl, inr, append-nil, append_assoc}
use Rattle.pfs_layout.proofs.Words.{length-append, nat_le, refl, sym, ◌∙◌, ap, arith, ◌⊎◌, list_any, is_none, option_or}
use Rattle.pfs_layout.proofs.Words.{digits_value, cases_Bool, le-ltb, nat_tests, length_push}
use Rattle.pfs_layout.proofs.Words.{list_any-append, list_all-append, fold-append, LONGEST_INPUT, Layout, LayoutFault}
use Rattle.pfs_layout.proofs.Words.{TooLong, is_digit, is_blank, is_line_end, is_empty, by_push, enumerate_from-append}
use Rattle.pfs_layout.proofs.Words.{Size, ended_parts, open_part, ended_lines, open_line, is_mixed, numbers}
use Rattle.pfs_layout.proofs.Words.{ended_numbers, last_digits, Due, is_due, due_at, are_due, Block, Now, seeking}
use Rattle.pfs_layout.proofs.Words.{inside, lost, Stand, completed, after_line, stand_after, stand, mixed_line, misfit}
use Rattle.pfs_layout.proofs.Words.{wrong_number, wrong_size, ends_early, fault_of_place, byte_fault, or_none}
use Rattle.std.proofs.Math.Bool.{and-true}
use Rattle.pfs_layout.proofs.Files.LineLemmas.{ended_parts-push, open_part-push, ended_numbers-push, numbers_is}
use Rattle.pfs_layout.proofs.Published.PlaceLemmas.{byte_fault-push}

-- ---- numbers that are due

-- with one number more
are_due-push : (layout : Layout) (size : Size) (ns : List ℕ) (n : ℕ)
    → are_due layout size (ns ++ n ∷ []) ≡ (are_due layout size ns && is_due (due_at layout size (length ns)) n)
unfolding are_due
are_due-push layout size ns n =
    rw (enumerate_from-append 0 ns (n ∷ []), list_all-append) (grind (arith, and-true))

misfit_is : (due : Due) (n offset : ℕ) → is_none (misfit due n offset) ≡ is_due due n
misfit_is due n offset = grind (arith, nat_tests)

-- ---- the number at the end of a line

-- the last digits of a text are those of its last line
same_last : (text : List ℕ) → last_digits text ≡ last_digits (open_line text)
unfolding open_part
same_last = by_push (λ text. last_digits text ≡ last_digits (open_line text)) refl
    (λ text b h. grind (arith, nat_tests, open_part-push))

-- the numbers of the last line are those that were ended, and the one of the last digits, if there are any
pub line_numbers : (text : List ℕ) → numbers (open_line text)
    ≡ (if is_empty (last_digits text) then ended_numbers (open_line text)
    else ended_numbers (open_line text) ++ digits_value 10 (last_digits text) ∷ [])
line_numbers text = rw (numbers_is (open_line text), same_last text) (grind (arith, append-nil {A = ℕ}))

-- these digits are on the last line: without a digit on it there are none
pub no_last : (text : List ℕ) → list_any is_digit (open_line text) ≡ false → is_empty (last_digits text) ≡ true
unfolding open_part
no_last =
    by_push (λ text. list_any is_digit (open_line text) ≡ false → is_empty (last_digits text) ≡ true) (λ none. refl)
    (λ text b h none. grind (arith, nat_tests, list_any-append {X = ℕ}, open_part-push))

-- the fault of the number of the last digits
abbrev pub number_fault : Layout → Now → List ℕ → Option LayoutFault
number_fault layout seeking text = None
number_fault layout (inside block) text = if is_empty (last_digits text)
    then None
    else misfit (due_at layout block.size (length block.numbers + length (ended_numbers (open_line text))))
    (digits_value 10 (last_digits text)) (length text - length (last_digits text))
number_fault layout lost text = None

-- all numbers of the line are due, exactly if the ended ones are and the number of the last digits has no fault
pub due_line : (layout : Layout) (block : Block) (text : List ℕ)
    → are_due layout block.size (block.numbers ++ numbers (open_line text))
    ≡ (are_due layout block.size (block.numbers ++ ended_numbers (open_line text))
    && is_none (number_fault layout (inside block) text))
due_line layout block text =
    rw (line_numbers text)
    (grind (arith, and-true, are_due-push, misfit_is, length-append {A = ℕ}, append_assoc {A = ℕ}))

-- ---- the fault of a byte

-- the faults that a byte within the limit can have
abbrev pub fault_within_limit : Layout → Now → List ℕ → ℕ → Option LayoutFault
fault_within_limit layout seeking text b = wrong_size layout text (Some b)
fault_within_limit layout (inside block) text b =
    option_or (mixed_line text (Some b)) (wrong_number layout block text (Some b))
fault_within_limit layout lost text b = None

-- no line of a body is mixed, and the ended numbers are due
abbrev pub is_good : Layout → Now → List ℕ → Bool
is_good layout seeking line = true
is_good layout (inside block) line =
    not (is_mixed line) && are_due layout block.size (block.numbers ++ ended_numbers line)
is_good layout lost line = false

abbrev pub GoodNow : Layout → Now → List ℕ → Type 0
GoodNow layout now line = is_good layout now line ≡ true

pub wrong_number_is : (layout : Layout) (block : Block) (text : List ℕ) (b : ℕ)
    → wrong_number layout block text (Some b)
    ≡ (if is_blank b || is_line_end b then number_fault layout (inside block) text else None)
unfolding wrong_number
wrong_number_is layout block text b = grind arith

-- in a block, a blank and a line end have the fault of the number that they end
pub gap_fault : (layout : Layout) (block : Block) (text : List ℕ) (b : ℕ) → (is_blank b || is_line_end b) ≡ true
    → fault_within_limit layout (inside block) text b ≡ number_fault layout (inside block) text
unfolding mixed_line
gap_fault layout block text b gap =
    rw (wrong_number_is layout block text b, gap) (grind (arith, nat_tests, list_any-append {X = ℕ}))

-- after a byte on the line all is good, exactly if it was before and the byte has no fault
pub good_on : (layout : Layout) (now : Now) (text : List ℕ) (b : ℕ) → is_line_end b ≡ false
    → is_good layout now (open_line text ++ b ∷ [])
    ≡ (is_good layout now (open_line text) && is_none (fault_within_limit layout now text b))
unfolding mixed_line wrong_size
good_on layout seeking text b on = rw on
good_on layout (inside block) text b on =
    let fault = wrong_number_is layout block text b in
    let none = no_last text in
    grind (arith, nat_tests, due_line layout block text, line_numbers text, ended_numbers-push, list_any-append {X = ℕ})
good_on layout lost text b on = refl

pub ended_none : ended_numbers [] ≡ []
unfolding ended_numbers ended_parts
ended_none = refl

-- after the end of a line all is good, exactly if it was before and this byte has no fault
pub good_end : (layout : Layout) (complete : List Block) (now : Now) (text : List ℕ)
    → is_good layout (after_line layout complete now (open_line text)).now []
    ≡ (is_good layout now (open_line text) && is_none (fault_within_limit layout now text 10))
unfolding wrong_size are_due
good_end layout complete seeking text = grind (arith, nat_tests, ended_none)
good_end layout complete (inside block) text =
    rw (gap_fault layout block text 10 refl)
    (grind (arith, append-nil {A = ℕ}, due_line layout block text, ended_none))
good_end layout complete lost text = refl

-- ---- a text with one byte more

-- the state after the ended lines of a text
abbrev pub stand_of : Layout → List ℕ → Stand
stand_of layout text = stand layout (ended_lines text)

pub stand-push : (layout : Layout) (lines : List (List ℕ)) (line : List ℕ)
    → stand layout (lines ++ line ∷ []) ≡ stand_after layout (stand layout lines) line
unfolding stand
stand-push layout lines line = fold-append (stand_after layout) _ lines (line ∷ [])

-- after a byte that ends the line, and after one that doesn't
pub stand_of-end : (layout : Layout) (text : List ℕ) (b : ℕ) → is_line_end b ≡ true
    → stand_of layout (text ++ b ∷ []) ≡ stand_after layout (stand_of layout text) (open_line text)
stand_of-end layout text b e = rw (ended_parts-push is_line_end text b, e) (stand-push layout _ _)

pub stand_of-on : (layout : Layout) (text : List ℕ) (b : ℕ) → is_line_end b ≡ false
    → stand_of layout (text ++ b ∷ []) ≡ stand_of layout text
stand_of-on layout text b e = rw (ended_parts-push is_line_end text b, e)

pub open_line-end : (text : List ℕ) (b : ℕ) → is_line_end b ≡ true → open_line (text ++ b ∷ []) ≡ []
open_line-end text b e = rw (open_part-push is_line_end text b, e)

pub open_line-on : (text : List ℕ) (b : ℕ) → is_line_end b ≡ false
    → open_line (text ++ b ∷ []) ≡ open_line text ++ b ∷ []
open_line-on text b e = rw (open_part-push is_line_end text b, e)

-- ---- complete blocks remain

-- a line completes no block, or one, after which the next is sought
pub one_line : (layout : Layout) (before : Stand) (line : List ℕ)
    → ((stand_after layout before line).complete ≡ before.complete)
    ⊎ ((block : Block) × (stand_after layout before line ≡ completed before.complete block))
unfolding stand_after
one_line layout before line = grind arith

-- the longer list is these blocks, and maybe more
abbrev pub Extends : List Block → List Block → Type 0
Extends complete longer = (more : List Block) × (longer ≡ complete ++ more)

pub line_extends : (layout : Layout) (first : List Block) (before : Stand) (line : List ℕ)
    → Extends first before.complete → Extends first (stand_after layout before line).complete
line_extends layout first before line so_far = elim (one_line layout before line) [
  | inl none ↦ (so_far.0, none ∙ so_far.1)
  | inr one ↦ (so_far.0 ++ one.0 ∷ [], rw (one.1, so_far.1) (append_assoc first so_far.0 (one.0 ∷ [])))
]

-- the complete blocks of a text are the first of those of a longer text
pub extends : (layout : Layout) (text more : List ℕ)
    → Extends (stand_of layout text).complete (stand_of layout (text ++ more)).complete
extends layout text =
    by_push (λ more. Extends (stand_of layout text).complete (stand_of layout (text ++ more)).complete)
    ([], rw (append-nil text) (sym (append-nil _))) (λ more b so_far.
    rw (← append_assoc text more (b ∷ [])) (elim (cases_Bool (is_line_end b)) [
      | inl ends ↦ rw (stand_of-end layout (text ++ more) b ends)
          (line_extends layout (stand_of layout text).complete _ (open_line (text ++ more)) so_far)
      | inr on ↦ rw (stand_of-on layout (text ++ more) b on) so_far
    ]))

pub fewer_before : (layout : Layout) (text more : List ℕ)
    → length (stand_of layout text).complete ≤ length (stand_of layout (text ++ more)).complete
fewer_before layout text more =
    let longer = extends layout text more in
    omega (arith, ap length longer.1, length-append (stand_of layout text).complete longer.0)

-- ---- texts without a fault

module _ (layout : Layout) (k : ℕ) where
  -- the ended lines leave fewer than k blocks complete
  abbrev pub Few : List ℕ → Type 0
  Few text = length (stand_of layout text).complete < k

  abbrev pub AllGood : List ℕ → Bool
  AllGood text = is_good layout (stand_of layout text).now (open_line text)

  pub place_fault : (text : List ℕ) (b : ℕ) → Few text → length text < LONGEST_INPUT
      → fault_of_place layout k text (Some b) ≡ fault_within_limit layout (stand_of layout text).now text b
  unfolding fault_of_place ends_early
  place_fault text b few short = grind (arith, nat_tests)

  -- after a text as long as the limit, a byte has the fault `TooLong`
  pub long_fault : (text : List ℕ) (b : ℕ) → Few text → AllGood text ≡ true → length text ≡ LONGEST_INPUT
      → fault_of_place layout k text (Some b) ≡ Some TooLong
  unfolding fault_of_place
  long_fault text b few good full = grind (arith, nat_tests)

  -- after k complete blocks no place has a fault
  pub enough_right : (text : List ℕ) (next : Option ℕ) → k ≤ length (stand_of layout text).complete
      → fault_of_place layout k text next ≡ None
  unfolding fault_of_place
  enough_right text next enough = rw (le-ltb _ k enough)

  -- within the limit, no byte of a text has a fault, exactly if k blocks are complete or all is good
  abbrev pub Validated : List ℕ → Type 0
  Validated text = length text ≤ LONGEST_INPUT
      → is_none (byte_fault layout k text) ≡ (nat_le k (length (stand_of layout text).complete) || AllGood text)

  valid_more : (text : List ℕ) (b : ℕ) → Validated text → Validated (text ++ b ∷ [])
  unfolding stand_after
  valid_more text b validated short =
      let before : Stand = stand_of layout text in
      let size = length_push text b in
      let so_far = validated (omega arith) in
      let here = place_fault text b in
      let enough = enough_right text (Some b) in
      rw (byte_fault-push layout k text b) (elim (cases_Bool (is_line_end b)) [
        | inl ends ↦
            let good = good_end layout before.complete before.now text in
            rw (stand_of-end layout text b ends, open_line-end text b ends) (grind (arith, nat_tests, one_line))
        | inr on ↦
            let good = good_on layout before.now text b on in
            rw (stand_of-on layout text b on, open_line-on text b on) (grind (arith, nat_tests))
      ])

  pub validated : (text : List ℕ) → Validated text
  unfolding byte_fault open_part stand ended_parts
  validated = by_push Validated (λ short. grind (arith, nat_tests)) valid_more

  -- if no byte of a text has a fault, then none before the last has one, and the last has none
  pub faultless_front : (text : List ℕ) (b : ℕ) → byte_fault layout k (text ++ b ∷ []) ≡ None
      → (byte_fault layout k text ≡ None) × (fault_of_place layout k text (Some b) ≡ None)
  faultless_front text b right = or_none _ _ (rw byte_fault-push at right)

  -- a good text with one more byte, without a fault, is within the limit
  short_more : (text : List ℕ) (b : ℕ) → byte_fault layout k (text ++ b ∷ []) ≡ None → Few text
      → length text ≤ LONGEST_INPUT → AllGood text ≡ true → length (text ++ b ∷ []) ≤ LONGEST_INPUT
  short_more text b right few short good =
      let none = (faultless_front text b right).1 in
      grind (arith, length_push text b, long_fault text b few good)

  -- while no byte has a fault and fewer than k blocks are complete, the text is within the limit and all is good
  pub sound : (text : List ℕ) → byte_fault layout k text ≡ None → Few text
      → (length text ≤ LONGEST_INPUT) × (AllGood text ≡ true)
  unfolding open_part stand ended_parts
  sound = by_push (λ text. byte_fault layout k text ≡ None → Few text
      → (length text ≤ LONGEST_INPUT) × (AllGood text ≡ true)) (λ right few. (omega arith, refl)) (λ text b h right few.
      let longer = fewer_before layout text (b ∷ []) in
      let fewer : Few text = omega arith in
      let so_far = h (faultless_front text b right).0 fewer in
      let within = short_more text b right fewer so_far.0 so_far.1 in
      (within, grind (arith, nat_tests, validated (text ++ b ∷ []) within)))

  -- so the byte that completes k blocks is within the limit
  pub sound_more : (text : List ℕ) (b : ℕ) → byte_fault layout k (text ++ b ∷ []) ≡ None → Few text
      → length (text ++ b ∷ []) ≤ LONGEST_INPUT
  sound_more text b right few =
      let so_far = sound text (faultless_front text b right).0 few in
      short_more text b right few so_far.0 so_far.1
