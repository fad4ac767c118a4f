-- Canonical texts: their length, and that they are instance files.
use Rattle.pfs_layout.proofs.Words.{false_from_ne_true, flat_map-append, All-from_get_or, list_any-append, append_assoc}
use Rattle.pfs_layout.proofs.Words.{list_all-append, AllByRecursion, canonical_text, IsInstanceFile, is_number_line, []}
use Rattle.pfs_layout.proofs.Words.{length-append, LONGEST_INPUT, flat_map_more, is_word_byte, stated_size, is_line_end}
use Rattle.pfs_layout.proofs.Words.{is_no_digit, ended_parts, mul-le-mul, IsInstance, row_count, row_lines, nat_tests}
use Rattle.pfs_layout.proofs.Words.{open_part, flat_map, FlowShop, Taillard, row_line, list_any, list_all, is_mixed, ℕ}
use Rattle.pfs_layout.proofs.Words.{due_row, add-one, Problem, numbers, size_of, length, limits, spaced}
use Rattle.pfs_layout.proofs.Words.{Layout, arith, below, OrLib, false, lines, List, Size, Bool, true, ◌++◌, refl}
use Rattle.pfs_layout.proofs.Words.{suc, ◌+◌, ◌*◌, ◌<◌, ◌≤◌, ◌∷◌, map, ◌≡◌, ◌-◌, not, sym, All, due, get_or, ◌/◌}
use Rattle.pfs_layout.proofs.Words.{zero, take, length-take, all_but_last}
use Rattle.std.proofs.Common.{◌^◌, lit<, decimal}
use Rattle.pfs_layout.specs.CanonicalText.{head_lines, as_written, size_numbers}
use Rattle.pfs_layout.specs.Block.{numbers_of, preamble_of}
use Rattle.pfs_layout.specs.Laws.{CanonicalLaw, CanonicalTextsFit}
use Rattle.pfs_layout.proofs.Files.VerdictLemmas.{all_of}
use Rattle.std.proofs.lemmas.List.Elements.{recursion_from_All}
use Rattle.std.proofs.lemmas.Fmt.{length-decimal-le, decimal_is_IsNumeral}
use Rattle.std.proofs.lemmas.List.Concat.{length-flat_map}
use Rattle.std.proofs.lemmas.List.FromFn.{length-range_with_len, map-range_with_len_more}
use Rattle.std.proofs.lemmas.List.Sums.{sum_by-le}
use Rattle.pfs_base.specs.FlowShop.{IsWithin}
use Rattle.pfs_layout.proofs.Files.DueLemmas.{length_due_row, row_width, short_at}
use Rattle.std.proofs.lemmas.List.Folds.{list_any_none, list_any_at}
use Rattle.std.proofs.lemmas.List.Splits.{slice_split_none, slice_split_at}
use Rattle.std.proofs.lemmas.Str.Parse.{digit_at}
use Rattle.pfs_base.specs.Text.{with_line_end}
use Rattle.pfs_layout.proofs.Files.LineLemmas.{lines-line, IsOpen}
use Rattle.pfs_layout.proofs.Files.FileLemmas.{no_numbers}
use Rattle.pfs_layout.proofs.Texts.WritingLemmas.{number_is}

-- the numbers are less than 2 ^ 64
abbrev pub NumeralsFit : List ℕ → Type 0
NumeralsFit ns = AllByRecursion (λ n. n < 2 ^ 64) ns

-- a line has at most 21 bytes for each number
length-spaced : (ns : List ℕ) → NumeralsFit ns → length (spaced ns) ≤ 21 * length ns
length-spaced [] fit = omega arith
length-spaced (n ∷ []) fit = omega (arith, length-decimal-le 20 n (lit< tt) (omega arith) fit.0)
length-spaced (n ∷ m ∷ ns) fit =
    let numeral = length-decimal-le 20 n (lit< tt) (omega arith) fit.0 in
    omega (arith, length-append {A = ℕ}, length-spaced (m ∷ ns) fit.1)

-- ---- the lines before the rows

fit_front : (n : ℕ) (ns : List ℕ) → NumeralsFit ns → NumeralsFit (take n ns)
fit_front zero ns fit = tt
fit_front (suc n) [] fit = tt
fit_front (suc n) (m ∷ ns) fit = (fit.0, fit_front n ns fit.1)

-- the length of the lines before the body, if all numbers of the size are less than 2 ^ 64
pub length-head_lines : (layout : Layout) (size : Size) → NumeralsFit (numbers_of size)
    → length (head_lines layout size) ≤ 1000
length-head_lines layout size fit =
    let short = length-spaced (size_numbers layout size) (fit_front _ (numbers_of size) fit) in
    grind (arith, length-append {A = ℕ}, length-take {A = ℕ}, short)

-- ---- the rows

fit_by_place : (ns : List ℕ) → ((k : ℕ) → k < length ns → get_or ns k 0 < 2 ^ 64) → NumeralsFit ns
fit_by_place ns each = recursion_from_All _ ns (All-from_get_or (λ n. n < 2 ^ 64) ns 0 each)

pub row_fits : (layout : Layout) (shop : FlowShop) (row : ℕ) → IsWithin limits shop
    → NumeralsFit (due_row layout shop row)
row_fits Taillard shop row within = fit_by_place (due_row Taillard shop row) (λ k h.
    omega (arith, number_is Taillard shop row k h, short_at shop.times within.short_times (k * shop.machines + row)))
row_fits OrLib shop row within = fit_by_place (due_row OrLib shop row) (λ k h.
    let short = short_at shop.times within.short_times (row * shop.machines + k / 2) in
    grind (arith, nat_tests, number_is OrLib shop row k h, length_due_row OrLib shop row, within.sizes.few_machines))

length-row_line : (layout : Layout) (shop : FlowShop) (row : ℕ) → IsWithin limits shop
    → length (row_line layout shop row) ≤ 21 * row_width layout shop + 1
length-row_line layout shop row within =
    let numbers = length-spaced (due_row layout shop row) (row_fits layout shop row within) in
    omega (arith, length-append {A = ℕ}, length_due_row layout shop row)

-- the length of the body leaves room for the lines before it
pub length-row_lines : (layout : Layout) (shop : FlowShop) → IsWithin limits shop
    → length (row_lines layout shop) + 1000 ≤ LONGEST_INPUT
length-row_lines layout shop within =
    let count = length-range_with_len 0 (row_count layout shop) in
    let room : row_count layout shop * (21 * row_width layout shop + 1) + 1000 ≤ LONGEST_INPUT =
    grind (arith, mul-le-mul within.sizes.few_machines within.sizes.few_jobs) in
    let each = sum_by-le (λ row. length (row_line layout shop row)) (21 * row_width layout shop + 1)
    (below (row_count layout shop)) (λ k d h. length-row_line layout shop _ within) in
    omega (arith, rw count at each, length-flat_map (row_line layout shop) (below (row_count layout shop)))

numbers_fit : (problem : Problem) → IsInstance limits problem → NumeralsFit (numbers_of (size_of problem))
numbers_fit problem is = omega arith

pub canonical_texts_fit : CanonicalTextsFit
unfolding canonical_text
canonical_texts_fit layout problem is =
    let head = length-head_lines layout (size_of problem) (numbers_fit problem is) in
    let rows = length-row_lines layout problem.shop is.within in
    omega (arith, length-append (head_lines layout (size_of problem)) (row_lines layout problem.shop))

-- ---- a canonical text is an instance file

-- ---- bytes of a line of numbers

module _ (test : ℕ → Bool) (digit : (b : ℕ) → 48 ≤ b → b ≤ 57 → test b ≡ false) where
  -- a test that no digit passes, no byte of a numeral passes
  numeral_fails : (n : ℕ) → n < 2 ^ 64 → All (λ b. test b ≡ false) (decimal n)
  numeral_fails n h = All-from_get_or (λ b. test b ≡ false) (decimal n) 0 (λ i within.
      let range = digit_at (decimal n) i (decimal_is_IsNumeral n h).0.1 within in digit _ range.0 range.1)

  -- and if a space doesn't pass it either, no byte of a line of numbers does
  line_fails : test 32 ≡ false → (ns : List ℕ) → NumeralsFit ns → list_any test (spaced ns) ≡ false
  line_fails space [] fit = refl
  line_fails space (n ∷ []) fit = list_any_none test (decimal n) (numeral_fails n fit.0)
  line_fails space (n ∷ m ∷ ns) fit =
      rw (list_any-append, list_any_none test (decimal n) (numeral_fails n fit.0), space)
      (line_fails space (m ∷ ns) fit.1)

no_word_byte : (ns : List ℕ) → NumeralsFit ns → list_any is_word_byte (spaced ns) ≡ false
no_word_byte = line_fails is_word_byte (λ b low high. grind (arith, nat_tests)) refl

no_line_end : (ns : List ℕ) → NumeralsFit ns → list_any is_line_end (spaced ns) ≡ false
no_line_end = line_fails is_line_end (λ b low high. grind (arith, nat_tests)) refl

numeral_run : (n : ℕ) → n < 2 ^ 64 → All (λ b. is_no_digit b ≡ false) (decimal n)
numeral_run = numeral_fails is_no_digit (λ b low high. grind (arith, nat_tests))

-- ---- the numbers and the kind of a line of numbers

numbers_spaced : (ns : List ℕ) → NumeralsFit ns → numbers (spaced ns) ≡ ns
unfolding numbers
numbers_spaced [] fit = refl
numbers_spaced (n ∷ []) fit =
    let numeral = decimal_is_IsNumeral n fit.0 in
    rw (slice_split_none is_no_digit (decimal n) (numeral_run n fit.0)) (grind (arith, numeral.0.0, numeral.1))
numbers_spaced (n ∷ m ∷ ns) fit =
    let numeral = decimal_is_IsNumeral n fit.0 in
    rw (slice_split_at is_no_digit (decimal n) 32 (spaced (m ∷ ns)) (numeral_run n fit.0) refl)
    (grind (arith, numeral.0.0, numeral.1, numbers_spaced (m ∷ ns) fit.1))

number_line : (ns : List ℕ) → 0 < length ns → NumeralsFit ns → is_number_line (spaced ns) ≡ true
number_line ns some fit = grind (arith, numbers_spaced ns fit, no_numbers (spaced ns), no_word_byte ns fit)

-- ---- the lines of a text

-- an ended line, and more lines
more_lines : (line text : List ℕ) {parts : List (List ℕ)} → list_any is_line_end line ≡ false → lines text ≡ parts
    → lines (with_line_end line ++ text) ≡ line ∷ parts
more_lines line text none are =
    let unended : IsOpen line = λ k d h.
    false_from_ne_true _ (λ ends. cc (none, list_any_at is_line_end line k d h ends)) in
    rw (append_assoc line (10 ∷ []) text, lines-line line 10 text unended refl, are)

abbrev row_numerals : Layout → FlowShop → ℕ → List ℕ
row_numerals layout shop row = spaced (due_row layout shop row)

module _ (layout : Layout) (problem : Problem) (is : IsInstance limits problem) where
  fits : (row : ℕ) → NumeralsFit (due_row layout problem.shop row)
  fits row = row_fits layout problem.shop row is.within

  rows_are : (rows : List ℕ)
      → lines (flat_map (row_line layout problem.shop) rows) ≡ map (row_numerals layout problem.shop) rows
  unfolding lines ended_parts open_part
  rows_are [] = refl
  rows_are (row ∷ rows) = more_lines _ _ (no_line_end (due_row layout problem.shop row) (fits row)) (rows_are rows)

  rows_unmixed : (rows : List ℕ)
      → list_all (λ line. not (is_mixed line)) (map (row_numerals layout problem.shop) rows) ≡ true
  rows_unmixed [] = refl
  rows_unmixed (row ∷ rows) =
      grind (arith, no_word_byte (due_row layout problem.shop row) (fits row), rows_unmixed rows)

  rows_numbers : (rows : List ℕ)
      → flat_map numbers (map (row_numerals layout problem.shop) rows) ≡ flat_map (due_row layout problem.shop) rows
  rows_numbers [] = refl
  rows_numbers (row ∷ rows) = rw (numbers_spaced (due_row layout problem.shop row) (fits row), rows_numbers rows)

  -- the line that is written before the size line, and the lines that are written after it
  abbrev title : List ℕ
  title = all_but_last (preamble_of layout).before

  abbrev between : List (List ℕ)
  between = lines (preamble_of layout).after

  -- the text is a file, if the line before is not a number line, and no line after has a digit
  file_is : (n : ℕ) → row_count layout problem.shop ≡ n + 1 → 0 < row_width layout problem.shop
      → is_number_line title ≡ false → list_all (λ line. not (is_mixed line)) between ≡ true
      → flat_map numbers between ≡ []
      → ((text : List ℕ) → lines ((preamble_of layout).before ++ text) ≡ title ∷ lines text)
      → ((text : List ℕ) → lines ((preamble_of layout).after ++ text) ≡ between ++ lines text)
      → IsInstanceFile limits layout (canonical_text layout problem) 1 (as_written layout problem)
  unfolding canonical_text stated_size due
  file_is n rows columns plain unmixed none before after =
      let sizes : List ℕ = size_numbers layout (size_of problem) in
      let fit : NumeralsFit sizes = fit_front _ (numbers_of (size_of problem)) (numbers_fit problem is) in
      let row : ℕ → List ℕ = row_numerals layout problem.shop in
      let body : List ℕ = row_lines layout problem.shop in
      let last : List ℕ = due_row layout problem.shop n in
      let joined = flat_map-append numbers between (map row (below n)) in
      let all_rows = flat_map_more (due_row layout problem.shop) n in
      record {
        front = all_of (canonical_text layout problem) (canonical_texts_fit layout problem is);
        blocks = record {
          earlier = [];
          own = title ∷ spaced sizes ∷ (between ++ map row (below (row_count layout problem.shop)));
          parts =
              rw (
                append_assoc _ _ body,
                append_assoc _ _ ((preamble_of layout).after ++ body),
                before,
                more_lines (spaced sizes) _ (no_line_end sizes fit) refl,
                after,
              )
              (rw (rows_are (below (row_count layout problem.shop))));
          count = refl;
          each = tt;
          is_own = record {
            skipped = title ∷ [];
            size_line = spaced sizes;
            front = between ++ map row (below n);
            last = row n;
            parts =
                rw (rows, map-range_with_len_more row 0 n n (omega arith), append_assoc between (map row (below n)));
            no_numbers = rw plain;
            number_line = number_line sizes (grind (arith, length-take {A = ℕ})) fit;
            states = rw (numbers_spaced sizes fit) (grind arith);
            front_unmixed = rw (list_all-append, unmixed) (rows_unmixed (below n));
            last_numbers = number_line last (omega (arith, length_due_row layout problem.shop n)) (fits n);
            holds =
                rw (joined, none, rows_numbers (below n), numbers_spaced last (fits n), rows, add-one) (sym all_rows);
            within = grind (arith, is.within, is.seed, is.upper, is.lower);
          };
        };
      }

pub canonical_law : CanonicalLaw
unfolding numbers lines ended_parts open_part
canonical_law Taillard problem is =
    file_is Taillard problem is (problem.shop.machines - 1) (omega (arith, is.within.sizes.some_machine))
    (omega (arith, is.within.sizes.some_job)) refl refl refl (λ text. more_lines _ text refl refl)
    (λ text. more_lines _ text refl refl)
canonical_law OrLib problem is =
    file_is OrLib problem is (problem.shop.jobs - 1) (omega (arith, is.within.sizes.some_job))
    (omega (arith, is.within.sizes.some_machine)) refl refl refl (λ text. more_lines _ text refl refl) (λ text. refl)
