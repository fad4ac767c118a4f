-- Lists made of rows of one width, by row and column.
use Rattle.pfs_layout.proofs.Words.{◌≡◌, ℕ, zero, suc, ◌+◌, ◌*◌, ◌/◌, ◌%◌, ◌<◌, List, length, get_or, map, flat_map}
use Rattle.pfs_layout.proofs.Words.{sym, ◌∙◌, arith, All, length-append, elements, same_number_lists, All-from_get_or}
use Rattle.pfs_layout.proofs.Words.{get_or-map-range_with_len, length-map-range_with_len, below, flat_map_more}
use Rattle.pfs_layout.proofs.Words.{flat_map_from}
use Rattle.std.proofs.Common.{div-lt_iff_lt-mul, mod-lt}

module _ (f : ℕ → List ℕ) (w : ℕ) (each : (i : ℕ) → length (f i) ≡ w) where
  pub length-rows : (n : ℕ) → length (flat_map f (below n)) ≡ n * w
  length-rows zero = omega arith
  length-rows (suc n) = grind (arith, flat_map_more f n, each, length-rows n, length-append {A = ℕ})

  pub rows_at : (n r c d : ℕ) → r < n → c < w → get_or (flat_map f (below n)) (r * w + c) d ≡ get_or (f r) c d
  rows_at n r c d h l =
      let parts = flat_map_from f r n h in grind (arith, elements, parts.1, each, length-rows)

-- the entry k is in this row and this column, in rows of this width
pub record IsAt (k rows width : ℕ) : Type 0 where
  pub row : ℕ
  pub column : ℕ
  pub row_in : row < rows
  pub column_in : column < width
  pub is : k ≡ row * width + column

pub at_row : (k rows width : ℕ) → k < rows * width → IsAt k rows width
at_row k rows w h =
    let some : 0 < w = grind arith in
    record {
      row = k / w;
      column = k % w;
      row_in = (div-lt_iff_lt-mul some).1 h;
      column_in = mod-lt k some;
      is = omega arith;
    }

-- the values of a function at each row and column
abbrev pub table : (ℕ → ℕ → ℕ) → ℕ → ℕ → List ℕ
table f rows width = flat_map (λ row. map (λ column. f row column) (below width)) (below rows)

module _ (f : ℕ → ℕ → ℕ) (rows width : ℕ) where
  abbrev table_row : ℕ → List ℕ
  table_row row = map (λ column. f row column) (below width)

  pub length-table : length (table f rows width) ≡ rows * width
  length-table = length-rows table_row width (λ row. length-map-range_with_len (λ column. f row column) 0 width) rows

  pub table_at : (row column d : ℕ) → row < rows → column < width
      → get_or (table f rows width) (row * width + column) d ≡ f row column
  table_at row column d r c =
      rows_at table_row width (λ row. length-map-range_with_len (λ column. f row column) 0 width) rows row column d r c
      ∙ get_or-map-range_with_len (λ column. f row column) 0 width column column d c (omega arith)

  -- a list with those elements is that table
  pub same_table : (xs : List ℕ) → length xs ≡ rows * width
      → ((row column : ℕ) → row < rows → column < width → get_or xs (row * width + column) 0 ≡ f row column)
      → xs ≡ table f rows width
  same_table xs size each = same_number_lists xs (table f rows width) (size ∙ sym length-table) (λ k h.
      let at = at_row k rows width (omega (arith, size)) in grind (arith, at.is, each, table_at))

  pub all_table : (P : ℕ → Type 0) → ((row column : ℕ) → row < rows → column < width → P (f row column))
      → All P (table f rows width)
  all_table P each = All-from_get_or P (table f rows width) 0 (λ k h.
      let at = at_row k rows width (omega (arith, length-table)) in
      rw (at.is, table_at at.row at.column 0 at.row_in at.column_in) (each at.row at.column at.row_in at.column_in))
