-- The rows of a body, number by number and line by line.
use Rattle.pfs_layout.proofs.Words.{◌∙◌, slice_index, if◌then◌else◌, inl, inr, ◌%◌, ◌/◌, ◌==◌, ◌≡◌, ℕ, ◌+◌, ◌*◌, ◌<◌}
use Rattle.pfs_layout.proofs.Words.{List, [], ◌∷◌, length, ◌++◌, take, flat_map, refl, add-one, arith, take_all, below}
use Rattle.pfs_layout.proofs.Words.{cases_eq, get_or-map-range_with_len, FlowShop, time_of, spaced, flat_map_more}
use Rattle.pfs_layout.proofs.Words.{flat_map_from, Layout, Taillard, OrLib, due_row, row_count, row_line, row_lines}
use Rattle.pfs_base.specs.Text.{entry}
use Rattle.pfs_base.proofs.Published.Printing.{line_on}
use Rattle.pfs_base.proofs.Published.SendsOn.{GoesOn}
use Rattle.pfs_layout.proofs.Files.DueLemmas.{length_due_row, pairs_of}
use Rattle.pfs_layout.proofs.Tables.{rows_at}

-- ---- a row, number by number

-- the first numbers of a row's line
abbrev pub row_begun : Layout → FlowShop → ℕ → ℕ → List ℕ
row_begun layout shop row count = spaced (take count (due_row layout shop row))

-- a row continues with the number at a place
pub number_on : (layout : Layout) (shop : FlowShop) (row place : ℕ) → place < length (due_row layout shop row)
    → GoesOn (row_line layout shop row) (row_begun layout shop row place)
    (entry place (slice_index (due_row layout shop row) place)) (row_begun layout shop row (place + 1))
number_on layout shop row place within = line_on (due_row layout shop row) place within

-- this number is a time, or a machine and then its time
abbrev number : Layout → FlowShop → ℕ → ℕ → ℕ
number Taillard shop row place = time_of shop place row
number OrLib shop row place = if place % 2 == 0 then place / 2 else time_of shop row (place / 2)

pub number_is : (layout : Layout) (shop : FlowShop) (row place : ℕ) → place < length (due_row layout shop row)
    → slice_index (due_row layout shop row) place ≡ number layout shop row place
unfolding due_row
number_is Taillard shop row place within =
    get_or-map-range_with_len (λ job. time_of shop job row) 0 shop.jobs place place 0
    (omega (arith, length_due_row Taillard shop row)) (omega arith)
number_is OrLib shop row place within =
    let at : place / 2 * 2 + place % 2 ≡ place = omega arith in
    let pair = rows_at (pairs_of shop row) 2 (λ i. refl) shop.machines (place / 2) (place % 2) 0
    (omega (arith, length_due_row OrLib shop row)) (omega arith) in
    rw at at pair ∙ elim (cases_eq (place % 2) 0) [
      | inl even ↦ rw even
      | inr odd ↦ let one : place % 2 ≡ 1 = omega arith in rw one
    ]

-- a row is all of its numbers, and a line end
pub row_ends : (layout : Layout) (shop : FlowShop) (row count : ℕ) → length (due_row layout shop row) ≡ count
    → row_line layout shop row ≡ row_begun layout shop row count ++ 10 ∷ []
row_ends layout shop row count all = rw (take_all count (due_row layout shop row) (omega arith))

-- ---- the body, row by row

-- the lines of the first rows
abbrev pub rows_begun : Layout → FlowShop → ℕ → List ℕ
rows_begun layout shop count = flat_map (row_line layout shop) (below count)

pub row_on : (layout : Layout) (shop : FlowShop) (row : ℕ) → row < row_count layout shop
    → GoesOn (row_lines layout shop) (rows_begun layout shop row) (row_line layout shop row)
    (rows_begun layout shop (row + 1))
row_on layout shop row within =
    let parts = flat_map_from (row_line layout shop) row (row_count layout shop) within in
    let adds : rows_begun layout shop (row + 1) ≡ rows_begun layout shop row ++ row_line layout shop row =
    rw add-one (flat_map_more (row_line layout shop) row) in
    record { rest = parts.0; adds = adds; whole = rw adds parts.1 }
